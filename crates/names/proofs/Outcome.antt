-- Names at their places, one after the other, either all find room, and then those that are known are all the different ones and each
-- number is a place among them; or one finds eight others before it and is none of them. By recursion on the places. Assumes nothing.
use mathlib.Core.Bool.{Bool, true, false, cond}
use mathlib.Core.Path.{◌≡◌, refl, sym, ap, ◌∙◌}
use mathlib.Core.Logic.{◌⊎◌, inl, inr, ⊎_elim}
use mathlib.Core.List.{List, [], ◌∷◌, ◌++◌, map, foldl}
use Prim.Native.Nat.{ℕ, ◌≤◌, ◌<◌}
use native.Mathlib.Omega.{arith}
use lib.Dec.{ltb}
use lib.ListN.{length, length-append}
use borrow.Author.Tests.{lt-ltb, le-ltb, ltb-true, ltb-false}
use Rattle.formula.specs.Formula.{Name}
use Rattle.evalset.specs.Most.{most}
use Rattle.contact.specs.Numbering.{position, same_name}
use Rattle.contact.proofs.Naming.{name_alike}
use Rattle.names.specs.declared.NamesAnswer.{NamesAnswer}
use Rattle.names.specs.Gather.{with_name, Numbered, numbered, behind, names_after}
use Rattle.contact.specs.Putting.{is_in, put}
use Rattle.names.specs.Ninth.{names_at, NameAt, name_at}
use Rattle.contact.proofs.Distinct.{put_all_longer, put_all_position}

-- all the different names, and where each stands among them
abbrev pub all_of : List Name → List NameAt → List Name
all_of ks xs = foldl (put same_name) ks (names_at xs)

abbrev pub numbers_in : List Name → List NameAt → List ℕ
numbers_in ns xs = map (position same_name ns) (names_at xs)

pub record Fits (ks : List Name) (xs : List NameAt) : Type 0 where
  pub few : length (all_of ks xs) ≤ most
  pub result : names_after ks xs ≡ numbered (all_of ks xs) (numbers_in (all_of ks xs) xs) NamesAnswer.Enough

pub record Stops (ks : List Name) (xs : List NameAt) : Type 0 where
  pub before : List NameAt
  pub place : ℕ
  pub name : Name
  pub after : List NameAt
  pub split : xs ≡ before ++ name_at place name ∷ after
  pub full : length (all_of ks before) ≡ most
  pub new : is_in same_name (all_of ks before) name ≡ false
  pub result : names_after ks xs ≡ numbered (all_of ks before) (numbers_in (all_of ks before) before) (NamesAnswer.TooManyNames place)

module _ (ks : List Name) (x : NameAt) (xs : List NameAt) where
  abbrev after : List Name
  after = put same_name ks x.name

  abbrev next : Bool → Numbered
  next b = cond b (numbered ks [] (NamesAnswer.TooManyNames x.place)) (behind (position same_name ks x.name ∷ []) (names_after after xs))

  turn : names_after ks (x ∷ xs) ≡ next (ltb most (length after))
  unfolding names_after with_name
  turn = refl

  -- there is room for it
  goes_on : length after ≤ most → names_after ks (x ∷ xs) ≡ behind (position same_name ks x.name ∷ []) (names_after after xs)
  goes_on h = turn ∙ ap next (le-ltb most (length after) h)

  -- or there is none
  stops : most < length after → names_after ks (x ∷ xs) ≡ numbered ks [] (NamesAnswer.TooManyNames x.place)
  stops h = turn ∙ ap next (lt-ltb most (length after) h)

  -- in that case it is new and eight are known
  new_and_full : length ks ≤ most → most < length after → (is_in same_name ks x.name ≡ false) × (length ks ≡ most)
  new_and_full few h = go (is_in same_name ks x.name) refl h
    where
      go : (b : Bool) → is_in same_name ks x.name ≡ b → most < length (cond b ks (ks ++ x.name ∷ [])) → (is_in same_name ks x.name ≡ false) × (length ks ≡ most)
      go true e l = absurd (omega arith)
      go false e l = (e, omega (arith, length-append ks (x.name ∷ [])))

  first_number : (more : List NameAt) → position same_name ks x.name ≡ position same_name (all_of after more) x.name
  first_number more = sym (put_all_position same_name name_alike ks (names_at more) x.name)

pub outcome : (ks : List Name) (xs : List NameAt) → length ks ≤ most → Fits ks xs ⊎ Stops ks xs
unfolding names_after
outcome ks [] h = inl (record { few = h; result = refl })
outcome ks (x ∷ xs) h = go (ltb most (length (after ks x xs))) refl (outcome (after ks x xs) xs)
  where
    on : length (after ks x xs) ≤ most → Fits (after ks x xs) xs → Fits ks (x ∷ xs)
    on l r =
        record {
          few = r.few;
          result =
              goes_on ks x xs l
              ∙ ap (behind (position same_name ks x.name ∷ [])) r.result
              ∙ ap (λ (n : ℕ). numbered (all_of ks (x ∷ xs)) (n ∷ numbers_in (all_of ks (x ∷ xs)) xs) NamesAnswer.Enough) (first_number ks x xs xs);
        }

    later : length (after ks x xs) ≤ most → Stops (after ks x xs) xs → Stops ks (x ∷ xs)
    later l r =
        record {
          before = x ∷ r.before;
          place = r.place;
          name = r.name;
          after = r.after;
          split = ap (λ (ys : List NameAt). x ∷ ys) r.split;
          full = r.full;
          new = r.new;
          result =
              goes_on ks x xs l
              ∙ ap (behind (position same_name ks x.name ∷ [])) r.result
              ∙ ap (λ (n : ℕ). numbered (all_of ks (x ∷ r.before)) (n ∷ numbers_in (all_of ks (x ∷ r.before)) r.before) (NamesAnswer.TooManyNames r.place))
              (first_number ks x xs r.before);
        }

    go : (b : Bool) → ltb most (length (after ks x xs)) ≡ b → (length (after ks x xs) ≤ most → Fits (after ks x xs) xs ⊎ Stops (after ks x xs) xs) → Fits ks (x ∷ xs) ⊎ Stops ks (x ∷ xs)
    go true e r =
        let l = ltb-true most (length (after ks x xs)) e in
        let z = new_and_full ks x xs h l in
        inr (record { before = []; place = x.place; name = x.name; after = xs; split = refl; full = z.1; new = z.0; result = stops ks x xs l })
    go false e r =
        let l = ltb-false most (length (after ks x xs)) e in
        ⊎_elim (λ q. inl (on l q)) (λ q. inr (later l q)) (r l)

-- a name that is new where eight are known is answered, with the names and numbers before it
pub ninth_answered : (ks : List Name) (before : List NameAt) (p : ℕ) (w : Name) (rest : List NameAt)
    → length (all_of ks before) ≡ most → is_in same_name (all_of ks before) w ≡ false
    → names_after ks (before ++ name_at p w ∷ rest) ≡ numbered (all_of ks before) (numbers_in (all_of ks before) before) (NamesAnswer.TooManyNames p)
ninth_answered ks [] p w rest full new =
    let z : put same_name ks w ≡ ks ++ w ∷ [] = ap (λ (b : Bool). cond b ks (ks ++ w ∷ [])) new in
    stops ks (name_at p w) rest (omega (arith, ap length z, length-append ks (w ∷ [])))
ninth_answered ks (x ∷ before) p w rest full new =
    let l : length (put same_name ks x.name) ≤ most = omega (arith, put_all_longer same_name (put same_name ks x.name) (names_at before)) in
    goes_on ks x (before ++ name_at p w ∷ rest) l
    ∙ ap (behind (position same_name ks x.name ∷ [])) (ninth_answered (put same_name ks x.name) before p w rest full new)
    ∙ ap (λ (n : ℕ). numbered (all_of ks (x ∷ before)) (n ∷ numbers_in (all_of ks (x ∷ before)) before) (NamesAnswer.TooManyNames p)) (first_number ks x before before)

-- then there are more than eight
pub stops_many : (ks : List Name) (xs : List NameAt) → Stops ks xs → most < length (all_of ks xs)
stops_many ks xs r = rw r.split (go r.before ks r.full r.new)
  where
    go : (before : List NameAt) (ls : List Name) → length (all_of ls before) ≡ most → is_in same_name (all_of ls before) r.name ≡ false
        → most < length (all_of ls (before ++ name_at r.place r.name ∷ r.after))
    go [] ls full new =
        let z : put same_name ls r.name ≡ ls ++ r.name ∷ [] = ap (λ (b : Bool). cond b ls (ls ++ r.name ∷ [])) new in
        omega (arith, ap length z, length-append ls (r.name ∷ []), put_all_longer same_name (put same_name ls r.name) (names_at r.after))
    go (x ∷ before) ls full new = go before (put same_name ls x.name) full new

-- never more than eight are known
pub few_after : (ks : List Name) (xs : List NameAt) → length ks ≤ most → length (names_after ks xs).names ≤ most
few_after ks xs h =
    ⊎_elim (λ r. rw r.result r.few) (λ r. rw r.result (omega (arith, r.full))) (outcome ks xs h)
