-- Names in arrays are as good as lists of names: a name is found again below the zeros that pad it, so that kept names are the same where
-- their bytes are, have the same numbers, and are put last alike. Assumes nothing.
use mathlib.Core.Bool.{Bool, true, false, ◌&&◌, cond}
use mathlib.Core.Path.{◌≡◌, refl, sym, ap, ap₂, ◌∙◌}
use mathlib.Core.List.{List, [], ◌∷◌, ◌++◌, map, map-append}
use mathlib.Mathlib.Data.Bool.Basic.{eq-false_of_not-eq-true}
use mathlib.Mathlib.Data.List.Basic.Function
use Prim.Native.Nat.{ℕ, suc, ◌+◌, ◌-◌, ◌≤◌, ◌<◌}
use native.Mathlib.Omega.{arith}
use native.Mathlib.Decide.{ℕ_discrete}
use lib.Dec.{eqb, ltb}
use lib.ListN.{length, take, replicate, length-append, length-map}
use lib.Seq.{take_at}
use borrow.Author.Tests.{eq-eqb, ne_eqb, lt-ltb, le-ltb}
use Rattle.lists.specs.Padded.{pad}
use Rattle.lists.proofs.Lists.{set_behind}
use Rattle.lists.proofs.Padded.{pad_taken}
use Rattle.formula.specs.Formula.{Name}
use Rattle.evalset.specs.Most.{most}
use Rattle.contact.specs.Numbering.{position, same_name}
use Rattle.contact.proofs.Naming.{same_name_lem}
use Rattle.names.specs.declared.KeptName.{KeptName}
use Rattle.names.specs.declared.Names.{Names}
use Rattle.contact.specs.Putting.{is_in}
use Rattle.names.specs.Gather.{with_name, kept_name, arrays_of, bytes_in, known_of, Kept}
use Rattle.names.specs.Steps.{same_kept, place_in, push, with_kept}
use Rattle.contact.proofs.Distinct.{position_in, position_out}

-- ---- one name

same_kept_lem : (v w : Name) → same_kept (kept_name v) w ≡ same_name v w
unfolding same_kept kept_name
same_kept_lem v w = go (ℕ_discrete (length v) (length w))
  where
    go : Dec (length v ≡ length w) → (eqb (length v) (length w) && same_name (take (length w) (pad 16 v)) w) ≡ same_name v w
    go (yes e) =
        ap (λ (t : Bool). t && same_name (take (length w) (pad 16 v)) w) (eq-eqb (length v) (length w) e)
        ∙ ap (λ (x : Name). same_name x w) (pad_taken 16 v (length w) e)
    go (no n) =
        ap (λ (t : Bool). t && same_name (take (length w) (pad 16 v)) w) (ne_eqb (length v) (length w) n)
        ∙ sym (eq-false_of_not-eq-true (λ h. n (ap length ((same_name_lem v w).0 h))))

-- its bytes and its length are found again
pub bytes_back : (w : Name) → bytes_in (kept_name w) ≡ w
unfolding kept_name
bytes_back w = pad_taken 16 w (length w) refl

pub size_back : (w : Name) → (kept_name w).len ≡ length w
unfolding kept_name
size_back w = refl

-- ---- the names

place_in_lem : (w : Name) (ks : List Name) → place_in w (map kept_name ks) ≡ position same_name ks w
unfolding place_in
place_in_lem w [] = refl
place_in_lem w (k ∷ ks) = ap₂ (λ (t : Bool) (n : ℕ). cond t 0 (suc n)) (same_kept_lem k w) (place_in_lem w ks)

kept_list : (ks : List Name) → take (arrays_of ks).count (arrays_of ks).list ≡ map kept_name ks
unfolding arrays_of
kept_list ks = take_at (map kept_name ks) (replicate (most - length ks) (kept_name [])) (length ks) (length-map ks kept_name)

pub kept_count : (ks : List Name) → (arrays_of ks).count ≡ length ks
unfolding arrays_of
kept_count ks = refl

-- the names that arrays hold are those that were put into them
pub known_back : (ks : List Name) → known_of (arrays_of ks) ≡ ks
unfolding known_of
known_back ks = ap (map bytes_in) (kept_list ks) ∙ Function.LeftInverse-list-map bytes_in kept_name bytes_back ks

pub kept_names : (ks : List Name) → length ks ≤ most → Kept (arrays_of ks)
kept_names ks h = record { canonical = ap arrays_of (sym (known_back ks)); few = omega (arith, kept_count ks) }

-- the number of a name
pub number_kept : (ks : List Name) (w : Name) → place_in w (take (arrays_of ks).count (arrays_of ks).list) ≡ position same_name ks w
number_kept ks w = ap (place_in w) (kept_list ks) ∙ place_in_lem w ks

abbrev names : List KeptName → ℕ → Names
names l n = record { list = l; count = n }

push_kept : (ks : List Name) (w : Name) → length ks < most → push (arrays_of ks) (kept_name w) ≡ arrays_of (ks ++ w ∷ [])
unfolding push arrays_of
push_kept ks w h =
    let n : length (ks ++ w ∷ []) ≡ length ks + 1 = length-append ks (w ∷ []) in
    let m : most - length ks - 1 ≡ most - length (ks ++ w ∷ []) = omega (arith, n) in
    ap (λ (l : List KeptName). names l (length ks + 1))
    (set_behind (map kept_name ks) (kept_name []) (kept_name w) (most - length ks) (length ks) (length-map ks kept_name) (omega arith)
    ∙ ap (λ (k : ℕ). map kept_name ks ++ kept_name w ∷ [] ++ replicate k (kept_name [])) m
    ∙ ap (λ (l : List KeptName). l ++ replicate (most - length (ks ++ w ∷ [])) (kept_name [])) (sym (map-append kept_name ks (w ∷ []))))
    ∙ ap (names (map kept_name (ks ++ w ∷ []) ++ replicate (most - length (ks ++ w ∷ [])) (kept_name []))) (sym n)

module _ (ks : List Name) (w : Name) (few : length ks ≤ most) where
  abbrev number : ℕ
  number = position same_name ks w

  -- one name more
  pub with_kept_lem : (number ≡ most → ⊥) → with_kept (arrays_of ks) w number ≡ arrays_of (with_name ks w)
  unfolding with_kept with_name
  with_kept_lem h = go (is_in same_name ks w) refl
    where
      go : (b : Bool) → is_in same_name ks w ≡ b → cond (ltb number (arrays_of ks).count) (arrays_of ks) (push (arrays_of ks) (kept_name w)) ≡ arrays_of (cond b ks (ks ++ w ∷ []))
      go true e =
          let l : number < (arrays_of ks).count = omega (arith, position_in same_name ks w e, kept_count ks) in
          ap (λ (t : Bool). cond t (arrays_of ks) (push (arrays_of ks) (kept_name w))) (lt-ltb number (arrays_of ks).count l)
      go false e =
          let f : number ≡ length ks = position_out same_name ks w e in
          let l : (arrays_of ks).count ≤ number = omega (arith, kept_count ks) in
          let r : length ks < most = omega arith in
          ap (λ (t : Bool). cond t (arrays_of ks) (push (arrays_of ks) (kept_name w))) (le-ltb number (arrays_of ks).count l)
          ∙ push_kept ks w r

  -- with it there are too many exactly if its number is too high
  pub too_many : number ≡ most → ltb most (length (with_name ks w)) ≡ true
  unfolding with_name
  too_many h = go (is_in same_name ks w) refl
    where
      go : (b : Bool) → is_in same_name ks w ≡ b → ltb most (length (cond b ks (ks ++ w ∷ []))) ≡ true
      go true e = absurd (omega (arith, position_in same_name ks w e))
      go false e = let f : number ≡ length ks = position_out same_name ks w e in lt-ltb most (length (ks ++ w ∷ [])) (omega (arith, length-append ks (w ∷ [])))

  pub not_too_many : (number ≡ most → ⊥) → length (with_name ks w) ≤ most
  unfolding with_name
  not_too_many h = go (is_in same_name ks w) refl
    where
      go : (b : Bool) → is_in same_name ks w ≡ b → length (cond b ks (ks ++ w ∷ [])) ≤ most
      go true e = few
      go false e = let f : number ≡ length ks = position_out same_name ks w e in omega (arith, length-append ks (w ∷ []))
