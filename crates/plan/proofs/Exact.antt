-- The reader reads exactly the plans, and refuses exactly where refusal 13 is due: a state that is not dead can be completed to a
-- plan, and a dead one stays dead. Assumes nothing.
use mathlib.Core.Path.{◌≡◌, refl, sym, ap, ap₂, ◌∙◌, subst}
use mathlib.Core.Logic.{⊎_elim}
use mathlib.Core.List.{List, [], ◌∷◌, ◌++◌, map, append-nil, append_assoc, map-append}
use Prim.Native.Nat.{ℕ, zero, suc, ◌+◌, ◌^◌, ◌≤◌, ◌<◌}
use native.Mathlib.Omega.{arith}
use lib.ListN.{length, length-append}
use Rattle.lists.proofs.Truth.{side}
use Rattle.lists.proofs.Lists.{prefix}
use Rattle.plan.specs.Words.{Plan, Ascends, Rises, IsPlan, first_word, point_word, last_word, before, words_of, Begins, Stops, Refusal}
use Rattle.plan.specs.Reader.{kind_of, State, start, pointing, linking, whole, dead, step, run, Reading, plan, refused, ended, unless, read_from, read_of, ReadingSays}
use Rattle.lists.specs.Search.{from}
use Rattle.lists.proofs.Search.{from_length}
use Rattle.plan.proofs.Sound.{Seen, PointsSeen, LinksSeen, seen}
use Rattle.plan.proofs.Complete.{complete, run_append}

-- ---- the states told apart
abbrev pub IsDead : State → Type 0
IsDead start = ⊥
IsDead (pointing n m pts low) = ⊥
IsDead (linking n pts ks low) = ⊥
IsDead (whole p) = ⊥
IsDead dead = Unit {0}

abbrev IsWhole : State → Type 0
IsWhole start = ⊥
IsWhole (pointing n m pts low) = ⊥
IsWhole (linking n pts ks low) = ⊥
IsWhole (whole p) = Unit {0}
IsWhole dead = ⊥

run_dead : (ws : List ℕ) → run dead ws ≡ dead
unfolding run
run_dead [] = refl
run_dead (w ∷ ws) = run_dead ws

-- ---- a live state can be completed
-- so many evaluations, one after the other
rest_ascend : (low m high : ℕ) → low + m ≤ high → Ascends low high (from low m)
rest_ascend low zero high h = tt
rest_ascend low (suc m) high h = (omega arith, omega arith, rest_ascend (suc low) m high (omega arith))

-- the words of a whole plan
only_last : (p : Plan) (ws : List ℕ) → ws ≡ before p → ws ++ (last_word (length (before p)) ∷ []) ≡ words_of p
unfolding words_of
only_last p ws e = ap (λ (l : List ℕ). l ++ (last_word (length (before p)) ∷ [])) e

points_begin : (ws : List ℕ) (n m : ℕ) (pts : List ℕ) (low : ℕ) → PointsSeen ws n m pts low → Begins ws
unfolding before words_of
points_begin ws n m pts low s =
    let es = from low (suc m) in
    let p : Plan = record { names = n; points = pts ++ es; contacts = [] } in
    let size : length (pts ++ es) ≡ length pts + suc m =
    length-append pts es ∙ ap (λ (x : ℕ). length pts + x) (from_length low (suc m)) in
    let spelt : ws ++ map point_word es ≡ before p =
    ap (λ (l : List ℕ). l ++ map point_word es) s.words
    ∙ ap₂ (λ (x : ℕ) (l : List ℕ). first_word n x ∷ l) (sym size)
    (sym (map-append point_word pts es) ∙ sym (append-nil (map point_word (pts ++ es)))) in
    record {
      plan = p;
      is = record {
        few = s.few;
        some = omega (arith, size);
        ascend = s.ascend es
            (rest_ascend low (suc m) (2 ^ n) (omega (arith, s.room)));
        rise = tt;
      };
      rest = map point_word es ++ (last_word (length (before p)) ∷ []);
      words = sym (append_assoc ws (map point_word es) (last_word (length (before p)) ∷ [])) ∙ only_last p _ spelt;
    }

links_begin : (ws : List ℕ) (n : ℕ) (pts ks : List ℕ) (low : ℕ) → LinksSeen ws n pts ks low → Begins ws
unfolding before
links_begin ws n pts ks low s =
    let p : Plan = record { names = n; points = pts; contacts = ks } in
    record {
      plan = p;
      is = record {
        few = s.few;
        some = s.some;
        ascend = s.ascend;
        rise = subst (Rises 0 (length pts)) (append-nil ks)
            (s.rise [] tt);
      };
      rest = last_word (length (before p)) ∷ [];
      words = only_last p ws s.words;
    }

-- the smallest plan: one point, no name
least_plan : Plan
least_plan = record { names = 0; points = 0 ∷ []; contacts = [] }

least_is : IsPlan least_plan
unfolding least_plan
least_is = record { few = omega arith; some = omega arith; ascend = (omega arith, omega arith, tt); rise = tt }

state_begins : (ws : List ℕ) (s : State) → Seen ws s → (IsDead s → ⊥) → Begins ws
state_begins ws start e h = record
    { plan = least_plan; is = least_is; rest = words_of least_plan; words = ap (λ (l : List ℕ). l ++ words_of least_plan) e }
state_begins ws (pointing n m pts low) e h = points_begin ws n m pts low e
state_begins ws (linking n pts ks low) e h = links_begin ws n pts ks low e
state_begins ws (whole p) e h = record { plan = p; is = e.0; rest = []; words = append-nil ws ∙ e.1 }
state_begins ws dead e h = absurd (h tt)

-- words begin a plan exactly if they do not lead to the dead state
live_begins : (ws : List ℕ) → (IsDead (run start ws) → ⊥) → Begins ws
live_begins ws h = state_begins ws (run start ws) (seen ws) h

dead_begins : (ws : List ℕ) → run start ws ≡ dead → Begins ws → ⊥
dead_begins ws h b =
    let e : run start (words_of b.plan) ≡ dead =
    ap (run start) (sym b.words) ∙ run_append start ws b.rest ∙ ap (λ (s : State). run s b.rest) h ∙ run_dead b.rest in
    subst IsWhole (sym (complete b.plan b.is) ∙ e) tt

-- words that begin a plan still do with the last ones left out
begins_less : (xs ys : List ℕ) → Begins (xs ++ ys) → Begins xs
begins_less xs ys b =
    record { plan = b.plan; is = b.is; rest = ys ++ b.rest; words = sym (append_assoc xs ys b.rest) ∙ b.words }

-- ---- the reader
-- the words end
at_end : (done : List ℕ) (s : State) → run start done ≡ s → (IsDead s → ⊥) → ReadingSays done (ended (length done) s)
at_end done s h live = go s h live (subst (Seen done) h (seen done))
  where
    stop : (t : State) → run start done ≡ t → (IsDead t → ⊥) → (IsWhole t → ⊥) → Refusal done (length done)
    stop t e a b = record {
      pre = done;
      post = [];
      parts = append-nil done;
      place = refl;
      begins = live_begins done (λ d. a (subst IsDead e d));
      stops = λ p i w. b (subst IsWhole (sym (complete p i) ∙ ap (run start) w ∙ e) tt);
    }

    go : (t : State) → run start done ≡ t → (IsDead t → ⊥) → Seen done t → ReadingSays done (ended (length done) t)
    go start e a k = stop start e a (λ x. x)
    go (pointing n m pts low) e a k = stop (pointing n m pts low) e a (λ x. x)
    go (linking n pts ks low) e a k = stop (linking n pts ks low) e a (λ x. x)
    go (whole p) e a k = (k.0, sym k.1)
    go dead e a k = absurd (a tt)

-- a word that no plan has there
at_word : (done : List ℕ) (s : State) (w : ℕ) (ws : List ℕ) → run start done ≡ s → (IsDead s → ⊥) → step s (kind_of w) ≡ dead
    → Refusal (done ++ (w ∷ ws)) (length done)
unfolding run
at_word done s w ws h live e =
    record {
      pre = done;
      post = w ∷ ws;
      parts = refl;
      place = refl;
      begins = live_begins done (λ d. live (subst IsDead h d));
      stops = dead_begins (done ++ (w ∷ [])) (run_append start done (w ∷ []) ∙ ap (λ (x : State). step x (kind_of w)) h ∙ e);
    }

read_says : (done : List ℕ) (s : State) (ws : List ℕ) → run start done ≡ s → (IsDead s → ⊥)
    → ReadingSays (done ++ ws) (read_from (length done) s ws)
unfolding read_from run
read_says done s [] h live = subst (λ (l : List ℕ). ReadingSays l (ended (length done) s)) (sym (append-nil done)) (at_end done s h live)
read_says done s (w ∷ ws) h live =
    go (step s (kind_of w)) refl (λ t q a. next t q a (read_says (done ++ (w ∷ [])) t ws (reached t q) a))
  where
    reached : (t : State) → step s (kind_of w) ≡ t → run start (done ++ (w ∷ [])) ≡ t
    reached t q = run_append start done (w ∷ []) ∙ ap (λ (x : State). step x (kind_of w)) h ∙ q

    one_more : length (done ++ (w ∷ [])) ≡ suc (length done)
    one_more = omega (arith, length-append done (w ∷ []))

    next : (t : State) → step s (kind_of w) ≡ t → (IsDead t → ⊥)
        → ReadingSays (done ++ (w ∷ []) ++ ws) (read_from (length (done ++ (w ∷ []))) t ws)
        → ReadingSays (done ++ (w ∷ ws)) (read_from (suc (length done)) t ws)
    next t q a r = subst (λ (l : List ℕ). ReadingSays l (read_from (suc (length done)) t ws)) (append_assoc done (w ∷ []) ws)
        (subst (λ (i : ℕ). ReadingSays (done ++ (w ∷ []) ++ ws) (read_from i t ws)) one_more r)

    go : (t : State) → step s (kind_of w) ≡ t
        → ((t : State) → step s (kind_of w) ≡ t → (IsDead t → ⊥) → ReadingSays (done ++ (w ∷ ws)) (read_from (suc (length done)) t ws))
        → ReadingSays (done ++ (w ∷ ws)) (unless t (length done) (read_from (suc (length done)) t ws))
    go start q f = f start q (λ x. x)
    go (pointing n m pts low) q f = f (pointing n m pts low) q (λ x. x)
    go (linking n pts ks low) q f = f (linking n pts ks low) q (λ x. x)
    go (whole p) q f = f (whole p) q (λ x. x)
    go dead q f = at_word done s w ws h live q

-- the reading of any words: they are the words of this plan, or refusal 13 is due at this index
pub exact : (ws : List ℕ) → ReadingSays ws (read_of ws)
unfolding read_of run
exact ws = read_says [] start ws refl (λ x. x)

-- the words of a plan are its own
unique : (p q : Plan) → IsPlan p → IsPlan q → words_of p ≡ words_of q → p ≡ q
unique p q h k e = from_whole (sym (complete p h) ∙ ap (run start) e ∙ complete q k)
  where
    plan_or : State → Plan
    plan_or start = p
    plan_or (pointing n m pts low) = p
    plan_or (linking n pts ks low) = p
    plan_or (whole r) = r
    plan_or dead = p

    from_whole : whole p ≡ whole q → p ≡ q
    from_whole z = ap plan_or z

-- ---- a refusal excludes a plan and any other index
refusal_no_plan : (ws : List ℕ) (j : ℕ) (p : Plan) → IsPlan p → words_of p ≡ ws → Refusal ws j → ⊥
refusal_no_plan ws j p h e r = go r.post r.parts r.stops
  where
    go : (post : List ℕ) → r.pre ++ post ≡ ws → Stops r.pre post → ⊥
    go [] q s = s p h (e ∙ sym q ∙ append-nil r.pre)
    go (w ∷ post) q s = s (record { plan = p; is = h; rest = post; words = append_assoc r.pre (w ∷ []) post ∙ q ∙ sym e })

not_before : (ws : List ℕ) (i j : ℕ) → Refusal ws i → Refusal ws j → i < j → ⊥
not_before ws i j r t l = go r.post r.parts r.stops
  where
    go : (post : List ℕ) → r.pre ++ post ≡ ws → Stops r.pre post → ⊥
    go [] q s =
        let size : length (t.pre ++ t.post) ≡ length t.pre + length t.post = length-append t.pre t.post in
        omega (arith, r.place, t.place, size, ap length (t.parts ∙ sym q ∙ append-nil r.pre))
    go (w ∷ post) q s =
        let longer : length (r.pre ++ (w ∷ [])) ≡ length r.pre + 1 = length-append r.pre (w ∷ []) in
        let z = prefix (r.pre ++ (w ∷ [])) post t.pre t.post (append_assoc r.pre (w ∷ []) post ∙ q ∙ sym t.parts)
        (omega (arith, longer, r.place, t.place)) in
        s (begins_less (r.pre ++ (w ∷ [])) z.0 (subst Begins (sym z.1) t.begins))

same_index : (ws : List ℕ) (i j : ℕ) → Refusal ws i → Refusal ws j → i ≡ j
same_index ws i j r t =
    ⊎_elim (λ l. absurd (not_before ws i j r t l))
    (λ l. ⊎_elim (λ m. absurd (not_before ws j i t r m)) (λ m. omega arith) (side j i)) (side i j)

-- ---- so each reading is given exactly where it is due
pub plan_read : (p : Plan) → IsPlan p → read_of (words_of p) ≡ plan p
plan_read p h = go (read_of (words_of p)) (exact (words_of p))
  where
    go : (r : Reading) → ReadingSays (words_of p) r → r ≡ plan p
    go (plan q) s = ap plan (unique q p s.0 h s.1)
    go (refused i) s = absurd (refusal_no_plan (words_of p) i p h refl s)

pub refusal_read : (ws : List ℕ) (j : ℕ) → Refusal ws j → read_of ws ≡ refused j
refusal_read ws j r = go (read_of ws) (exact ws)
  where
    go : (x : Reading) → ReadingSays ws x → x ≡ refused j
    go (plan p) s = absurd (refusal_no_plan ws j p s.0 s.1 r)
    go (refused i) s = ap refused (same_index ws i j s r)
