-- Which evaluations a point may have, against what is asked of the points of a floor: the laws of `may` and `Somewhere`, and the only ones
-- that see into them. A point lies in some name exactly if its evaluation is not 0. For any number of names and of points. Assumes nothing.
use mathlib.Core.Bool.{Bool, true, not, ◌||◌, and-eq-true_iff}
use mathlib.Core.Path.{◌≡◌, sym, ap, ◌∙◌}
use mathlib.Core.Logic.{⊎_elim}
use mathlib.Core.List.{List, []}
use mathlib.Mathlib.Data.Bool.Basic.{and_intro, or_inl, or_inr}
use Prim.Native.Nat.{ℕ, ◌^◌, ◌<◌}
use native.Mathlib.Omega.{arith}
use lib.Dec.{eqb, ltb}
use borrow.Author.Tests.{not-true, not-false, ltb-true, lt-ltb, eqb-true, eqb-false, ne_eqb}
use Rattle.lists.specs.Search.{In, below}
use Rattle.lists.proofs.Search.{none_in, any_intro, any_elim, any_same, below_intro, below_elim}
use Rattle.lists.proofs.Truth.{clash, cases, or_cases}
use Rattle.evalset.specs.Bit.{bit}
use Rattle.evalset.proofs.Bits.{bit_none, same_bits, any_bit}
use Rattle.contact.specs.Meaning.{Floor, renamed}
use Rattle.contact.specs.Question.{Somewhere}
use Rattle.contact.specs.Plan.{may}
use Rattle.contact.proofs.Bits.{encode, encode_lt, bit_encode}

-- ---- evaluations

-- what may be is an evaluation
pub may_below : (n e : ℕ) → may n e ≡ true → e < 2 ^ n
unfolding may
may_below n e h = ltb-true e (2 ^ n) ((and-eq-true_iff (ltb e (2 ^ n)) _).0 h).0

-- and not 0 where there is a name
pub may_some : (n e : ℕ) → 0 < n → may n e ≡ true → 0 < e
unfolding may
may_some n e l h =
    let r = (and-eq-true_iff (ltb e (2 ^ n)) (eqb n 0 || not (eqb e 0))).0 h in
    ⊎_elim (λ z. let q : n ≡ 0 = eqb-true n 0 z in absurd (omega arith))
    (λ z. let ne : e ≡ 0 → ⊥ = eqb-false e 0 (not-true _ z) in omega (arith, ne))
    (or_cases (eqb n 0) (not (eqb e 0)) r.1)

-- and every such evaluation may be
pub may_intro : (n e : ℕ) → e < 2 ^ n → (0 < n → 0 < e) → may n e ≡ true
unfolding may
may_intro n e l some =
    and_intro (lt-ltb e (2 ^ n) l)
    (cases (eqb n 0) (λ z. or_inl _ _ z)
    (λ z. let ne = eqb-false n 0 z in
    let p : 0 < e = some (omega (arith, ne)) in
    or_inr (eqb n 0) _ (ap not (ne_eqb e 0 (omega arith)))))

-- ---- floors over numbers

-- the evaluations of the points of a floor with `Somewhere` may be: a name that the point lies in is a bit of its evaluation
pub may_point : (n : ℕ) (F : Floor ℕ) → Somewhere (below n) F → (p : ℕ) → p < F.points → may n (encode n (λ i. F.lies i p)) ≡ true
may_point n F somewhere p hp =
    may_intro n (encode n lies) (encode_lt n lies)
    (λ some. let r = any_elim lies (below n) (somewhere 0 (below_intro n 0 some) p hp) in
    let ne : encode n lies ≡ 0 → ⊥ =
    λ z. clash (bit_encode n lies r.0 (below_elim n r.0 r.1) ∙ r.2) (ap (λ (k : ℕ). bit k r.0) z ∙ bit_none r.0) in
    omega (arith, ne))
  where
    lies : ℕ → Bool
    lies i = F.lies i p

-- and where the evaluations of a floor's points may be, it has it
pub somewhere_points : (n : ℕ) (F : Floor ℕ) (e : ℕ → ℕ) → ((p : ℕ) → p < F.points → may n (e p) ≡ true)
    → ((i p : ℕ) → p < F.points → F.lies i p ≡ bit (e p) i) → Somewhere (below n) F
somewhere_points n F e h lies x i p hp =
    let l : x < n = below_elim n x i in
    let some : 0 < e p = may_some n (e p) (omega arith) (h p hp) in
    any_same (λ y. F.lies y p) (bit (e p)) (below n) (λ y j. lies y p hp)
    ∙ not-false _ (sym (any_bit n (e p) (may_below n (e p) (h p hp))) ∙ ne_eqb (e p) 0 (omega arith))

-- and only such a floor
pub points_somewhere : (n : ℕ) (F : Floor ℕ) (e : ℕ → ℕ) → ((p : ℕ) → p < F.points → e p < 2 ^ n)
    → ((i p : ℕ) → p < F.points → F.lies i p ≡ bit (e p) i) → Somewhere (below n) F → (p : ℕ) → p < F.points → may n (e p) ≡ true
points_somewhere n F e low lies somewhere p hp =
    ap (may n)
    (same_bits n (e p) (encode n (λ i. F.lies i p)) (low p hp) (encode_lt n (λ i. F.lies i p))
    (λ i l. sym (lies i p hp) ∙ sym (bit_encode n (λ j. F.lies j p) i l)))
    ∙ may_point n F somewhere p hp

-- ---- other floors

-- with no names nothing is asked
pub somewhere_unnamed : {N : Type 0} (F : Floor N) → Somewhere [] F
somewhere_unnamed F x i = none_in i

-- a floor with the same points and regions has it too
pub somewhere_same : {N : Type 0} (names : List N) (F G : Floor N) → F.points ≡ G.points
    → ((x : N) (p : ℕ) → p < F.points → F.lies x p ≡ G.lies x p) → Somewhere names F → Somewhere names G
somewhere_same names F G points lies somewhere x i p hp =
    let hf : p < F.points = omega (arith, points) in
    sym (any_same (λ y. F.lies y p) (λ y. G.lies y p) names (λ y j. lies y p hf)) ∙ somewhere x i p hf

-- and one over other names, if these are the names that it is renamed by
module _ {N M : Type 0} (g : N → M) (names : List N) (others : List M) (F : Floor M) (into : (x : N) → In x names → In (g x) others)
    (onto : (y : M) → In y others → (x : N) × In x names × (g x ≡ y)) where
  pub somewhere_renamed : Somewhere others F → Somewhere names (renamed g F)
  somewhere_renamed somewhere x i p hp =
      let r = any_elim (λ y. F.lies y p) others (somewhere (g x) (into x i) p hp) in
      let s = onto r.0 r.1 in
      any_intro (λ z. F.lies (g z) p) s.1 (ap (λ y. F.lies y p) s.2 ∙ r.2)

  -- and only then
  pub somewhere_back : Somewhere names (renamed g F) → Somewhere others F
  somewhere_back somewhere y i p hp =
      let s = onto y i in
      let r = any_elim (λ z. F.lies (g z) p) names (somewhere s.0 s.1 p hp) in
      any_intro (λ z. F.lies z p) (into r.0 r.1) r.2
