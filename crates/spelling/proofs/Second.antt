-- Where the second term of a row starts: the symbols that are passed, from the row's end, take away the last of the terms that are left
-- and put in their place those that they stand behind, so that always as many terms as are wanted stand behind the first; where none is
-- wanted the first stands alone. Assumes nothing.
use mathlib.Core.Path.{◌≡◌, refl, sym, ap, ◌∙◌}
use mathlib.Core.List.{List, [], ◌∷◌, ◌++◌, append_assoc, append-nil, reverse, reverse-append, head-eq_of_cons-eq, tail-eq_of_cons-eq}
use Prim.Native.Nat.{ℕ, suc, ◌+◌, ◌-◌, ◌≤◌, ◌<◌}
use native.Mathlib.Omega.{arith}
use lib.Dec.{eqb}
use lib.ListN.{length, get_or, take, length-append}
use lib.Seq.{length-take-le}
use borrow.Author.Tests.{ne_eqb}
use Rattle.formula.specs.Formula.{Term}
use Rattle.lists.proofs.Lists.{take_next}
use Rattle.lists.proofs.Truth.{cond_holds}
use Rattle.spelling.specs.Symbols.{spelled}
use Rattle.spelling.specs.Comparing.{wanted_before, Starts}
use Rattle.spelling.proofs.Terms.{reverse_same}

-- ---- one symbol

-- a term has symbols
pub spelled_some : (t : Term ℕ) → 0 < length (spelled t)
spelled_some Term.zero = omega arith
spelled_some Term.one = omega arith
spelled_some (Term.name i) = omega arith
spelled_some (Term.complement t) = simp length-append (omega arith)
spelled_some (Term.intersection s t) = simp length-append (omega arith)
spelled_some (Term.union s t) = simp length-append (omega arith)

last_same : (xs ys : List ℕ) (x y : ℕ) → xs ++ x ∷ [] ≡ ys ++ y ∷ [] → (xs ≡ ys) × (x ≡ y)
last_same xs ys x y e =
    let r : x ∷ reverse xs ≡ y ∷ reverse ys = sym (reverse-append xs (x ∷ [])) ∙ ap reverse e ∙ reverse-append ys (y ∷ []) in
    (reverse_same xs ys (tail-eq_of_cons-eq r), head-eq_of_cons-eq r)

-- terms with the last first
abbrev stacked : List (Term ℕ) → List ℕ
stacked [] = []
stacked (t ∷ ts) = stacked ts ++ spelled t

-- before its last symbol there stand the terms that are wanted then
module _ (before : List ℕ) (ts : List (Term ℕ)) (xs : List ℕ) (x : ℕ) where
  abbrev Before : Type 0
  Before = (us : List (Term ℕ)) × (length us ≡ wanted_before x (suc (length ts))) × (xs ≡ before ++ stacked us)

  -- the last symbol, once the terms end in it
  ends : (front : List ℕ) (y : ℕ) (all : List ℕ) → all ≡ front ++ y ∷ [] → xs ++ x ∷ [] ≡ before ++ (stacked ts ++ all) → (xs ≡ before ++ (stacked ts ++ front)) × (x ≡ y)
  ends front y all a e =
      last_same xs (before ++ (stacked ts ++ front)) x y
      (e ∙ ap (λ (l : List ℕ). before ++ (stacked ts ++ l)) a ∙ ap (λ (l : List ℕ). before ++ l) (sym (append_assoc (stacked ts) front (y ∷ [])))
      ∙ sym (append_assoc before (stacked ts ++ front) (y ∷ [])))

  alone : (y : ℕ) → wanted_before y (suc (length ts)) ≡ length ts → xs ++ x ∷ [] ≡ before ++ (stacked ts ++ y ∷ []) → Before
  alone y w e =
      let r = ends [] y (y ∷ []) refl e in
      (ts, sym (ap (λ (n : ℕ). wanted_before n (suc (length ts))) r.1 ∙ w), r.0 ∙ ap (λ (l : List ℕ). before ++ l) (append-nil (stacked ts)))

  both : (s t : Term ℕ) (y : ℕ) → wanted_before y (suc (length ts)) ≡ suc (suc (length ts))
      → xs ++ x ∷ [] ≡ before ++ (stacked ts ++ (spelled s ++ (spelled t ++ y ∷ []))) → Before
  both s t y w e =
      let r = ends (spelled s ++ spelled t) y (spelled s ++ (spelled t ++ y ∷ [])) (sym (append_assoc (spelled s) (spelled t) (y ∷ []))) e in
      (t ∷ s ∷ ts, sym (ap (λ (n : ℕ). wanted_before n (suc (length ts))) r.1 ∙ w), r.0 ∙ ap (λ (l : List ℕ). before ++ l) (sym (append_assoc (stacked ts) (spelled s) (spelled t))))

  other : (y : ℕ) → (y ≡ 2 → ⊥) → (y ≡ 3 → ⊥) → (y ≡ 4 → ⊥) → wanted_before y (suc (length ts)) ≡ length ts
  unfolding wanted_before
  other y p q r = rw (ne_eqb y 2 p, ne_eqb y 3 q, ne_eqb y 4 r) (omega arith)

  pub passed : (u : Term ℕ) → xs ++ x ∷ [] ≡ before ++ stacked (u ∷ ts) → Before
  unfolding wanted_before
  passed Term.zero e = alone 0 (omega arith) e
  passed Term.one e = alone 1 (omega arith) e
  passed (Term.name i) e = alone (5 + i) (other (5 + i) (λ z. omega arith) (λ z. omega arith) (λ z. omega arith)) e
  passed (Term.complement t) e =
      let r = ends (spelled t) 2 (spelled t ++ 2 ∷ []) refl e in
      (t ∷ ts, sym (ap (λ (n : ℕ). wanted_before n (suc (length ts))) r.1), r.0)
  passed (Term.intersection s t) e = both s t 3 (omega arith) e
  passed (Term.union s t) e = both s t 4 (omega arith) e

-- ---- the row passed from its end

-- at most one more is wanted before a symbol
pub wanted_most : (x wanted : ℕ) → wanted_before x wanted ≤ wanted + 1
unfolding wanted_before
wanted_most x wanted =
    cond_holds (λ (n : ℕ). n ≤ wanted + 1) (eqb x 2) _ _ (omega arith)
    (cond_holds (λ (n : ℕ). n ≤ wanted + 1) (eqb x 3) _ _ (omega arith) (cond_holds (λ (n : ℕ). n ≤ wanted + 1) (eqb x 4) _ _ (omega arith) (omega arith)))

-- of a row of two terms, so many terms are left behind the first
pub record Left (row : List ℕ) (len wanted i : ℕ) : Type 0 where
  pub left : (s t : Term ℕ) → take len row ≡ spelled s ++ spelled t → (ts : List (Term ℕ)) × (length ts ≡ wanted) × (take i row ≡ spelled s ++ stacked ts)

pub left_all : (row : List ℕ) (len : ℕ) → Left row len 1 len
left_all row len = record { left = λ s t e. (t ∷ [], refl, e) }

pub left_next : (row : List ℕ) (len wanted i less : ℕ) → 0 < i → i ≤ length row → (wanted ≡ 0 → ⊥) → less ≡ wanted_before (get_or row (i - 1) 0) wanted
    → Left row len wanted i → Left row len less (i - 1)
left_next row len wanted i less p h w z known = record { left = λ s t e. go s (known.left s t e) }
  where
    go : (s : Term ℕ) → (ts : List (Term ℕ)) × (length ts ≡ wanted) × (take i row ≡ spelled s ++ stacked ts)
        → (us : List (Term ℕ)) × (length us ≡ less) × (take (i - 1) row ≡ spelled s ++ stacked us)
    go s ([], l, f) = absurd (w (sym l))
    go s (u ∷ ts, l, f) =
        let e : i - 1 + 1 ≡ i = omega arith in
        let r = passed (spelled s) ts (take (i - 1) row) (get_or row (i - 1) 0) u (sym (take_next row (i - 1) 0 (omega arith)) ∙ ap (λ (n : ℕ). take n row) e ∙ f) in
        (r.0, r.1 ∙ ap (wanted_before (get_or row (i - 1) 0)) l ∙ sym z, r.2)

-- no term is left behind the first
pub left_none : (row : List ℕ) (len wanted i : ℕ) → i ≤ length row → 0 < i → i ≤ len → wanted ≡ 0 → Left row len wanted i → Starts row len i
left_none row len wanted i h p w n known = record { within = w; none = λ z. absurd (omega arith); second = λ s t e. go s (known.left s t e) }
  where
    go : (s : Term ℕ) → (ts : List (Term ℕ)) × (length ts ≡ wanted) × (take i row ≡ spelled s ++ stacked ts) → i ≡ length (spelled s)
    go s ([], l, f) = sym (length-take-le i row h) ∙ ap length (f ∙ append-nil (spelled s))
    go s (u ∷ ts, l, f) = absurd (omega arith)

-- the first has symbols
pub left_nothing : (row : List ℕ) (len wanted i : ℕ) → i ≡ 0 → Left row len wanted i → Starts row len i
left_nothing row len wanted i z known = record {
  within = omega arith;
  none = λ n. z;
  second = λ s t e. let r = known.left s t e in
      absurd (omega (arith, spelled_some s, simp length-append at (ap length (sym (ap (λ (n : ℕ). take n row) z) ∙ r.2))));
}
