-- Kleene's tables are strong: each is computed to be the table of what all ways to decide the operands agree on, and that table is strong for
-- any connective. Assumes nothing.
use mathlib.Core.Bool.{Bool, true, false, not, ◌&&◌, ◌||◌, beq}
use mathlib.Core.Path.{◌≡◌, refl, sym, ap, subst, ◌∙◌}
use mathlib.Core.Logic.{◌↔◌}
use mathlib.Core.List.{List, [], ◌∷◌, map}
use Prim.Native.Nat.{ℕ}
use lib.ListN.{get_or}
use Rattle.formula.specs.Formula.{Form}
use Rattle.lists.specs.Search.{collect}
use Rattle.lists.proofs.Truth.{clash}
use Rattle.contact.specs.Row.{Three, is, unknown}
use Rattle.contact.specs.Kleene.{kleene_not, kleene_and, kleene_or, kleene_iff, kleene_value, Fits, Strong, StrongPrefix}

-- ---- what all ways agree on

-- the value of both, if they have one
abbrev agree : Three → Three → Three
agree (is true) (is true) = is true
agree (is true) (is false) = unknown
agree (is true) unknown = unknown
agree (is false) (is true) = unknown
agree (is false) (is false) = is false
agree (is false) unknown = unknown
agree unknown t = unknown

abbrev is_known : Three → Bool
is_known (is b) = true
is_known unknown = false

abbrev known : Three → Bool
known (is b) = b
known unknown = true

not_known : {A : Type 0} {b : Bool} → unknown ≡ is b → A
not_known e = clash (ap is_known e) refl

agree_both : (s t : Three) (b : Bool) → agree s t ≡ is b → (s ≡ is b) × (t ≡ is b)
agree_both (is true) (is true) b e = (e, e)
agree_both (is true) (is false) b e = not_known e
agree_both (is true) unknown b e = not_known e
agree_both (is false) (is true) b e = not_known e
agree_both (is false) (is false) b e = (e, e)
agree_both (is false) unknown b e = not_known e
agree_both unknown t b e = not_known e

agree_same : (b : Bool) → agree (is b) (is b) ≡ is b
agree_same true = refl
agree_same false = refl

-- what g gives for all ways to decide s
abbrev over_ways : (Bool → Three) → Three → Three
over_ways g (is b) = g b
over_ways g unknown = agree (g true) (g false)

ways : (g : Bool → Three) (s : Three) (b : Bool) → (over_ways g s ≡ is b) ↔ ((x : Bool) → Fits s x → g x ≡ is b)
ways g (is c) b = (λ e x p. subst (λ (z : Bool). g z ≡ is b) p e, λ h. h c refl)
ways g unknown b = (λ e x p. each x (agree_both (g true) (g false) b e), λ h. ap (λ (s : Three). agree s (g false)) (h true tt) ∙ ap (agree (is b)) (h false tt) ∙ agree_same b)
  where
    each : (x : Bool) → (g true ≡ is b) × (g false ≡ is b) → g x ≡ is b
    each true w = w.0
    each false w = w.1

-- ---- for any connective

abbrev agreed : (Bool → Bool → Bool) → Three → Three → Three
agreed c s t = over_ways (λ x. over_ways (λ y. is (c x y)) t) s

strong : (c : Bool → Bool → Bool) (s t r : Three) → r ≡ agreed c s t → Strong c s t r
strong c s t r e b = (
  λ k x y p q. ap known ((ways (λ z. is (c x z)) t b).0 ((ways (λ z. over_ways (λ w. is (c z w)) t) s b).0 (sym e ∙ k) x p) y q),
  λ h. e ∙ (ways (λ z. over_ways (λ w. is (c z w)) t) s b).1 (λ x p. (ways (λ z. is (c x z)) t b).1 (λ y q. ap is (h x y p q))),
)

-- ---- each table, computed

abbrev three : List Three
three = is true ∷ is false ∷ unknown ∷ []

-- a table of two operands
abbrev table : (Three → Three → Three) → List Three
table f = collect (λ s. map (f s) three) three

in_table : (f g : Three → Three → Three) → table f ≡ table g → (s t : Three) → f s t ≡ g s t
in_table f g e (is true) (is true) = ap (λ (l : List Three). get_or l 0 unknown) e
in_table f g e (is true) (is false) = ap (λ (l : List Three). get_or l 1 unknown) e
in_table f g e (is true) unknown = ap (λ (l : List Three). get_or l 2 unknown) e
in_table f g e (is false) (is true) = ap (λ (l : List Three). get_or l 3 unknown) e
in_table f g e (is false) (is false) = ap (λ (l : List Three). get_or l 4 unknown) e
in_table f g e (is false) unknown = ap (λ (l : List Three). get_or l 5 unknown) e
in_table f g e unknown (is true) = ap (λ (l : List Three). get_or l 6 unknown) e
in_table f g e unknown (is false) = ap (λ (l : List Three). get_or l 7 unknown) e
in_table f g e unknown unknown = ap (λ (l : List Three). get_or l 8 unknown) e

and_table : table kleene_and ≡ table (agreed ◌&&◌)
and_table = refl

or_table : table kleene_or ≡ table (agreed ◌||◌)
or_table = refl

implies_table : table (λ s t. kleene_or (kleene_not s) t) ≡ table (agreed (λ x y. not x || y))
implies_table = refl

iff_table : table kleene_iff ≡ table (agreed beq)
iff_table = refl

not_table : (s : Three) → kleene_not s ≡ over_ways (λ x. is (not x)) s
not_table (is b) = refl
not_table unknown = refl

-- ---- the value of a formula

module _ (v : ℕ → Three) where
  pub negation_strong : (f : Form ℕ) → StrongPrefix not (kleene_value v f) (kleene_value v (Form.negation f))
  negation_strong f b =
      let s = kleene_value v f in
      let w = ways (λ x. is (not x)) s b in
      (λ k x p. ap known (w.0 (sym (not_table s) ∙ k) x p), λ h. not_table s ∙ w.1 (λ x p. ap is (h x p)))

  -- a table that is the one of what all ways agree on
  by_table : (c : Bool → Bool → Bool) (k : Three → Three → Three) → table k ≡ table (agreed c) → (f g : Form ℕ)
      → Strong c (kleene_value v f) (kleene_value v g) (k (kleene_value v f) (kleene_value v g))
  by_table c k e f g =
      let s = kleene_value v f in
      let t = kleene_value v g in
      strong c s t (k s t) (in_table k (agreed c) e s t)

  pub conjunction_strong : (f g : Form ℕ) → Strong ◌&&◌ (kleene_value v f) (kleene_value v g) (kleene_value v (Form.conjunction f g))
  conjunction_strong = by_table ◌&&◌ kleene_and and_table

  pub disjunction_strong : (f g : Form ℕ) → Strong ◌||◌ (kleene_value v f) (kleene_value v g) (kleene_value v (Form.disjunction f g))
  disjunction_strong = by_table ◌||◌ kleene_or or_table

  pub implication_strong : (f g : Form ℕ) → Strong (λ x y. not x || y) (kleene_value v f) (kleene_value v g) (kleene_value v (Form.implication f g))
  implication_strong = by_table (λ x y. not x || y) (λ s t. kleene_or (kleene_not s) t) implies_table

  pub equivalence_strong : (f g : Form ℕ) → Strong beq (kleene_value v f) (kleene_value v g) (kleene_value v (Form.equivalence f g))
  equivalence_strong = by_table beq kleene_iff iff_table

-- a value that is known only where it is c fits c
pub fits_of : (r : Three) (c : Bool) → ((b : Bool) → r ≡ is b → c ≡ b) → Fits r c
fits_of (is b) c h = sym (h b refl)
fits_of unknown c h = tt
