-- The rails of a formula are those of its value in the search's tables: table by table, by the nine cases of two values, and by
-- recursion on the formula. Assumes nothing.
use mathlib.Core.Bool.{Bool, true, false, not}
use mathlib.Core.Path.{◌≡◌, refl, sym, ap, ap₂, ◌∙◌}
use mathlib.Core.List.{List, [], ◌∷◌, head-eq_of_cons-eq}
use Prim.Native.Nat.{ℕ}
use lib.ListN.{get_or}
use Rattle.formula.specs.Formula.{Form}
use Rattle.formula.specs.Atoms.{atoms_of}
use Rattle.lists.specs.Search.{In, here}
use Rattle.evalset.specs.Bit.{bit}
use Rattle.lists.proofs.Search.{in_left, in_right}
use Rattle.contact.specs.Meaning.{value}
use Rattle.contact.specs.Row.{Three, is, unknown}
use Rattle.contact.specs.Kleene.{kleene_not, kleene_and, kleene_or, kleene_iff, kleene_value}
use Rattle.contact.specs.Tableau.{refuted}
use Rattle.kleene.specs.Code.{postfix}
use Rattle.kleene.specs.Rails.{Duo, duo, no_of, yes_of, sure, duo_of, not_d, and_d, or_d, implies_d, iff_d, value_d, exec, whole_at, rails_at}
use Rattle.kleene.proofs.Formed.{exec_postfix}
use Rattle.contact.proofs.Searching.{value_known}

not_three : (t : Three) → not_d (duo_of t) ≡ duo_of (kleene_not t)
not_three (is true) = refl
not_three (is false) = refl
not_three unknown = refl

and_three : (s t : Three) → and_d (duo_of s) (duo_of t) ≡ duo_of (kleene_and s t)
and_three (is true) (is true) = refl
and_three (is true) (is false) = refl
and_three (is true) unknown = refl
and_three (is false) (is true) = refl
and_three (is false) (is false) = refl
and_three (is false) unknown = refl
and_three unknown (is true) = refl
and_three unknown (is false) = refl
and_three unknown unknown = refl

or_three : (s t : Three) → or_d (duo_of s) (duo_of t) ≡ duo_of (kleene_or s t)
or_three (is true) (is true) = refl
or_three (is true) (is false) = refl
or_three (is true) unknown = refl
or_three (is false) (is true) = refl
or_three (is false) (is false) = refl
or_three (is false) unknown = refl
or_three unknown (is true) = refl
or_three unknown (is false) = refl
or_three unknown unknown = refl

iff_three : (s t : Three) → iff_d (duo_of s) (duo_of t) ≡ duo_of (kleene_iff s t)
iff_three (is true) (is true) = refl
iff_three (is true) (is false) = refl
iff_three (is true) unknown = refl
iff_three (is false) (is true) = refl
iff_three (is false) (is false) = refl
iff_three (is false) unknown = refl
iff_three unknown (is true) = refl
iff_three unknown (is false) = refl
iff_three unknown unknown = refl

implies_or : (a b : Duo) → implies_d a b ≡ or_d (not_d a) b
implies_or (duo y n) (duo z m) = refl

implies_three : (s t : Three) → implies_d (duo_of s) (duo_of t) ≡ duo_of (kleene_or (kleene_not s) t)
implies_three s t = implies_or (duo_of s) (duo_of t) ∙ ap (λ (d : Duo). or_d d (duo_of t)) (not_three s) ∙ or_three (kleene_not s) t

-- ---- a formula

module _ (v : ℕ → Duo) (w : ℕ → Three) where
  -- the atoms in a list have the same values
  abbrev Alike : List ℕ → Type 0
  Alike xs = (i : ℕ) → In i xs → v i ≡ duo_of (w i)

  pub value_three : (f : Form ℕ) → Alike (atoms_of f) → value_d v f ≡ duo_of (kleene_value w f)
  unfolding value_d
  value_three Form.truth h = refl
  value_three Form.falsity h = refl
  value_three (Form.atom i) h = h i here
  value_three (Form.negation f) h = ap not_d (value_three f h) ∙ not_three (kleene_value w f)
  value_three (Form.conjunction f g) h =
      ap₂ and_d (value_three f (λ i j. h i (in_left (atoms_of g) j))) (value_three g (λ i j. h i (in_right (atoms_of f) j)))
      ∙ and_three (kleene_value w f) (kleene_value w g)
  value_three (Form.disjunction f g) h =
      ap₂ or_d (value_three f (λ i j. h i (in_left (atoms_of g) j))) (value_three g (λ i j. h i (in_right (atoms_of f) j)))
      ∙ or_three (kleene_value w f) (kleene_value w g)
  value_three (Form.implication f g) h =
      ap₂ implies_d (value_three f (λ i j. h i (in_left (atoms_of g) j))) (value_three g (λ i j. h i (in_right (atoms_of f) j)))
      ∙ implies_three (kleene_value w f) (kleene_value w g)
  value_three (Form.equivalence f g) h =
      ap₂ iff_d (value_three f (λ i j. h i (in_left (atoms_of g) j))) (value_three g (λ i j. h i (in_right (atoms_of f) j)))
      ∙ iff_three (kleene_value w f) (kleene_value w g)

-- on the second rail stands what the search refutes
no_three : (t : Three) → no_of (duo_of t) ≡ refuted t
no_three (is b) = refl
no_three unknown = refl

pub refuted_three : (v : ℕ → Duo) (w : ℕ → Three) (f : Form ℕ) → Alike v w (atoms_of f) → no_of (value_d v f) ≡ refuted (kleene_value w f)
refuted_three v w f h = ap no_of (value_three v w f h) ∙ no_three (kleene_value w f)

-- ---- where every atom is decided

pub value_sure : (v : ℕ → Duo) (w : ℕ → Bool) (f : Form ℕ) → ((i : ℕ) → In i (atoms_of f) → v i ≡ sure (w i))
    → value_d v f ≡ sure (value w f)
value_sure v w f h = value_three v (λ i. is (w i)) f h ∙ ap duo_of (value_known (λ i. is (w i)) w f (λ i k. refl))

-- ---- what a run gives

result : (f : Form ℕ) (v : ℕ → Duo) (d : Duo) → exec v (postfix f) [] ≡ d ∷ [] → d ≡ value_d v f
result f v d h = head-eq_of_cons-eq (sym h ∙ exec_postfix v f [])

-- on one rail
pub whole_refuted : (f : Form ℕ) (leaves : List ℕ) (e r : ℕ) (w : ℕ → Three) → exec (whole_at leaves e) (postfix f) [] ≡ sure (bit r e) ∷ []
    → ((i : ℕ) → In i (atoms_of f) → is (bit (get_or leaves i 0) e) ≡ w i) → not (bit r e) ≡ refuted (kleene_value w f)
whole_refuted f leaves e r w h k =
    ap no_of (result f (whole_at leaves e) (sure (bit r e)) h) ∙ refuted_three (whole_at leaves e) w f (λ i j. ap duo_of (k i j))

pub whole_value : (f : Form ℕ) (leaves : List ℕ) (e r : ℕ) (w : ℕ → Bool) → exec (whole_at leaves e) (postfix f) [] ≡ sure (bit r e) ∷ []
    → ((i : ℕ) → In i (atoms_of f) → bit (get_or leaves i 0) e ≡ w i) → bit r e ≡ value w f
whole_value f leaves e r w h k =
    ap yes_of (result f (whole_at leaves e) (sure (bit r e)) h ∙ value_sure (whole_at leaves e) w f (λ i j. ap sure (k i j)))

-- on two rails of words
pub rails_refuted : (f : Form ℕ) (ts fs : List ℕ) (e y n : ℕ) (w : ℕ → Three) → exec (rails_at ts fs e) (postfix f) [] ≡ duo (bit y e) (bit n e) ∷ []
    → ((i : ℕ) → In i (atoms_of f) → rails_at ts fs e i ≡ duo_of (w i)) → bit n e ≡ refuted (kleene_value w f)
rails_refuted f ts fs e y n w h k =
    ap no_of (result f (rails_at ts fs e) (duo (bit y e) (bit n e)) h) ∙ refuted_three (rails_at ts fs e) w f k
