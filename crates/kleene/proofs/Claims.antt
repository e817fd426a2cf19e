-- What the crate proves, each claim with the file that has its proof. Nothing is assumed: any formula over atom numbers, and any
-- pattern of undecided atoms. The contracts of the runs are those of src/lib.rt.
use mathlib.Core.Bool.{Bool, not}
use mathlib.Core.Path.{◌≡◌}
use mathlib.Core.List.{List, [], ◌∷◌}
use Prim.Native.Nat.{ℕ, ◌≤◌, ◌<◌}
use lib.ListN.{length, get_or}
use Rattle.formula.specs.Formula.{Form}
use Rattle.formula.specs.Atoms.{atoms_of}
use Rattle.lists.specs.Search.{In}
use Rattle.evalset.specs.Bit.{bit}
use Rattle.contact.specs.Meaning.{value}
use Rattle.contact.specs.Row.{Three, is}
use Rattle.contact.specs.Kleene.{kleene_value}
use Rattle.contact.specs.Tableau.{refuted}
use Rattle.kleene.specs.Code.{postfix, Safe}
use Rattle.kleene.specs.Rails.{Duo, duo, no_of, sure, duo_of, value_d, exec, whole_at, rails_at}
use Rattle.kleene.proofs.Formed
use Rattle.kleene.proofs.Three

-- ---- the code of a formula (Formed)

-- its code leaves its value on the stack
pub exec_postfix : (v : ℕ → Duo) (f : Form ℕ) (st : List Duo) → exec v (postfix f) st ≡ value_d v f ∷ st
exec_postfix = Formed.exec_postfix

-- the runs may be called with the code of a formula of at most 16 atoms and 256 signs
pub safe_postfix : (f : Form ℕ) → ((i : ℕ) → In i (atoms_of f) → i < 16) → length (postfix f) ≤ 256 → Safe 128 16 (postfix f) 0
safe_postfix = Formed.safe_postfix

-- ---- the search's three values (Three)

-- the rails of a formula are those of its value in the search's tables
pub value_three : (v : ℕ → Duo) (w : ℕ → Three) (f : Form ℕ) → ((i : ℕ) → In i (atoms_of f) → v i ≡ duo_of (w i))
    → value_d v f ≡ duo_of (kleene_value w f)
value_three = Three.value_three

-- so it is on the second rail exactly if the search refutes it
pub refuted_three : (v : ℕ → Duo) (w : ℕ → Three) (f : Form ℕ) → ((i : ℕ) → In i (atoms_of f) → v i ≡ duo_of (w i))
    → no_of (value_d v f) ≡ refuted (kleene_value w f)
refuted_three = Three.refuted_three

-- where every atom is decided, so is the formula, and its value is the usual one
pub value_sure : (v : ℕ → Duo) (w : ℕ → Bool) (f : Form ℕ) → ((i : ℕ) → In i (atoms_of f) → v i ≡ sure (w i))
    → value_d v f ≡ sure (value w f)
value_sure = Three.value_sure

-- ---- what a run gives (Three), where r is its result for the code of f, in a row that gives the atoms the values w

-- where every atom is decided, the rows that are not in the result of `run_whole` refute the formula
pub whole_refuted : (f : Form ℕ) (leaves : List ℕ) (e r : ℕ) (w : ℕ → Three) → exec (whole_at leaves e) (postfix f) [] ≡ sure (bit r e) ∷ []
    → ((i : ℕ) → In i (atoms_of f) → is (bit (get_or leaves i 0) e) ≡ w i) → not (bit r e) ≡ refuted (kleene_value w f)
whole_refuted = Three.whole_refuted

-- and those that are in it make it true
pub whole_value : (f : Form ℕ) (leaves : List ℕ) (e r : ℕ) (w : ℕ → Bool) → exec (whole_at leaves e) (postfix f) [] ≡ sure (bit r e) ∷ []
    → ((i : ℕ) → In i (atoms_of f) → bit (get_or leaves i 0) e ≡ w i) → bit r e ≡ value w f
whole_value = Three.whole_value

-- on two rails of words, the rows on the second rail of the result of `run_rails` refute the formula
pub rails_refuted : (f : Form ℕ) (ts fs : List ℕ) (e y n : ℕ) (w : ℕ → Three) → exec (rails_at ts fs e) (postfix f) [] ≡ duo (bit y e) (bit n e) ∷ []
    → ((i : ℕ) → In i (atoms_of f) → rails_at ts fs e i ≡ duo_of (w i)) → bit n e ≡ refuted (kleene_value w f)
rails_refuted = Three.rails_refuted
