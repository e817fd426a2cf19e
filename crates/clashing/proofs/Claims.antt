-- What is proved of the rules that clash: the computed set is the one that is meant and no other, no floor that counts for all rules meets the
-- rules of the set, and without any one of them some such floor does; each claim with the file that has its proof. For any number of rules, names and atoms. Assumes nothing.
use mathlib.Core.Bool.{Bool, true, false}
use mathlib.Core.Path.{◌≡◌, ◌∙◌}
use mathlib.Core.Logic.{◌↔◌}
use mathlib.Core.List.{List}
use Prim.Native.Nat.{ℕ}
use lib.ListN.{length, get_or, set, length-map}
use Rattle.formula.specs.Formula.{Formula, Name}
use Rattle.contact.specs.Question.{plain, NoFloor}
use Rattle.contact.specs.Numbering.{names_of, numbered_atoms, row_atoms, map_form, atom_number}
use Rattle.clashing.specs.Clash.{chosen, NoneMeets, SomeMeets, IsClash}
use Rattle.clashing.specs.Clashing.{clash_of}
use Rattle.clashing.proofs.Keeping as Keeping
use Rattle.clashing.proofs.Trying as Trying

-- ---- the set (Keeping)

-- where no floor meets the rules, the computed set is that of the rules that clash, and no other is
pub clash_exactly : (rules : List (Formula Name)) → NoFloor plain rules → (s : List Bool) → (s ≡ clash_of rules) ↔ IsClash rules s
clash_exactly = Keeping.clash_exactly

-- "no such floor meets all rules of the set"
pub clash_none_meets : (rules : List (Formula Name)) (s : List Bool) → IsClash rules s → NoneMeets (names_of rules) (chosen s rules)
clash_none_meets = Keeping.clash_none_meets

-- "for each rule of the set some such floor meets the others"
pub clash_needed : (rules : List (Formula Name)) (s : List Bool) → IsClash rules s → (i : ℕ) → get_or s i false ≡ true
    → SomeMeets (names_of rules) (chosen (set s i false) rules)
clash_needed = Keeping.clash_needed

-- ---- for a caller of `clash` (Trying)

-- the set has a place for each rule
pub clash_length : (rules : List (Formula Name)) → length (clash_of rules) ≡ length rules
clash_length rules = Trying.clash_long (length (names_of rules)) (row_atoms rules) _ (numbered_atoms rules) ∙ length-map rules (map_form (atom_number rules))
