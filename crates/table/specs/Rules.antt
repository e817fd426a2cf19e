-- What is meant: the formulas that rule texts mean, by the grammar, and which texts can stand together. Assumes nothing.
use Rattle.std.specs.Prelude.{◌≤◌, List, [], ◌∷◌, length}
use Rattle.formula.specs.Formula.{Formula, Name}
use Rattle.syntax.specs.RuleText.{IsRule}
use Rattle.contact.specs.Numbering.{names_of, different_atoms}
use Rattle.table.specs.Sheet.{Text}

-- "Each entry is the rule's text as it came, and means the formula read from it.": text by text, the formula that the grammar derives
pub data AreRules : List Text → List (Formula Name) → Type 0 where
  none : AreRules [] []
  more : {s : Text} {f : Formula Name} {rs : List Text} {fs : List (Formula Name)} → IsRule s f → AreRules rs fs → AreRules (s ∷ rs) (f ∷ fs)

-- "It holds at most 16 rules, 6 names and 16 atoms."; document 02, T-08: "Names go up to 8"
pub record CanStand (rs : List Text) : Type 0 where
  pub formulas : List (Formula Name)
  pub rules : AreRules rs formulas
  pub few : length rs ≤ 16
  -- "Rules, names and atoms are counted in this list"
  pub names : length (names_of formulas) ≤ 8
  -- and of the atoms those that are different: "atoms that are the same count as one"
  pub atoms : length (different_atoms formulas) ≤ 16
