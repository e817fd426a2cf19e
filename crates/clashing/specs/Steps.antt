-- For proofs: what the functions ensure, of all rules that are compiled: the code of those that are chosen, whether a floor meets them, which are
-- kept, and which clash (`ClashIs`, the contract of `clash`, which only our own crates call). Assumes nothing.
use Rattle.std.specs.Prelude.{Bool, true, false, ◌≡◌, List, [], ◌∷◌, ◌++◌, ℕ, ◌-◌, ◌≤◌, ◌<◌, length, take, drop, replicate, Result, Ok, Err}
use Rattle.formula.specs.Formula.{Form, Formula, Name}
use Rattle.contact.specs.Question.{plain}
use Rattle.contact.specs.Numbering.{names_of, numbered_atoms, row_atoms}
use Rattle.contact.specs.Row.{Row}
use Rattle.contact.specs.Check.{first_row, first_row_of}
use Rattle.solver.specs.Coded.{Coded}
use Rattle.ruleset.specs.declared.Compiling.{Compiling}
use Rattle.ruleset.specs.Texts.{CompiledRules}
use Rattle.clashing.specs.declared.Chosen.{Chosen}
use Rattle.clashing.specs.declared.NoClash.{NoClash}
use Rattle.clashing.specs.Clash.{chosen}
use Rattle.clashing.specs.Clashing.{is_found, clash_of}

-- the code that was put is that of the chosen rules
pub record PutsChosen (code ends : List ℕ) (set : List Bool) (r : Chosen) (out : List ℕ) : Type 0 where
  pub few : r.count ≤ length r.ends
  pub coded : (many : ℕ) (rules : List (Form ℕ)) → Coded many code ends rules → Coded many out (take r.count r.ends) (chosen set rules)

-- whether a floor meets the chosen rules, of those that are compiled
unfoldable pub SomeFloorSays : Compiling → List ℕ → List Bool → Bool → Type 0
SomeFloorSays c code set r =
    (rules : List (Formula Name)) (kept : List ℕ) → CompiledRules rules c kept code
    → r ≡ is_found (first_row plain (length (names_of rules)) (row_atoms rules) (chosen set (numbered_atoms rules)))

-- the rules that are kept, and behind them true at the places that no rule has
unfoldable pub KeptIs : Compiling → List ℕ → List Bool → Type 0
KeptIs c code r =
    (rules : List (Formula Name)) (kept : List ℕ) → CompiledRules rules c kept code → r ≡ clash_of rules ++ replicate (16 - length rules) true

-- the answer and the places after it, by the row that is found and the set: the set over the first places, what lies past it kept, and all of
-- it for another answer
abbrev pub Clashes : List Row → List Bool → List Bool → List Bool → Result ℕ NoClash → Type 0
Clashes [] set before after r =
    (length set ≤ length before → (r ≡ Ok (length set)) × (after ≡ set ++ drop (length set) before))
    × (length before < length set → (r ≡ Err (NoClash.Short (length set))) × (after ≡ before))
Clashes (row ∷ rows) set before after r = (r ≡ Err NoClash.PlanExists) × (after ≡ before)

unfoldable pub ClashIs : Compiling → List ℕ → List Bool → List Bool → Result ℕ NoClash → Type 0
ClashIs c code before after r = (rules : List (Formula Name)) (kept : List ℕ) → CompiledRules rules c kept code → Clashes (first_row_of plain rules) (clash_of rules) before after r
