-- What is computed: the writer's answer and every word of its buffer, by the writer's tree (document 02, T-06). `ExplainSays` is the contract of
-- `explain`, which only our own crates call. Assumes nothing.
use Rattle.std.specs.Prelude.{◌≡◌, List, [], ◌∷◌, ℕ, ◌≤◌, ◌<◌, length, Result, Ok, Err}
use Rattle.std.proofs.lemmas.List.Edits.{sets}
use Rattle.formula.specs.Formula.{Atom, Form}
use Rattle.contact.specs.Question.{plain}
use Rattle.contact.specs.Numbering.{AtomsBelow}
use Rattle.search.specs.declared.Chart.{Chart}
use Rattle.solver.specs.Coded.{Coded}
use Rattle.solver.specs.Tree.{ComesFrom}
use Rattle.prefixes.specs.Heap.{Checks}
use Rattle.trees.specs.Trees.{Tree, words_of}
use Rattle.trees.specs.Checker.{no_floor, write}
use Rattle.explaining.specs.declared.NoTree.{NoTree}
use Rattle.explaining.specs.declared.NoTree.TheVariants.{PlanExists, Short}

-- the answer and the words after it, by the tree, if there is one: "17 in the writer, carrying 0, where a plan exists; then 12 in the writer, with
-- the words needed"
abbrev pub Explained : List Tree → List ℕ → List ℕ → Result ℕ NoTree → Type 0
Explained [] before after r = (r ≡ Err PlanExists) × (after ≡ before)
Explained (t ∷ ts) before after r =
    (length (words_of t) ≤ length before → (r ≡ Ok (length (words_of t))) × (after ≡ sets before 0 (words_of t)))
    × (length before < length (words_of t) → (r ≡ Err (Short (length (words_of t)))) × (after ≡ before))

-- where there is a tree
unfoldable pub WriteSays : List ℕ → List ℕ → List ℕ → ℕ → List ℕ → List ℕ → Result ℕ NoTree → Type 0
WriteSays code ends bits n before after r =
    (names : ℕ) (atoms : List (Atom ℕ)) (rules : List (Form ℕ)) → length atoms ≡ n → Coded n code ends rules → Checks names atoms bits
    → (t : Tree) (rest : List Tree) → write rules (no_floor plain names atoms) n [] ≡ t ∷ rest → Explained (t ∷ rest) before after r

-- of all atoms and rules that the code and the chart come from
unfoldable pub TellSays : List ℕ → List ℕ → Chart → List ℕ → List ℕ → Result ℕ NoTree → Type 0
TellSays code ends chart before after r =
    (atoms : List (Atom ℕ)) (rules : List (Form ℕ)) → ComesFrom code ends chart atoms rules
    → (t : Tree) (rest : List Tree) → write rules (no_floor plain chart.names atoms) (length atoms) [] ≡ t ∷ rest → Explained (t ∷ rest) before after r

unfoldable pub ExplainSays : List ℕ → List ℕ → Chart → List ℕ → List ℕ → Result ℕ NoTree → Type 0
ExplainSays code ends chart before after r =
    (atoms : List (Atom ℕ)) (rules : List (Form ℕ)) → ComesFrom code ends chart atoms rules → AtomsBelow chart.names atoms
    → Explained (write rules (no_floor plain chart.names atoms) (length atoms) []) before after r
