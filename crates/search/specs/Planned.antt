-- For proofs: what the functions that find the points of a row ensure, of every list of atoms that the chart is compiled from; `Lent` and
-- `PlanSays` are the contract of `points_of`, which only our own crates call. Assumes nothing.
use Rattle.std.specs.Prelude.{◌≡◌, List, ℕ, ◌^◌, ◌≤◌, ◌<◌}
use Rattle.formula.specs.Formula.{Atom}
use Rattle.evalset.specs.declared.EvalSet.{EvalSet}
use Rattle.lists.specs.Search.{keep, collect, below, elem}
use Rattle.evalset.specs.Sets.{room, mem}
use Rattle.squares.specs.Square.{Square, square_at, reach, Clear}
use Rattle.contact.specs.Question.{Question}
use Rattle.contact.specs.Plan.{Mark, row_marks, separated, gives, given}
use Rattle.contact.specs.Check.{given_by, points_for}
use Rattle.search.specs.declared.Chart.{Chart}
use Rattle.search.specs.Rows.{row_bits}
use Rattle.search.specs.Compiled.{Compiled, State, Fit}

-- a square that is lent: it is clear, and has room for the evaluations of so many names
pub record Lent (names : ℕ) (ws : List ℕ) : Type 0 where
  pub square : Square ws
  pub clear : Clear ws
  pub wide : 2 ^ names ≤ reach ws

-- the marks of a whole row
abbrev pub marks_in : Chart → List (Atom ℕ) → ℕ → List Mark
marks_in chart atoms row = row_marks atoms (row_bits chart.atoms row)

-- the state is that of the row's marks, where its square has room for the names
unfoldable pub StateSays : Chart → ℕ → State → Type 0
StateSays chart row s =
    (atoms : List (Atom ℕ)) → Compiled chart atoms → 2 ^ chart.names ≤ reach s.rows → Fit chart.names s (marks_in chart atoms row)

-- the evaluations that the row's marks give, by the state of any marks
unfoldable pub GatheredSays : Chart → State → ℕ → EvalSet → Type 0
GatheredSays chart s row r =
    (atoms : List (Atom ℕ)) → Compiled chart atoms → (ms : List Mark) → Fit chart.names s ms
    → (e : ℕ) → mem r e ≡ elem e (collect (gives chart.names ms) (marks_in chart atoms row))

-- the evaluations that the row gives
unfoldable pub GivenSays : Chart → State → ℕ → EvalSet → Type 0
GivenSays chart s row r =
    (atoms : List (Atom ℕ)) → Compiled chart atoms → Fit chart.names s (marks_in chart atoms row)
    → (e : ℕ) → mem r e ≡ elem e (given chart.names (marks_in chart atoms row))

-- the points, for a question
unfoldable pub PointsSay : Question → Chart → State → ℕ → EvalSet → Type 0
PointsSay q chart s row r =
    (atoms : List (Atom ℕ)) → Compiled chart atoms → Fit chart.names s (marks_in chart atoms row)
    → (e : ℕ) → mem r e ≡ elem e (given_by q chart.names (marks_in chart atoms row))

-- the points of a list of marks for a question, as a set, and a square of what the marks separate
pub record PlanOf (q : Question) (names : ℕ) (ms : List Mark) (r : EvalSet) (ws : List ℕ) : Type 0 where
  pub listed : keep (mem r) (below room) ≡ points_for q names ms
  pub apart : (e f : ℕ) → e < 2 ^ names → f < 2 ^ names → square_at ws e f ≡ separated ms e f

-- they are those of the row, for a question
unfoldable pub PlanSays : Question → Chart → ℕ → EvalSet → List ℕ → Type 0
PlanSays q chart row r ws = (atoms : List (Atom ℕ)) → Compiled chart atoms → PlanOf q chart.names (marks_in chart atoms row) r ws
