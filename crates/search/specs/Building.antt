-- For proofs: what the functions that find the piece of a row ensure, for document 02's one building: of every list of marks that a state is
-- that of, and of every list of atoms that the chart is compiled from. Assumes nothing.
use Rattle.std.specs.Prelude.{Bool, true, false, ◌≡◌, Option, None, Some, is_some, List, ℕ, ◌^◌, ◌≤◌, ◌<◌, take}
use Rattle.formula.specs.Formula.{Atom}
use Rattle.evalset.specs.declared.EvalSet.{EvalSet}
use Rattle.lists.specs.Search.{In, any, all, below, elem}
use Rattle.evalset.specs.Sets.{room, mem, none_of, meet_of}
use Rattle.evalset.specs.Most.{most}
use Rattle.squares.specs.Square.{square_at}
use Rattle.contact.specs.Plan.{Mark, row_marks, separated, allowed, met}
use Rattle.contact.specs.Pieces.{whole_piece, check_pieces, piece_given}
use Rattle.search.specs.declared.Chart.{Chart}
use Rattle.search.specs.Rows.{row_bits}
use Rattle.search.specs.Tests.{starts_of}
use Rattle.search.specs.Compiled.{Compiled, State, Fit}
use Rattle.search.specs.Planned.{marks_in}

-- the set has e, and is its piece where e is allowed
pub record PieceSays (s : State) (e : ℕ) (r : EvalSet) : Type 0 where
  pub own : e < room → mem r e ≡ true
  pub whole : (names : ℕ) → names ≤ most → (ms : List Mark) → Fit names s ms → allowed names ms e ≡ true
      → (f : ℕ) → mem r f ≡ elem f (whole_piece names ms e)

-- the set meets an atom with its value: whether it is a contact, then its value; set is a set of evaluations, sep p what is separated from p
abbrev pub met_of : Bool → Bool → (ℕ → Bool) → (ℕ → ℕ → Bool) → (ℕ → Bool) → (ℕ → Bool) → Bool
met_of true true set sep x y = any (starts_of (meet_of set x) (meet_of set y) sep) (below room)
met_of true false set sep x y = true
met_of false true set sep x y = true
met_of false false set sep x y = any (meet_of set x) (below room)

-- the rows have what the marks separate
abbrev pub RowsAre : ℕ → List ℕ → List Mark → Type 0
RowsAre names rows ms = (p q : ℕ) → p < 2 ^ names → q < 2 ^ names → square_at rows p q ≡ separated ms p q

-- whether the set meets the row's marks, by the rows of any marks: as any list of allowed evaluations that has the same
unfoldable pub MetSays : Chart → List ℕ → EvalSet → ℕ → Bool → Type 0
MetSays chart rows piece row r =
    (atoms : List (Atom ℕ)) → Compiled chart atoms → (ms : List Mark) → RowsAre chart.names rows ms
    → (set : List ℕ) → ((f : ℕ) → mem piece f ≡ elem f set) → ((f : ℕ) → In f set → allowed chart.names ms f ≡ true)
    → r ≡ all (met ms set) (marks_in chart atoms row)

-- the evaluations of a set that may be there: none where there is none
abbrev pub mem_of : Option EvalSet → ℕ → Bool
mem_of None = none_of
mem_of (Some s) = mem s

-- the first piece that meets the marks: whether there is one, and its evaluations
pub record FirstPiece (names : ℕ) (ms : List Mark) (r : Option EvalSet) : Type 0 where
  pub checked : is_some r ≡ check_pieces names ms
  pub given : (e : ℕ) → mem_of r e ≡ elem e (piece_given names ms)

-- by the state of the row's marks
unfoldable pub FoundSays : Chart → State → ℕ → Option EvalSet → Type 0
FoundSays chart s row r =
    (atoms : List (Atom ℕ)) → Compiled chart atoms → Fit chart.names s (marks_in chart atoms row)
    → FirstPiece chart.names (marks_in chart atoms row) r

-- whether some piece meets the row's marks
unfoldable pub BuildingSays : Chart → ℕ → Bool → Type 0
BuildingSays chart row r = (atoms : List (Atom ℕ)) → Compiled chart atoms → r ≡ check_pieces chart.names (marks_in chart atoms row)

-- with a square of so many rows
unfoldable pub BuildingIn : Chart → ℕ → ℕ → Bool → Type 0
BuildingIn chart rows row r =
    (atoms : List (Atom ℕ)) → Compiled chart atoms → 2 ^ chart.names ≤ rows → r ≡ check_pieces chart.names (marks_in chart atoms row)

-- whether some piece meets the marks of the first k atoms
unfoldable pub PartSays : Chart → ℕ → ℕ → Bool → Type 0
PartSays chart k row r =
    (atoms : List (Atom ℕ)) → Compiled chart atoms → r ≡ check_pieces chart.names (row_marks (take k atoms) (row_bits k row))
