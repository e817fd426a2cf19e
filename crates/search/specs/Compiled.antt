-- For proofs: when a chart is compiled from a list of atoms, when a state is that of a list of marks, and what the functions on them
-- ensure. Assumes nothing.
use Rattle.std.specs.Prelude.{Bool, true, false, ◌||◌, ◌≡◌, List, [], ◌∷◌, ◌++◌, ℕ, ◌^◌, ◌≤◌, ◌<◌, length, get_or}
use Rattle.formula.specs.Formula.{Term, Atom}
use Rattle.evalset.specs.declared.EvalSet.{EvalSet}
use Rattle.evalset.specs.Sets.{mem, mem_at, below_of, minus_of}
use Rattle.evalset.specs.Most.{most}
use Rattle.squares.specs.Square.{square_at, reach}
use Rattle.contact.specs.Meaning.{part_term}
use Rattle.contact.specs.Plan.{Means, Mark, mark, separated, allowed}
use Rattle.search.specs.declared.Chart.{Chart}
use Rattle.search.specs.Tests.{less_of, part_of}

-- the most atoms
abbrev pub limit : ℕ
limit = 16

-- an atom as the chart has it: whether it is a contact, and its sets
abbrev pub AtomIs : ℕ → Bool → (ℕ → Bool) → (ℕ → Bool) → Atom ℕ → Type 0
AtomIs names contact x y (Atom.contact s t) = (contact ≡ true) × Means names x s × Means names y t
AtomIs names contact x y (Atom.part s t) = (contact ≡ false) × Means names x (part_term s t)
AtomIs names contact x y (Atom.empty t) = (contact ≡ false) × Means names x t

-- what stands past the end of the atoms
abbrev pub no_atom : Atom ℕ
no_atom = Atom.empty Term.zero

abbrev pub atom_at : List (Atom ℕ) → ℕ → Atom ℕ
atom_at atoms i = get_or atoms i no_atom

-- whether the chart's atom i is a contact
abbrev pub contact_at : Chart → ℕ → Bool
contact_at chart i = get_or chart.contact i false

-- what the search asks of a chart and its atoms: its sets are the terms' at the evaluations of its names. `CompiledFrom` of compile gives it
pub record Compiled (chart : Chart) (atoms : List (Atom ℕ)) : Type 0 where
  pub few : chart.names ≤ most
  pub counted : chart.atoms ≡ length atoms
  pub atom_is : (i : ℕ) → i < length atoms
      → AtomIs chart.names (contact_at chart i) (mem_at chart.xs i) (mem_at chart.ys i) (atom_at atoms i)

-- a state: the evaluations that are allowed, and the words of a square of those separated from each
pub record State : Type 0 where
  pub allowed : EvalSet
  pub rows : List ℕ

abbrev pub state : EvalSet → List ℕ → State
state al ws = record { allowed = al; rows = ws }

-- the state is that of the marks
pub record Fit (names : ℕ) (s : State) (ms : List Mark) : Type 0 where
  pub allowed_is : mem s.allowed ≡ allowed names ms
  pub rows_are : (p q : ℕ) → p < 2 ^ names → q < 2 ^ names → square_at s.rows p q ≡ separated ms p q

-- the state r is s, once an atom has its value: whether it is a contact, its value, all evaluations that the names reach, its sets
pub record Follows (contact value : Bool) (all x y : ℕ → Bool) (s r : State) : Type 0 where
  pub long : length r.rows ≡ length s.rows
  pub less : mem r.allowed ≡ minus_of (mem s.allowed) (less_of contact value x y)
  pub more : (p q : ℕ) → all p ≡ true → p < reach s.rows → q < reach s.rows
      → square_at r.rows p q ≡ (square_at s.rows p q || part_of contact value x y p q)

-- ---- what the functions ensure, of every list of atoms

-- a decision brings the state of any marks to that of one mark more, in a square that has room for the names
unfoldable pub StepSays : Chart → (ℕ → Bool) → State → ℕ → Bool → State → Type 0
StepSays chart all s k value r =
    (atoms : List (Atom ℕ)) → Compiled chart atoms → k < length atoms → all ≡ below_of chart.names → 2 ^ chart.names ≤ reach s.rows
    → (ms : List Mark) → Fit chart.names s ms → Fit chart.names r (ms ++ mark (atom_at atoms k) value ∷ [])
