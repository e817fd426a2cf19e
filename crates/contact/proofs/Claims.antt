-- What the crate proves, in the order of document 01, each claim with the file that has its proof. Nothing is assumed: any
-- number of names, of atoms and of points. Floors and rules are those of specs/Meaning.antt; which floors count is a parameter, the question of
-- specs/Question.antt.
use mathlib.Core.Bool.{Bool, true, false, not, ◌&&◌, ◌||◌, beq}
use mathlib.Core.Path.{◌≡◌}
use mathlib.Core.Logic.{◌↔◌}
use mathlib.Core.List.{List, [], ◌∷◌, map}
use Prim.Native.Nat.{ℕ, ◌+◌, ◌-◌, ◌*◌, ◌^◌, ◌≤◌, ◌<◌, max}
use lib.Dec.{eqb}
use lib.ListN.{length, get_or}
use Rattle.formula.specs.Formula.{Atom, Form, Formula, Name}
use Rattle.lists.specs.Search.{In, first, collect, below, elem}
use Rattle.evalset.specs.Bit.{bit}
use Rattle.contact.specs.Meaning.{Floor, atom_on, meets_all}
use Rattle.contact.specs.Question.{Question, plain, building, HangsTogether, Somewhere, Counts, NoFloor}
use Rattle.formula.specs.Names.{atom_names}
use Rattle.formula.specs.Same.{name_discrete, same_atom}
use Rattle.contact.specs.Numbering.{all_atoms, distinct, IsFirst, same_name, names_of, number_of, name_of, different_atoms, atom_number, numbered_atoms, row_atoms, AtomBelow, AtomsBelow}
use Rattle.contact.specs.Row.{IsFirstRow, Row, Realises, Realisable, is, PartialRow, Three, RealisesPart, rules_true}
use Rattle.contact.specs.Plan.{Mark, marks_of, row_marks, separated, may, allowed, Linked, IsPiece, ArePoints, true_contacts, false_zeros}
use Rattle.contact.specs.Pieces.{whole_piece}
use Rattle.contact.specs.Check.{check, passes, points_for, rows, good, first_row, first_row_of}
use Rattle.contact.specs.Pairs.{pair_check}
use Rattle.contact.specs.Kleene.{kleene_value, Strong, StrongPrefix}
use Rattle.contact.specs.Tableau.{Sound, Exact, refutes, closes, search}
use Rattle.contact.proofs.Bits
use Rattle.contact.proofs.Somewhere
use Rattle.contact.proofs.Pieces
use Rattle.contact.proofs.Floors
use Rattle.contact.proofs.Pairs
use Rattle.contact.proofs.Distinct
use Rattle.contact.proofs.Same
use Rattle.contact.proofs.Numbered
use Rattle.contact.proofs.Answer
use Rattle.contact.proofs.Naming
use Rattle.contact.proofs.Order
use Rattle.contact.proofs.SameFloor
use Rattle.contact.proofs.Strong
use Rattle.contact.proofs.Searching
use Rattle.contact.proofs.Count

-- ---- evaluations (Bits)

-- every choice of names below n is an evaluation below 2^n
pub every_choice : (n : ℕ) (v : ℕ → Bool) → (e : ℕ) × (e < 2 ^ n) × ((i : ℕ) → i < n → bit e i ≡ v i)
every_choice n v = (Bits.encode n v, Bits.encode_lt n v, Bits.bit_encode n v)

-- ---- each point stands somewhere (Somewhere)

-- where evaluations are those of a floor's points, each point lies in some name exactly if each of them may be
pub somewhere_exactly : (n : ℕ) (F : Floor ℕ) (e : ℕ → ℕ) → ((p : ℕ) → p < F.points → e p < 2 ^ n)
    → ((i p : ℕ) → p < F.points → F.lies i p ≡ bit (e p) i) → ((p : ℕ) → p < F.points → may n (e p) ≡ true) ↔ Somewhere (below n) F
somewhere_exactly n F e low lies = (λ h. Somewhere.somewhere_points n F e h lies, Somewhere.points_somewhere n F e low lies)

-- ---- numbers for names and for atoms (Naming, Numbered)

-- names are the same exactly if their bytes are
pub same_name_lem : (x y : Name) → (same_name x y ≡ true) ↔ (x ≡ y)
same_name_lem = Naming.same_name_lem

-- each name of the rules has a number below how many names they have, and is found at it
pub name_found : (rules : List (Formula Name)) {x : Name} → In x (collect atom_names (all_atoms rules))
    → (number_of rules x < length (names_of rules)) × (name_of rules (number_of rules x) ≡ x)
name_found rules i = Naming.name_found rules i

-- so the names of the atoms that rows run over are below that number
pub numbered_below : (rules : List (Formula Name)) → AtomsBelow (length (names_of rules)) (row_atoms rules)
numbered_below = Naming.numbered_below

-- atoms that are the same have the same value on every floor (Same)
pub same_value : (F : Floor Name) (a b : Atom Name) → same_atom name_discrete a b ≡ true → atom_on F a ≡ atom_on F b
same_value F a b h = Same.same_value F name_discrete a b h

-- each atom has a number below how many different ones there are, and the atom of that number is the same
pub atom_found : (rules : List (Formula Name)) (none : Atom Name) {a : Atom Name} → In a (all_atoms rules)
    → (atom_number rules a < length (different_atoms rules)) × (same_atom name_discrete (get_or (different_atoms rules) (atom_number rules a) none) a ≡ true)
atom_found rules none i = Numbered.atom_found rules none i

-- "The witness of an exchanged contact is taken from its first writing": of all writings that are the same as an atom, the atom with its
-- number is the one that stands first in the rules (Distinct)
pub first_writing : (rules : List (Formula Name)) (none : Atom Name) {a : Atom Name} → In a (all_atoms rules)
    → IsFirst (same_atom name_discrete) (all_atoms rules) a (get_or (different_atoms rules) (atom_number rules a) none)
first_writing rules none {a} i = Distinct.first_of (same_atom name_discrete) (Same.same_alike name_discrete) none (all_atoms rules) a i

-- "numbered by first place": the numbers as they stand in the rules, each at its first place, are 0, 1, 2 and so on
pub numbered_in_order : (rules : List (Formula Name)) → distinct eqb (all_atoms (numbered_atoms rules)) ≡ below (length (different_atoms rules))
numbered_in_order = Numbered.numbered_in_order

-- the numbered rules say of a floor what the rules say
pub numbered_faithful : (rules : List (Formula Name)) (F : Floor Name)
    → rules_true (numbered_atoms rules) (map (atom_on F) (different_atoms rules)) ≡ meets_all F rules
numbered_faithful = Numbered.numbered_faithful

-- rules that are all among others have no more different atoms, so a withdrawn rule adds none
pub atoms_fewer : (rules others : List (Formula Name)) → ((f : Formula Name) → In f rules → In f others)
    → length (different_atoms rules) ≤ length (different_atoms others)
atoms_fewer = Naming.atoms_fewer

-- ---- which rows are realisable (Floors)

-- the check of a partial row passes exactly if some floor that counts gives the decided atoms their values
pub check_exactly : (q : Question) (n : ℕ) (atoms : List (Atom ℕ)) (part : PartialRow) → ((a : Atom ℕ) → In a atoms → AtomBelow n a)
    → length part ≤ length atoms → (passes q n (marks_of atoms part) ≡ true) ↔ ∥ ((F : Floor ℕ) × Counts q (below n) F × RealisesPart F atoms part) ∥₁
check_exactly = Floors.check_exactly

-- the check of a row passes exactly if the row is realisable
pub row_exactly : (q : Question) (n : ℕ) (atoms : List (Atom ℕ)) (row : Row) → ((a : Atom ℕ) → In a atoms → AtomBelow n a)
    → length row ≡ length atoms → (passes q n (row_marks atoms row) ≡ true) ↔ Realisable q (below n) atoms row
row_exactly = Floors.row_exactly

-- ---- the check by pairs of evaluations (Pairs)

-- the plain check of a partial row passes exactly if some pair of evaluations serves no restricted atom, and every demanded atom is served by
-- such a pair; the pair may be an evaluation with itself
pub pairs_exactly : (n : ℕ) (atoms : List (Atom ℕ)) (part : PartialRow) → check n (marks_of atoms part) ≡ pair_check n (marks_of atoms part)
pairs_exactly n atoms part = Pairs.check_pairs n (marks_of atoms part)

-- ---- the plan that is given (Floors, Answer, Naming)

-- the points that are found are those that are meant: the evaluations given, or for one building the whole piece that meets the marks, of
-- several the one with the least evaluation
pub points_exactly : (q : Question) (n : ℕ) (ms : List Mark) (points : List ℕ) → passes q n ms ≡ true
    → (points ≡ points_for q n ms) ↔ ArePoints q n ms points
points_exactly = Floors.points_exactly

-- the plan's floor has as many points as the plan
pub plan_points : (q : Question) (n : ℕ) (ms : List Mark) (h : passes q n ms ≡ true)
    → (Floors.marks_floor q n ms h).points ≡ length (points_for q n ms)
plan_points = Floors.plan_points

-- those at two places are in contact if they are not separated
pub plan_touch : (q : Question) (n : ℕ) (ms : List Mark) (h : passes q n ms ≡ true) (p r : ℕ)
    → (Floors.marks_floor q n ms h).touch p r ≡ not (separated ms (get_or (points_for q n ms) p 0) (get_or (points_for q n ms) r 0))
plan_touch = Floors.plan_touch

-- and bit i of a point says whether it lies in name i
pub plan_lies : (q : Question) (n : ℕ) (ms : List Mark) (h : passes q n ms ≡ true) (i p : ℕ)
    → (Floors.marks_floor q n ms h).lies i p ≡ bit (get_or (points_for q n ms) p 0) i
plan_lies = Floors.plan_lies

-- it counts: each point lies in a name where there is one, and the plan of a building hangs together
pub plan_counts : (q : Question) (n : ℕ) (ms : List Mark) (h : passes q n ms ≡ true) → Counts q (below n) (Floors.marks_floor q n ms h)
plan_counts = Floors.plan_counts

-- the plan of a row that passes the check gives every atom the row's value
pub plan_row : (q : Question) (n : ℕ) (atoms : List (Atom ℕ)) (row : Row) → length row ≡ length atoms
    → (h : passes q n (row_marks atoms row) ≡ true) → Realises (Floors.marks_floor q n (row_marks atoms row) h) atoms row
plan_row = Floors.plan_row

-- there is only one first row
pub first_row_once : (q : Question) (rules : List (Formula Name)) (row other : Row) → IsFirstRow q rules row → IsFirstRow q rules other
    → row ≡ other
first_row_once = Answer.first_row_once

-- the row found is realisable, makes the rules true, and no realisable row before it does
pub first_row_named : (q : Question) (rules : List (Formula Name)) (row : Row) → first_row_of q rules ≡ row ∷ [] → IsFirstRow q rules row
first_row_named = Naming.first_row_named

-- and the first realisable one that makes them true is found
pub first_row_only_named : (q : Question) (rules : List (Formula Name)) (row : Row) → IsFirstRow q rules row → first_row_of q rules ≡ row ∷ []
first_row_only_named = Naming.first_row_only_named

-- the plan, each name at its number, counts
pub plan_counts_named : (q : Question) (rules : List (Formula Name)) (row : Row) (e : first_row_of q rules ≡ row ∷ [])
    → Counts q (names_of rules) (Naming.named_plan q rules row e)
plan_counts_named = Naming.plan_counts_named

-- gives their atoms this row
pub plan_row_named : (q : Question) (rules : List (Formula Name)) (row : Row) (e : first_row_of q rules ≡ row ∷ [])
    → Realises (Naming.named_plan q rules row e) (different_atoms rules) row
plan_row_named = Naming.plan_row_named

-- and meets all of them
pub plan_meets_named : (q : Question) (rules : List (Formula Name)) (row : Row) (e : first_row_of q rules ≡ row ∷ [])
    → meets_all (Naming.named_plan q rules row e) rules ≡ true
plan_meets_named = Naming.plan_meets_named

-- and no row is found exactly if no floor over names that counts meets all of them
pub no_plan_named : (q : Question) (rules : List (Formula Name)) → (first_row_of q rules ≡ []) ↔ NoFloor q rules
no_plan_named = Naming.no_plan_named

-- rules that are the same in another order have such a floor, for each question, exactly where the others have (Order)
pub no_plan_order : (rules others : List (Formula Name)) → Order.Among rules others → Order.Among others rules → (q : Question) → NoFloor q rules ↔ NoFloor q others
no_plan_order rules others into back q = (Order.no_floor_order rules others into back q, Order.no_floor_order others rules back into q)

-- with no names: exactly if no floor at all does
pub no_plan_unnamed : (rules : List (Formula Name)) → names_of rules ≡ []
    → (first_row_of plain rules ≡ []) ↔ ((F : Floor Name) → meets_all F rules ≡ true → ⊥)
no_plan_unnamed = Naming.no_plan_unnamed

-- for one building: exactly if no floor that hangs together does, of those whose points lie in names
pub no_building_named : (rules : List (Formula Name))
    → (first_row_of building rules ≡ []) ↔ ((F : Floor Name) → Somewhere (names_of rules) F → HangsTogether F → meets_all F rules ≡ true → ⊥)
no_building_named rules =
    let w = Naming.no_plan_named building rules in (
      λ e F somewhere hangs h. w.0 e F (record { somewhere = somewhere; shaped = hangs }) h,
      λ none. w.1 (λ F c h. none F c.somewhere c.shaped h),
    )

-- floors with the same points, contacts and regions meet the same rules
pub meets_same : {N : Type 0} (F G : Floor N) → SameFloor.SameFloor F G → (rules : List (Formula N)) → meets_all F rules ≡ meets_all G rules
meets_same F G same rules = SameFloor.meets_same F G same rules

-- and count for the same questions
pub counts_same : {N : Type 0} (F G : Floor N) → SameFloor.SameFloor F G → (q : Question) (names : List N) → Counts q names F
    → Counts q names G
counts_same F G same q names c = SameFloor.counts_same F G same q names c

-- ---- pieces (Pieces)

-- the piece of an allowed evaluation has exactly what is linked with it
pub piece_exactly : (n : ℕ) (ms : List Mark) (e : ℕ) → allowed n ms e ≡ true → IsPiece n ms e (whole_piece n ms e)
piece_exactly = Pieces.piece_is

-- and a set that has the evaluation, has only what is linked with it, and is closed is its piece
pub piece_unique : (n : ℕ) (ms : List Mark) (e : ℕ) → allowed n ms e ≡ true → (set : ℕ → Bool) → set e ≡ true
    → ((f : ℕ) → set f ≡ true → Linked n ms e f)
    → ((f g : ℕ) → set f ≡ true → allowed n ms g ≡ true → separated ms f g ≡ false → set g ≡ true)
    → (f : ℕ) → set f ≡ elem f (whole_piece n ms e)
piece_unique = Pieces.piece_unique

-- ---- how many points (Count)

-- for the plain question, with c true contacts and z false zero atoms there are at most max(1, 2c + z) points
pub point_bound : (n : ℕ) (ms : List Mark) → length (points_for plain n ms) ≤ max 1 (2 * true_contacts ms + false_zeros ms)
point_bound = Count.point_bound

-- at most 32 points for at most 16 atoms
pub points_at_most : (n : ℕ) (atoms : List (Atom ℕ)) (part : PartialRow) → length atoms ≤ 16
    → length (points_for plain n (marks_of atoms part)) ≤ 32
points_at_most = Count.points_at_most

-- for each question at most as many as there are evaluations
pub points_room : (q : Question) (n : ℕ) (ms : List Mark) → length (points_for q n ms) ≤ 2 ^ n
points_room = Count.points_room

-- one fewer where a name is used
pub points_room_named : (q : Question) (n : ℕ) (ms : List Mark) → 0 < n → length (points_for q n ms) ≤ 2 ^ n - 1
points_room_named = Count.points_room_named

-- ---- Kleene's strong tables (Strong)

-- from the values of its operands a connective has a value exactly if every way to decide those that are unknown gives it; each operand is
-- decided by itself, so that f<->f is unknown where f is
module _ (v : ℕ → Three) where
  pub negation_strong : (f : Form ℕ) → StrongPrefix not (kleene_value v f) (kleene_value v (Form.negation f))
  negation_strong = Strong.negation_strong v

  pub conjunction_strong : (f g : Form ℕ) → Strong ◌&&◌ (kleene_value v f) (kleene_value v g) (kleene_value v (Form.conjunction f g))
  conjunction_strong = Strong.conjunction_strong v

  pub disjunction_strong : (f g : Form ℕ) → Strong ◌||◌ (kleene_value v f) (kleene_value v g) (kleene_value v (Form.disjunction f g))
  disjunction_strong = Strong.disjunction_strong v

  pub implication_strong : (f g : Form ℕ) → Strong (λ x y. not x || y) (kleene_value v f) (kleene_value v g) (kleene_value v (Form.implication f g))
  implication_strong = Strong.implication_strong v

  pub equivalence_strong : (f g : Form ℕ) → Strong beq (kleene_value v f) (kleene_value v g) (kleene_value v (Form.equivalence f g))
  equivalence_strong = Strong.equivalence_strong v

-- ---- the search (Searching)

-- a search that closes branches by a test finds the first row that passes, for any test that is sound, and exact at the leaves
pub search_first : (n : ℕ) (passes : Row → Bool) (test : PartialRow → Bool) → Sound passes test → Exact n passes test
    → search test n [] ≡ first passes (rows n)
search_first = Searching.search_first

-- a rule that is false by Kleene's tables is false whatever the undecided atoms are
pub refutes_sound : (nums : List (Form ℕ)) → Sound (rules_true nums) (refutes nums)
refutes_sound = Searching.refutes_sound

-- with the check of the decided atoms it is sound for the rows that make the rules true and pass the check
pub closes_sound : (q : Question) (n : ℕ) (atoms : List (Atom ℕ)) (nums : List (Form ℕ))
    → Sound (good q n atoms nums) (closes q n atoms nums)
closes_sound = Searching.closes_sound

-- and exact at the leaves, the rules' atoms being numbered below how many there are
pub closes_exact : (q : Question) (n : ℕ) (atoms : List (Atom ℕ)) (nums : List (Form ℕ))
    → ((i : ℕ) → In i (all_atoms nums) → i < length atoms) → Exact (length atoms) (good q n atoms nums) (closes q n atoms nums)
closes_exact = Searching.closes_exact

-- so the search that closes branches early finds the row that the answer uses
pub search_answer : (q : Question) (rules : List (Formula Name))
    → search (closes q (length (names_of rules)) (row_atoms rules) (numbered_atoms rules)) (length (row_atoms rules)) [] ≡ first_row_of q rules
search_answer = Searching.search_answer

-- the plain check closes branches for every question
pub plain_sound : (q : Question) (n : ℕ) (atoms : List (Atom ℕ)) (nums : List (Form ℕ))
    → Sound (good q n atoms nums) (closes plain n atoms nums)
plain_sound = Searching.plain_sound

-- and any test that closes no more than the question's own, and as much at whole rows, finds the answer's row
pub search_between : (q : Question) (n : ℕ) (atoms : List (Atom ℕ)) (nums : List (Form ℕ))
    → ((i : ℕ) → In i (all_atoms nums) → i < length atoms) → (test : PartialRow → Bool)
    → ((part : PartialRow) → test part ≡ true → closes q n atoms nums part ≡ true)
    → ((row : Row) → length row ≡ length atoms → closes q n atoms nums (map is row) ≡ true → test (map is row) ≡ true)
    → search test (length atoms) [] ≡ first_row q n atoms nums
search_between = Searching.search_between
