-- For proofs: what the checker's functions ensure, of all atoms and rules that the code, the contacts and the list of words come from, and of
-- the partial row that a branch is. `CheckSays` is the contract of `check_tree`, which only our own crates call. Assumes nothing.
use Rattle.std.specs.Prelude.{Bool, true, false, not, ◌&&◌, ◌||◌, ◌≡◌, List, ◌∷◌, ℕ, zero, suc, ◌-◌, ◌^◌, ◌≤◌, ◌<◌, eqb, length, get_or, drop, Option, Some, None, Result, Ok, Err}
use Rattle.formula.specs.Formula.{Atom, Form}
use Rattle.lists.specs.Search.{any}
use Rattle.evalset.specs.Bit.{bit}
use Rattle.contact.specs.Question.{plain}
use Rattle.contact.specs.Row.{Three, is, unknown, PartialRow}
use Rattle.contact.specs.Plan.{marks_of}
use Rattle.contact.specs.Check.{check}
use Rattle.search.specs.declared.Chart.{Chart}
use Rattle.search.specs.Compiled.{limit}
use Rattle.pairing.specs.Words.{Spelt, Contacts, Serving, within}
use Rattle.solver.specs.Coded.{Coded}
use Rattle.solver.specs.Tree.{ComesFrom}
use Rattle.trees.specs.declared.Branch.{Branch}
use Rattle.trees.specs.declared.NotClosed.{NotClosed}
use Rattle.trees.specs.Closed.{value_in}
use Rattle.trees.specs.Checker.{Does, splits, closes, wrong, is_unknown, false_there, does, run, checked, no_floor}

-- ---- branches

-- decided, and true
abbrev pub is_true : Three → Bool
is_true (is b) = b
is_true unknown = false

-- the branch is the partial row, of so many atoms
pub record IsBranch (many : ℕ) (b : Branch) (part : PartialRow) : Type 0 where
  pub known_is : Spelt many (λ i. not (is_unknown (value_in part i))) b.known
  pub truth_is : Spelt many (λ i. is_true (value_in part i)) b.truth
  pub short : length part ≤ many

-- ---- no floor in a branch

-- the words that are left have bit p; bit 16 counts as one that each of them has
unfoldable pub served_by : ℕ → List ℕ → ℕ → Bool
served_by left ws p = any (λ w. within left w && (bit w p || eqb p 16)) ws

unfoldable pub FloorSays : List ℕ → ℕ → Branch → Bool → Type 0
FloorSays list contacts b r =
    (names : ℕ) (atoms : List (Atom ℕ)) → length atoms ≤ limit → Contacts atoms contacts → Serving names atoms list
    → (part : PartialRow) → IsBranch (length atoms) b part → r ≡ check names (marks_of atoms part)

-- ---- words

-- what code, contacts and list come from
pub record Comes (code ends list : List ℕ) (many contacts names : ℕ) (atoms : List (Atom ℕ)) (rules : List (Form ℕ)) : Type 0 where
  pub counted : many ≡ length atoms
  pub coded : Coded many code ends rules
  pub contacts_are : Contacts atoms contacts
  pub serving : Serving names atoms list

-- atom i's bit of the word is in the first row of leaf i
pub record LeavesSay (word many : ℕ) (r : List ℕ) : Type 0 where
  pub long : length r ≡ 16
  pub bits : (i : ℕ) → i < many → bit (get_or r i 0) 0 ≡ bit word (many - 1 - i)

-- where the part of the code at place j begins, the first at `from`
abbrev pub start_of : ℕ → List ℕ → ℕ → ℕ
start_of from ends zero = from
start_of from ends (suc j) = get_or ends j 0

unfoldable pub RuleSays : List ℕ → List ℕ → ℕ → Branch → ℕ → Bool → Type 0
RuleSays code ends many b k r =
    (rules : List (Form ℕ)) → Coded many code ends rules → (part : PartialRow) → IsBranch many b part → r ≡ false_there rules part k

-- the bit of the atom that is split on, if there is one
abbrev pub split_bit : ℕ → Does → Option ℕ
split_bit many (splits a) = Some (2 ^ (many - 1 - a))
split_bit many closes = None
split_bit many wrong = None

unfoldable pub SplitSays : ℕ → ℕ → ℕ → Option ℕ → Type 0
SplitSays many known w r =
    (rules : List (Form ℕ)) (no_plan_said : PartialRow → Bool) (part : PartialRow) → Spelt many (λ i. not (is_unknown (value_in part i))) known
    → r ≡ split_bit many (does many rules no_plan_said part w)

abbrev pub is_closing : Does → Bool
is_closing (splits a) = false
is_closing closes = true
is_closing wrong = false

unfoldable pub ClosesSays : List ℕ → List ℕ → List ℕ → ℕ → ℕ → Branch → ℕ → Bool → Type 0
ClosesSays code ends list many contacts b w r =
    (names : ℕ) (atoms : List (Atom ℕ)) (rules : List (Form ℕ)) → Comes code ends list many contacts names atoms rules
    → (part : PartialRow) → IsBranch many b part → r ≡ is_closing (does many rules (no_floor plain names atoms) part w)

-- ---- trees

-- the tree of a branch ends before `end`, or the words stop: for the branches still to come, whatever they are
abbrev pub Leads : (List PartialRow → Result Unit NotClosed) → (ℕ → List PartialRow → Result Unit NotClosed) → Result ℕ NotClosed → Type 0
Leads here from (Ok end) = (parts : List PartialRow) → here parts ≡ from end parts
Leads here from (Err e) = (parts : List PartialRow) → here parts ≡ Err e

unfoldable pub ReachedSays : List ℕ → List ℕ → List ℕ → List ℕ → ℕ → ℕ → Branch → ℕ → Result ℕ NotClosed → Type 0
ReachedSays words code ends list many contacts b at r =
    (names : ℕ) (atoms : List (Atom ℕ)) (rules : List (Form ℕ)) → Comes code ends list many contacts names atoms rules
    → (part : PartialRow) → IsBranch many b part
    → Leads (λ parts. run many rules (no_floor plain names atoms) at (part ∷ parts) (drop at words))
    (λ end parts. run many rules (no_floor plain names atoms) end parts (drop end words)) r

-- the end lies past the place, and not past the words
abbrev pub Moves : ℕ → ℕ → Result ℕ NotClosed → Type 0
Moves at long (Ok end) = (at < end) × (end ≤ long)
Moves at long (Err e) = Unit {0}

-- the verdict is that of the machine, for the plain question
unfoldable pub CheckSays : List ℕ → List ℕ → List ℕ → Chart → Result Unit NotClosed → Type 0
CheckSays words code ends chart r =
    (atoms : List (Atom ℕ)) (rules : List (Form ℕ)) → ComesFrom code ends chart atoms rules
    → r ≡ checked (length atoms) rules (no_floor plain chart.names atoms) words
