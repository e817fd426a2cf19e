-- The three demands and the worked sheets, in one place. Each demand is one claim about every list of calls from the empty table, the
-- table that the calls leave and the rules that stand after them; what it says is in specs/Demands.antt, what the order of a sheet leaves as
-- it is in specs/Order.antt, and what a worked sheet says in specs/Worked.antt. Nothing is assumed.
use mathlib.Core.Path.{◌≡◌}
use mathlib.Core.Logic.{◌↔◌}
use mathlib.Core.List.{List}
use Rattle.lists.specs.Search.{In}
use Rattle.table.specs.declared.Table.{Table}
use Rattle.table.specs.Calls.{FromUs}
use Rattle.table.specs.Sheet.{Text}
use Rattle.table.specs.Stands.{Call, Stands}
use Rattle.table.specs.Runs.{run}
use Rattle.table.proofs.Claims as table
use Rattle.theorems.specs.Demands.{Leaves, Answered, Meant, Same, EnoughRoom, Reasons, InHand, Clashing}
use Rattle.theorems.specs.Order.{SameRules, InAnyOrder, SameLines, LinesInAnyOrder}
use Rattle.theorems.specs.Worked.{WorkedSheet, worked_sheets, Holds}
use Rattle.theorems.proofs.Demands as Demands
use Rattle.theorems.proofs.Room as Room
use Rattle.theorems.proofs.Order as Order
use Rattle.theorems.proofs.Worked as Worked

-- every list of calls leaves a table: what the demands say of the tables that are left is said of some
pub calls_leave : (cs : List Call) → Leaves cs (run cs)
calls_leave = Demands.leaves_run

-- "A table is the empty one or one that a call gave back": what every call requires of a table is that some list of calls leaves it
pub from_us_exactly : (t : Table) → FromUs t ↔ ((cs : List Call) × Leaves cs t)
from_us_exactly = Room.from_us_exactly

-- every list of calls has its standing rules, one list of them only
pub rules_stand : (cs : List Call) → (rs : List Text) × Stands cs rs
rules_stand = table.stands_some

pub rules_stand_one : (cs : List Call) (rs ss : List Text) → Stands cs rs → Stands cs ss → rs ≡ ss
rules_stand_one = table.stands_one

-- demand 1: after any calls, any further call is answered by the first row of the table of calls that applies and by no other, and a
-- refusal changes neither the table nor a word of what is lent
pub demand_one : (cs : List Call) (t : Table) (rs : List Text) → Leaves cs t → Stands cs rs → Answered rs t
demand_one = Demands.demand_one

-- demand 2: the standing texts are rules of the grammar, a plan given meets them and is read back from its words, and a stranger's plan is
-- judged by the same definition
pub demand_two : (cs : List Call) (t : Table) (rs : List Text) → Leaves cs t → Stands cs rs → Meant rs t
demand_two = Demands.demand_two

-- demand 3: after any calls, ask for either question with any buffer answers 11, no plan exactly where no finite floor that counts meets the
-- standing rules, the plan that is defined, or 12; and the table, and the answer and every word or byte of ask, judge, print, explain, check_tree,
-- still and clash are those of the calls that add only the standing rules
pub demand_three : (cs : List Call) (t : Table) (rs : List Text) → Leaves cs t → Stands cs rs → Same rs t
demand_three = Demands.demand_three

-- after any calls, 530 words are room for every plan, 32,642 for every building, 131,071 for every tree, 256 bytes for every rule and 16
-- places for the rules that clash
pub room_enough : (cs : List Call) (t : Table) → Leaves cs t → EnoughRoom t
room_enough = Room.enough_room

-- document 02, T-06: after any calls, what check_tree accepts has no plan, it accepts every tree that explain writes, and explain has a tree
-- exactly where ask says "no plan"
pub reasons_hold : (cs : List Call) (t : Table) (rs : List Text) → Leaves cs t → Stands cs rs → Reasons rs t
reasons_hold = Demands.reasons_hold

-- document 02, T-09: after any calls, still answers "yes, as drawn" exactly where the words are a plan that meets the rules, and "no" exactly
-- where ask says "no plan", for any words
pub plan_in_hand : (cs : List Call) (t : Table) (rs : List Text) → Leaves cs t → Stands cs rs → InHand rs t
plan_in_hand = Demands.in_hand_holds

-- after any calls, clash says which rules clash exactly where ask says "no plan"; no floor that counts for all rules meets those of its set, and
-- without any one of them some such floor meets the others
pub rules_clash : (cs : List Call) (t : Table) (rs : List Text) → Leaves cs t → Stands cs rs → Clashing rs t
rules_clash = Demands.rules_clash

-- document 02, T-10: of two lists of the same rules, at least one and each equally often, an empty table accepts all of one exactly if it
-- accepts all of the other, and ask then, for either question with buffers that are long enough, says a plan for both or no plan for both
pub order_of_the_sheet : (rs ss : List Text) → SameRules rs ss → InAnyOrder rs ss
order_of_the_sheet = Order.in_any_order

-- and of two sheets of the same lines both are loaded or both refused, and ask then says a plan for both or no plan for both
pub order_of_the_lines : (f g : Text) → SameLines f g → LinesInAnyOrder f g
order_of_the_lines = Order.lines_in_any_order

-- P1 to P12
pub worked_sheets_lem : (row : WorkedSheet) → In row worked_sheets → Holds row
worked_sheets_lem = Worked.worked
