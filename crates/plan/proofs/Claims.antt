-- What this crate promises, claim by claim; each holds by the file named in its comment. Assumes nothing.
use mathlib.Core.Path.{◌≡◌, refl, sym, ◌∙◌, subst}
use mathlib.Core.Bool.{Bool, true, false}
use mathlib.Core.Logic.{◌↔◌, ◌⊎◌}
use mathlib.Core.List.{List, [], ◌∷◌}
use Prim.Native.Nat.{ℕ, ◌^◌, ◌≤◌, ◌<◌}
use lib.ListN.{length}
use Rattle.std.specs.Prelude.{Result, Ok, Err}
use Rattle.formula.specs.Formula.{Term, Atom, Formula, Name}
use Rattle.evalset.specs.declared.EvalSet.{EvalSet}
use Rattle.evalset.specs.Sets.{room, mem}
use Rattle.evalset.specs.Most.{most}
use Rattle.contact.specs.Meaning.{Floor, atom_on, meets_all}
use Rattle.contact.specs.Question.{Question, plain, Counts, NoFloor}
use Rattle.contact.specs.Numbering.{names_of, different_atoms}
use Rattle.contact.specs.Row.{Row, Realises}
use Rattle.lists.specs.Search.{In, keep, below}
use Rattle.contact.specs.Plan.{Means}
use Rattle.contact.specs.Check.{first_row_of}
use Rattle.plan.specs.declared.PlanPoints.{PlanPoints}
use Rattle.plan.specs.declared.PlanArrays.{PlanArrays}
use Rattle.plan.specs.declared.NotAPlan.{NotAPlan}
use Rattle.plan.specs.Words.{Plan, IsPlan, short_first, long_first, words_of, Refusal}
use Rattle.plan.specs.Short.{short_words}
use Rattle.plan.specs.Floor.{touching, lies_in, plan_floor, named_floor}
use Rattle.plan.specs.Judging.{yes, unmet, judge, uncovered}
use Rattle.plan.specs.Reader.{plan, refused, read_of, ReadingSays}
use Rattle.plan.specs.Arrays.{Reads, points_plan, touches_of, vacant_of}
use Rattle.plan.specs.Stored.{Holds, Stored}
use Rattle.plan.specs.Given.{IsRowPlan}
use Rattle.plan.specs.Plans.{row_plan, plans_of}
use Rattle.plan.proofs.Exact.{exact, plan_read, refusal_read}
use Rattle.plan.proofs.Kept
use Rattle.plan.proofs.SamePlan
use Rattle.plan.proofs.SameArrays.{InRangeIf, told_apart, reads_once}
use Rattle.plan.proofs.Judged
use Rattle.plan.proofs.Given
use Rattle.plan.proofs.Unmet.{yes_exactly, unmet_exactly}
use Rattle.plan.proofs.Covered
use Rattle.plan.proofs.Wider
use Rattle.plan.specs.Meant.{FirstUnmet, IsGiven}

-- what is read is a plan whose words these are (Sound, Exact)
pub read_is_plan : (ws : List ℕ) (p : Plan) → read_of ws ≡ plan p → IsPlan p × (words_of p ≡ ws)
read_is_plan ws p e = subst (ReadingSays ws) e (exact ws)

-- every plan is read from its words (Complete, Exact)
pub plan_is_read : (p : Plan) → IsPlan p → read_of (words_of p) ≡ plan p
plan_is_read p h = plan_read p h

-- refusal 13 comes at an index exactly where it is due (Exact)
pub refused_exactly : (ws : List ℕ) (j : ℕ) → (read_of ws ≡ refused j → Refusal ws j) × (Refusal ws j → read_of ws ≡ refused j)
refused_exactly ws j = (λ e. subst (ReadingSays ws) e (exact ws), refusal_read ws j)

-- document 02's T-08: "Plans of up to 6 names keep their words": those of document 01's text (Kept)
pub short_words_lem : (p : Plan) → p.names ≤ 6 → words_of p ≡ short_words p
short_words_lem p few = Kept.short_words_lem p few

-- "and stored ones read as before" (Kept)
pub short_read : (p : Plan) → IsPlan p → p.names ≤ 6 → read_of (short_words p) ≡ plan p
short_read p h few = Kept.short_read p h few

-- "kind 1 with such names is refused": seven or more (Kept)
pub short_many : (n c : ℕ) (ws : List ℕ) → 6 < n → n < 256 → c < 256 → Refusal (short_first n c ∷ ws) 0
short_many n c ws many top small = (refused_exactly (short_first n c ∷ ws) 0).0 (Kept.short_many n c ws many top small)

-- "and kind 8 with fewer too", or with more than eight (Kept)
pub long_other : (n c : ℕ) (ws : List ℕ) → (n ≤ 6) ⊎ (8 < n) → n < 4096 → c < 65536 → Refusal (long_first n c ∷ ws) 0
long_other n c ws names top small = (refused_exactly (long_first n c ∷ ws) 0).0 (Kept.long_other n c ws names top small)

-- what was written of a plan is read into arrays that hold it (Exact)
pub written_read : (p : Plan) → IsPlan p → (q : Result PlanArrays NotAPlan) → Reads (words_of p) q → (r : PlanArrays) × (q ≡ Ok r) × Stored r p
written_read p h (Ok r) s =
    let z : plan s.0 ≡ plan p = sym s.1 ∙ plan_read p h in
    let e : s.0 ≡ p = cc in
    (r, refl, subst (Stored r) e s.2)
written_read p h (Err e) s = absurd (told_apart (words_of p) p e.at (plan_read p h) s)

-- and no other plan, whether the rows are in the arrays or lent (SamePlan)
pub one_plan : (r : PlanPoints) (rows : ℕ → ℕ → Bool) (p q : Plan) → IsPlan p → IsPlan q → Holds r rows p → Holds r rows q → p ≡ q
one_plan = SamePlan.one_plan

-- what is written of a set of points is a plan if they are evaluations of its names, whatever is apart (Given)
pub points_are_plan : (names : ℕ) (given : ℕ → Bool) (apart : ℕ → ℕ → Bool) → names ≤ most → ((e : ℕ) → given e ≡ true → e < 2 ^ names)
    → 0 < length (keep given (below room)) → IsPlan (points_plan names given apart)
points_are_plan = Given.set_plan

-- the rows beside a plan's points are its contact (Judged)
pub rows_are_contact : (p : Plan) → IsPlan p → (r : PlanPoints) (rows : ℕ → ℕ → Bool) → Holds r rows p
    → (a b : ℕ) → a < length p.points → b < length p.points → rows a b ≡ touching p a b
rows_are_contact = Judged.row_is

-- reading is one function of the words: what it gives is determined to the last bit (SameArrays)
pub read_once : (ws : List ℕ) (r s : Result PlanArrays NotAPlan) → InRangeIf r → InRangeIf s → Reads ws r → Reads ws s → r ≡ s
read_once ws r s v w a b = reads_once ws r s v w a b

-- a contact judged on points and rows has its value on the floor of the plan that they hold, `plan_floor` (Judged)
pub touches_judged : (p : Plan) (h : IsPlan p) (r : PlanPoints) (rows : ℕ → ℕ → Bool) → Holds r rows p → (x y : EvalSet) (s t : Term ℕ)
    → Means p.names (mem x) s → Means p.names (mem y) t
    → touches_of r rows (mem x) (mem y) ≡ atom_on (plan_floor p h) (Atom.contact s t)
touches_judged p h r rows k x y s t f g = Judged.touches_meant p h r rows k (mem x) (mem y) s t f g

-- and so has a zero atom (Judged); that of <=(s,t) is the zero atom of s*-t
pub vacant_judged : (p : Plan) (h : IsPlan p) (r : PlanPoints) (rows : ℕ → ℕ → Bool) → Holds r rows p → (x : EvalSet) (t : Term ℕ)
    → Means p.names (mem x) t → vacant_of r (mem x) ≡ atom_on (plan_floor p h) (Atom.empty t)
vacant_judged p h r rows k x t f = Judged.vacant_meant p h r rows k (mem x) t f

-- a plan is uncovered exactly if it has a name, and a point at evaluation 0 (Covered)
pub uncovered_exactly : (p : Plan) → (uncovered p ≡ true) ↔ ((0 < p.names) × In 0 p.points)
uncovered_exactly = Covered.uncovered_exactly

-- and covered exactly if its floor, over the names of rules of as many, counts for the plain question (Covered)
pub covered_exactly : (rules : List (Formula Name)) (p : Plan) (h : IsPlan p) → p.names ≡ length (names_of rules)
    → (uncovered p ≡ false) ↔ Counts plain (names_of rules) (named_floor rules p h)
covered_exactly rules p h named = (Covered.covered_counts rules p h named, Covered.counts_covered rules p h named)

-- "missing names are taken as empty": on a plan's floor a name that it lacks has no point (Wider)
pub missing_empty : (p : Plan) → IsPlan p → (i : ℕ) → p.names ≤ i → (a : ℕ) → a < length p.points → lies_in p i a ≡ false
missing_empty = Wider.missing_empty

-- "Judge answers yes" exactly if every rule is met (Unmet)
pub judge_yes : {N : Type 0} (F : Floor N) (rules : List (Formula N))
    → (judge F rules ≡ yes → meets_all F rules ≡ true) × (meets_all F rules ≡ true → judge F rules ≡ yes)
judge_yes F rules = yes_exactly F rules

-- "or the lowest unmet rule, from 1": number k exactly if rule k is not met and all before it are (Unmet)
pub judge_unmet : {N : Type 0} (F : Floor N) (rules : List (Formula N)) (k : ℕ)
    → (judge F rules ≡ unmet k → FirstUnmet F 1 rules k) × (FirstUnmet F 1 rules k → judge F rules ≡ unmet k)
judge_unmet F rules k = unmet_exactly F rules k

-- the plan of the row that is found is a plan in words, for at most eight names (Given)
pub given_is_plan : (q : Question) (rules : List (Formula Name)) → length (names_of rules) ≤ most → (row : Row)
    → first_row_of q rules ≡ row ∷ [] → IsPlan (row_plan q rules row)
given_is_plan q rules few row found = Given.given_is_plan q rules row found few

-- it is the one that is meant: its points are the question's, and all unseparated pairs of them are in contact (Given)
pub row_plan_exactly : (q : Question) (rules : List (Formula Name)) (row : Row) → first_row_of q rules ≡ row ∷ [] → (p : Plan)
    → (p ≡ row_plan q rules row) ↔ IsRowPlan q rules row p
row_plan_exactly = Given.row_plan_exactly

-- its floor counts: each point lies in a name where one is used, and that of a building hangs together (Given)
pub given_counts : (q : Question) (rules : List (Formula Name)) (row : Row)
    → first_row_of q rules ≡ row ∷ [] → (h : IsPlan (row_plan q rules row))
    → Counts q (names_of rules) (named_floor rules (row_plan q rules row) h)
given_counts = Given.given_counts

-- gives the rules' atoms this row (Given)
pub given_row : (q : Question) (rules : List (Formula Name)) (row : Row)
    → first_row_of q rules ≡ row ∷ [] → (h : IsPlan (row_plan q rules row))
    → Realises (named_floor rules (row_plan q rules row) h) (different_atoms rules) row
given_row = Given.given_row

-- and meets every rule (Given)
pub given_meets : (q : Question) (rules : List (Formula Name)) (row : Row)
    → first_row_of q rules ≡ row ∷ [] → (h : IsPlan (row_plan q rules row))
    → meets_all (named_floor rules (row_plan q rules row) h) rules ≡ true
given_meets = Given.given_meets

-- no plan is given exactly if no floor that counts meets every rule (Given)
pub no_plan_given : (q : Question) (rules : List (Formula Name)) → (plans_of q rules ≡ []) ↔ NoFloor q rules
no_plan_given = Given.no_plan_given

-- a plan is given exactly if it is that of the first realisable row that makes all rules true (Given)
pub given_exactly : (q : Question) (rules : List (Formula Name)) (p : Plan) → (plans_of q rules ≡ p ∷ []) ↔ IsGiven q rules p
given_exactly = Given.given_exactly

-- which is the row that is found (Given)
pub given_found : (q : Question) (rules : List (Formula Name)) (p : Plan) → IsGiven q rules p
    → (row : Row) × (first_row_of q rules ≡ row ∷ []) × (p ≡ row_plan q rules row)
given_found = Given.given_found

-- never more than one plan is given (Given)
pub given_at_most_one : (q : Question) (rules : List (Formula Name)) → length (plans_of q rules) ≤ 1
given_at_most_one = Given.given_at_most_one

-- the plain question's plan has at most 32 points for at most 16 atoms (Given)
pub given_points : (rules : List (Formula Name)) → length (different_atoms rules) ≤ 16 → (p : Plan) → plans_of plain rules ≡ p ∷ []
    → length p.points ≤ 32
given_points = Given.given_points

-- so "an answered plan takes at most 530 words" (Given)
pub given_words : (rules : List (Formula Name)) → length (different_atoms rules) ≤ 16 → (p : Plan) → plans_of plain rules ≡ p ∷ []
    → length (words_of p) ≤ 530
given_words = Given.given_words

-- any plan, also that of one building, has at most 255 points for at most eight names (Given)
pub room_points : (q : Question) (rules : List (Formula Name)) (p : Plan) → plans_of q rules ≡ p ∷ [] → length (names_of rules) ≤ most
    → length p.points ≤ 255
room_points = Given.room_points

-- "One-building plans then have up to 255 points", and so 32,642 words (Given)
pub room_words : (q : Question) (rules : List (Formula Name)) (p : Plan) → plans_of q rules ≡ p ∷ [] → length (names_of rules) ≤ most
    → length (words_of p) ≤ 32642
room_words = Given.room_words
