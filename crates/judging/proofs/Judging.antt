-- The answer is the judgement on the plan's floor: the atoms' values on points and rows are those on the floor, and the numbered rules are
-- judged as the rules are; whether the plan is uncovered, its first point says. Assumes nothing.
use mathlib.Core.Bool.{Bool, true, false, not, ◌&&◌, cond}
use mathlib.Core.Path.{◌≡◌, sym, ap, ap₂, ◌∙◌}
use mathlib.Core.List.{List}
use Prim.Native.Nat.{ℕ, ◌<◌}
use native.Mathlib.Omega.{arith}
use lib.ListN.{get_or, length-map}
use Rattle.formula.specs.Formula.{Term, Atom}
use lib.Dec.{eqb}
use borrow.Author.Tests.{eq-eqb, ne_eqb}
use Rattle.lists.proofs.Lists.{map_at}
use Rattle.lists.proofs.Padded.{pad_at}
use Rattle.contact.specs.Meaning.{atom_on}
use Rattle.contact.specs.Numbering.{map_atom, number_of, different_atoms, atom_number, numbered_atoms, row_atoms}
use Rattle.contact.proofs.Naming.{atom_map}
use Rattle.contact.proofs.Numbered.{values_agree}
use Rattle.search.specs.declared.Chart.{Chart}
use Rattle.search.specs.Compiled.{no_atom}
use Rattle.squares.specs.Square.{square_at}
use Rattle.plan.specs.declared.PlanPoints.{PlanPoints}
use Rattle.plan.specs.declared.PlanArrays.{PlanArrays}
use Rattle.plan.specs.Words.{Plan, IsPlan}
use Rattle.plan.specs.Stored.{Holds, points_of}
use Rattle.plan.specs.Floor.{plan_floor, named_floor}
use Rattle.plan.specs.Judging.{judge, uncovered}
use Rattle.plan.proofs.Covered.{first_decides}
use Rattle.judging.specs.declared.Judged.{Judged}
use Rattle.judging.specs.declared.Judged.TheVariants.{Uncovered}
use Rattle.judging.specs.Values.{judged_of, uncovered_of, value_of, LeavesSay, UnmetSays}
use Rattle.judging.specs.Judges.{JudgesSay}
use Rattle.judging.proofs.Numbers.{numbers_judged}
use Rattle.judging.proofs.Atoms.{value_is}

-- whether the plan is uncovered, with no name and with one
pub uncovered_none : (plan : PlanPoints) → plan.names ≡ 0 → false ≡ uncovered_of plan
unfolding uncovered_of
uncovered_none plan z = sym (ap (λ (b : Bool). not b && eqb (get_or plan.points 0 0) 0) (eq-eqb plan.names 0 z))

pub uncovered_named : (plan : PlanPoints) → 0 < plan.names → eqb (get_or plan.points 0 0) 0 ≡ uncovered_of plan
unfolding uncovered_of
uncovered_named plan l = sym (ap (λ (b : Bool). not b && eqb (get_or plan.points 0 0) 0) (ne_eqb plan.names 0 (omega arith)))

uncovered_is : (plan : PlanPoints) (rows : ℕ → ℕ → Bool) (p : Plan) → IsPlan p → Holds plan rows p → uncovered_of plan ≡ uncovered p
unfolding uncovered_of uncovered
uncovered_is plan rows p is s =
    ap₂ (λ (n : ℕ) (b : Bool). not (eqb n 0) && b) s.names
    (ap (λ (e : ℕ). eqb e 0) (ap (λ (xs : List ℕ). get_or xs 0 0) s.points ∙ pad_at 256 p.points 0 is.some) ∙ sym (first_decides p is))

-- an uncovered plan is not judged by rules
pub judges_uncovered : (plan : PlanArrays) (chart : Chart) (code ends : List ℕ) → uncovered_of (points_of plan) ≡ true → JudgesSay plan chart code ends Uncovered
unfolding JudgesSay
judges_uncovered plan chart code ends t = λ rules h p is q s.
    sym (ap (λ (b : Bool). cond b Uncovered (judged_of (judge (named_floor rules p is) rules))) (sym (uncovered_is (points_of plan) (square_at plan.rows) p is s) ∙ t))

pub judges : (plan : PlanArrays) (chart : Chart) (code ends : List ℕ) (leaves : List ℕ) (r : Judged) → uncovered_of (points_of plan) ≡ false
    → LeavesSay (points_of plan) (square_at plan.rows) chart leaves → UnmetSays code ends leaves r → JudgesSay plan chart code ends r
unfolding LeavesSay UnmetSays JudgesSay
judges plan chart code ends leaves r t values says = λ rules h p is q s.
    let value : ℕ → Bool = value_of (points_of plan) (square_at plan.rows) chart in
    says chart.atoms (numbered_atoms rules) h.coded value values
    ∙ ap judged_of
    (numbers_judged (named_floor rules p is) (atom_number rules) value 1 rules
    (values_agree rules (named_floor rules p is) value (Atom.empty Term.zero)
    (λ i l. value_is p is (points_of plan) (square_at plan.rows) s chart (row_atoms rules) h.compiled q i (omega (arith, length-map (different_atoms rules) (map_atom (number_of rules))))
    ∙ ap (atom_on (plan_floor p is)) (map_at (map_atom (number_of rules)) (different_atoms rules) i (Atom.empty Term.zero) no_atom l)
    ∙ atom_map (number_of rules) (plan_floor p is) (get_or (different_atoms rules) i (Atom.empty Term.zero)))))
    ∙ sym (ap (λ (b : Bool). cond b Uncovered (judged_of (judge (named_floor rules p is) rules))) (sym (uncovered_is (points_of plan) (square_at plan.rows) p is s) ∙ t))
