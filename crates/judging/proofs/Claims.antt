-- What the crate proves, each claim with the file that has its proof: what `judge_plan` answers decides whether the plan is
-- uncovered, and if not whether its floor meets the rules. The contract of `judge_plan`, `JudgesSay` of specs/Judges.antt, is what is assumed of its result here. Assumes nothing.
use mathlib.Core.Bool.{Bool, true, false, cond}
use mathlib.Core.Path.{◌≡◌, refl, sym, ap₂, ◌∙◌}
use mathlib.Core.Logic.{◌↔◌}
use mathlib.Core.List.{List}
use Prim.Native.Nat.{ℕ, ◌<◌}
use native.Mathlib.Omega.{arith}
use Rattle.formula.specs.Formula.{Formula, Name}
use Rattle.lists.specs.Search.{In}
use Rattle.contact.specs.Meaning.{meets_all}
use Rattle.contact.specs.Numbering.{numbered_atoms, row_atoms}
use Rattle.search.specs.declared.Chart.{Chart}
use Rattle.plan.specs.declared.PlanArrays.{PlanArrays}
use Rattle.plan.specs.Words.{Plan, IsPlan}
use Rattle.plan.specs.Stored.{Stored}
use Rattle.plan.specs.Judging.{Judgement, yes, unmet, judge, uncovered}
use Rattle.plan.specs.Floor.{named_floor}
use Rattle.plan.proofs.Claims.{judge_yes, judge_unmet, uncovered_exactly as plan-uncovered}
use Rattle.solver.specs.Tree.{ComesFrom}
use Rattle.judging.specs.declared.Judged.{Judged}
use Rattle.judging.specs.declared.Judged.TheVariants.{Yes, Unmet, Uncovered}
use Rattle.judging.specs.Values.{judged_of}
use Rattle.judging.specs.Judges.{judged_plan, JudgesSay}
use Rattle.plan.specs.Meant.{FirstUnmet}

-- ---- the answer

-- whether the plan is uncovered, and if not the judgement, told from the answer
answered_yes : (b : Bool) (j : Judgement) → cond b Uncovered (judged_of j) ≡ Yes → (b ≡ false) × (j ≡ yes)
answered_yes true j e = absurd (let z : ◌≡◌ {A = ℕ} 0 1 = cc in omega arith)
answered_yes false yes e = (refl, refl)
answered_yes false (unmet k) e = absurd (let z : ◌≡◌ {A = ℕ} 0 1 = cc in omega arith)

answered_unmet : (b : Bool) (j : Judgement) (k : ℕ) → cond b Uncovered (judged_of j) ≡ Unmet k → (b ≡ false) × (j ≡ unmet k)
answered_unmet true j k e = absurd (let z : ◌≡◌ {A = ℕ} 0 1 = cc in omega arith)
answered_unmet false yes k e = absurd (let z : ◌≡◌ {A = ℕ} 0 1 = cc in omega arith)
answered_unmet false (unmet n) k e = (refl, cc)

answered_uncovered : (b : Bool) (j : Judgement) → cond b Uncovered (judged_of j) ≡ Uncovered → b ≡ true
answered_uncovered true j e = refl
answered_uncovered false yes e = absurd (let z : ◌≡◌ {A = ℕ} 0 1 = cc in omega arith)
answered_uncovered false (unmet k) e = absurd (let z : ◌≡◌ {A = ℕ} 0 1 = cc in omega arith)

module _ (plan : PlanArrays) (chart : Chart) (code ends : List ℕ) (r : Judged) (says : JudgesSay plan chart code ends r)
    (rules : List (Formula Name)) (from : ComesFrom code ends chart (row_atoms rules) (numbered_atoms rules)) (p : Plan) (is : IsPlan p) (named : p.names ≡ chart.names)
    (stored : Stored plan p) where
  -- the answer is the judgement (Judging)
  pub answer_is : r ≡ judged_plan rules p is
  unfolding JudgesSay
  answer_is = says rules from p is named stored

  -- what it is of a plan that is uncovered, or not, and rules judged so
  told : (b : Bool) (j : Judgement) → uncovered p ≡ b → judge (named_floor rules p is) rules ≡ j → r ≡ cond b Uncovered (judged_of j)
  told b j e f = answer_is ∙ ap₂ (λ (c : Bool) (i : Judgement). cond c Uncovered (judged_of i)) e f

  -- it is yes exactly if the plan is not uncovered and its floor meets all rules
  pub yes_exactly : (r ≡ Yes) ↔ ((uncovered p ≡ false) × (meets_all (named_floor rules p is) rules ≡ true))
  yes_exactly =
      let j = judge_yes (named_floor rules p is) rules in (
        λ e. let w = answered_yes (uncovered p) (judge (named_floor rules p is) rules) (sym answer_is ∙ e) in (w.0, j.0 w.1),
        λ e. told false yes e.0 (j.1 e.1),
      )

  -- number k exactly if it is not uncovered, rule k, counted from 1, is not met and all before it are
  pub unmet_exactly : (k : ℕ) → (r ≡ Unmet k) ↔ ((uncovered p ≡ false) × FirstUnmet (named_floor rules p is) 1 rules k)
  unmet_exactly k =
      let j = judge_unmet (named_floor rules p is) rules k in (
        λ e. let w = answered_unmet (uncovered p) (judge (named_floor rules p is) rules) k (sym answer_is ∙ e) in (w.0, j.0 w.1),
        λ e. told false (unmet k) e.0 (j.1 e.1),
      )

  -- and uncovered exactly if it has a name, and a point at evaluation 0, whatever it meets
  pub uncovered_exactly : (r ≡ Uncovered) ↔ ((0 < p.names) × In 0 p.points)
  uncovered_exactly =
      let u = plan-uncovered p in (
        λ e. u.0 (answered_uncovered (uncovered p) (judge (named_floor rules p is) rules) (sym answer_is ∙ e)),
        λ e. told true (judge (named_floor rules p is) rules) (u.1 e) refl,
      )
