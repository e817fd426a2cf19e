-- How large the plan of a sheet is: each two of its points have one word at most, and its rules have at most 16 atoms. Assumes nothing.
use mathlib.Core.Path.{◌≡◌, refl, sym, ap, subst}
use mathlib.Core.List.{List, [], ◌∷◌}
use Prim.Native.Nat.{ℕ, ◌-◌, ◌*◌, ◌≤◌}
use native.Mathlib.Omega.{arith}
use native.Mathlib.Nat.{mul-le-mul}
use lib.ListN.{length, length-append}
use Rattle.formula.specs.Formula.{Formula, Name}
use Rattle.contact.specs.Numbering.{different_atoms}
use Rattle.contact.specs.Question.{plain}
use Rattle.plan.specs.Words.{Plan, last_word, before, words_of}
use Rattle.plan.specs.Links.{links_to}
use Rattle.plan.specs.Given.{given_plan}
use Rattle.plan.specs.Meant.{IsGiven}
use Rattle.plan.proofs.Complete.{before_length}
use Rattle.plan.proofs.Given.{links_count}
use Rattle.plan.proofs.Claims.{given_exactly, given_points}
use Rattle.table.specs.Sheet.{Text, lines_of, filled}
use Rattle.table.specs.Rules.{CanStand}
use Rattle.table.specs.Rows.{LoadRow}
use Rattle.table.specs.declared.Outcome.{Outcome}
use Rattle.table.proofs.Claims.{formulas_one}
use Rattle.drawing.specs.Drawn.{most, Loaded}

module _ (fs : List (Formula Name)) (p : Plan) (g : IsGiven plain fs p) where
  contacts_few : 2 * length p.contacts ≤ length p.points * (length p.points - 1)
  unfolding given_plan links_to
  contacts_few =
      subst (λ (q : Plan). 2 * length q.contacts ≤ length p.points * (length p.points - 1)) (sym g.is.is) (links_count _ _ 0 _ (omega arith))

  -- 1 + 8 + 28 + 1: the first, one a point, one a pair of points, the last
  pub words_few : length p.points ≤ most → length (words_of p) ≤ 38
  unfolding words_of
  words_few h =
      let low : length p.points - 1 ≤ 7 = omega arith in
      let pairs : length p.points * (length p.points - 1) ≤ 8 * 7 = mul-le-mul h low in
      omega (arith, length-append (before p) (last_word (length (before p)) ∷ []), before_length p, contacts_few)

-- the rules of a sheet that is loaded can stand
loaded_can : (file : Text) (o : Outcome) → LoadRow file o → o ≡ Outcome.Done → CanStand (filled (lines_of file))
loaded_can file o (LoadRow.long h) e = absurd (let z : ◌≡◌ {A = ℕ} 0 1 = cc in omega arith)
loaded_can file o (LoadRow.blank h k) e = absurd (let z : ◌≡◌ {A = ℕ} 0 1 = cc in omega arith)
loaded_can file o (LoadRow.line h r) e = absurd (let z : ◌≡◌ {A = ℕ} 0 1 = cc in omega arith)
loaded_can file o (LoadRow.loads h some can) e = can

pub points_few : (file : Text) (fs : List (Formula Name)) (p : Plan) → Loaded file fs → IsGiven plain fs p → length p.points ≤ 32
points_few file fs p loaded g =
    let can = loaded_can file Outcome.Done loaded.done refl in
    let atoms : length (different_atoms fs) ≤ 16 = omega (arith, can.atoms, ap (λ (gs : List (Formula Name)). length (different_atoms gs)) (formulas_one _ _ _ loaded.rules can.rules)) in
    given_points fs atoms p ((given_exactly plain fs p).1 g)
