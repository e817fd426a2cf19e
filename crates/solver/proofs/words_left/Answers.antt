-- `solver::words_left` meets its contract: a word that fails its test or that a rule refutes closes. Assumes nothing.
use mathlib.Core.Bool.{and-eq-true_iff}
use mathlib.Core.Path.{sym, ◌∙◌, fun_ext}
use Prim.Native.Nat.{◌+◌}
use native.Mathlib.Omega.{arith}
use Rattle.evalset.proofs.Bits.{bit_and_lem}
use Rattle.search.specs.declared.Chart.{Chart}
use Rattle.solver.specs.Tree.{Low, Given, WordsTested, Left}
use Rattle.solver.proofs.Places.{start_is, start_small, low_small}
use Rattle.solver.proofs.Blocks.{rows_are}
use Rattle.solver.proofs.Under.{left_refuted, left_meet, left_tested}
use Rattle.solver.proofs.words_left.Goals as goal

pub tested-passing-requires : goal.tested-passing-requires
tested-passing-requires c =
    let cut = c.args.cut in
    (low_small (cut.k + cut.w) _ (omega arith) c.low_bits-low.ensures, start_small cut.k cut.w _ (omega arith) c.requires.2)

-- `passing`: the words that pass the check
pub returns-then-passing-eq0 : goal.returns-then-passing-eq0
returns-then-passing-eq0 c =
    let passing : let a = c.args in Low a.cut.w c.tested-passing.result × ((chart : Chart) (g : Given a.code.now a.ends.now chart a.cut) → WordsTested g a.upper.now a.row → Left g a.cut.k a.row a.cut.w c.tested-passing.result) = let cut = c.args.cut in
    let rows = rows_are cut.w _ _ _ (omega arith) c.word_below-all.ensures c.tested-passing.ensures in (
      rows.low,
      λ chart g tests. left_tested g cut.k c.args.row cut.w _ _ _ _ tests _ _ c.low_bits-low.ensures
          (start_is cut.k cut.w c.args.row (omega arith) c.requires.2) _ rows,
    ) in
    passing

pub returns : goal.returns
returns c =
    let passing : let a = c.args in Low a.cut.w c.tested-passing.result × ((chart : Chart) (g : Given a.code.now a.ends.now chart a.cut) → WordsTested g a.upper.now a.row → Left g a.cut.k a.row a.cut.w c.tested-passing.result) = let cut = c.args.cut in
    let rows = rows_are cut.w _ _ _ (omega arith) c.word_below-all.ensures c.tested-passing.ensures in (
      rows.low,
      λ chart g tests. left_tested g cut.k c.args.row cut.w _ _ _ _ tests _ _ c.low_bits-low.ensures
          (start_is cut.k cut.w c.args.row (omega arith) c.requires.2) _ rows,
    ) in
    let p = passing in
    let both = bit_and_lem c.tested-passing.result c.unrefuted.result in (
      λ e h. p.0 e ((and-eq-true_iff _ _).0 (sym (both e) ∙ h)).0,
      λ chart g tests. left_meet g _ _ _ _ _ _ (fun_ext both) (p.1 chart g tests) (left_refuted g _ _ _ _ c.unrefuted.ensures),
    )
