-- `solver::whole_candidates` meets its contract: a row of the block is left where every rule is true.
-- Assumes nothing.
use Rattle.evalset.specs.Bit.{bit}
use Rattle.evalset.proofs.Bits.{bit_and_lem}
use Rattle.solver.proofs.Blocks.{rows_are}
use Rattle.solver.proofs.Whole.{word_kept, both_decided, true_rows}
use Rattle.solver.proofs.whole_candidates.Goals as goal

pub returns : goal.returns
returns c =
    let s = c in
    let few = s.requires.1.1 in
    let set = c.row_leaves.ensures in
    let run = c.all_true-left in (
      word_kept _ _ _ _ _ s.requires.2 set,
      run.ensures.0,
      true_rows _ _ _ _ _ _ run.result few (both_decided _ _ _ _ _ s.requires.2 set few) run.ensures.1 _
          (rows_are _ _ _ (bit run.result) few c.word_below.ensures (bit_and_lem c.word_below.result run.result)),
    )
