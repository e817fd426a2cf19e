-- `compile::set_at` meets its contract: the four words are those of the set (Stack.antt). Assumes nothing.
use mathlib.Core.Path.{sym, ap}
use Rattle.evalset.specs.Sets.{mem, mem_at}
use Rattle.compile.proofs.Stack.{set_read}
use Rattle.compile.proofs.set_at.Goals as goal

pub returns : goal.returns
unfolding mem_at
returns c =
    sym (ap mem (set_read c.args.h c.args.stack.now c.requires))
