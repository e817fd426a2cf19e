-- `plan::link` meets its contract: one bit, and then the other. Assumes nothing.
use Rattle.plan.proofs.Flat.{both_set}
use Rattle.plan.proofs.link.Goals as goal

pub returns : goal.returns
returns c =
    let a = c.args in
    both_set a.square.now _ _ a.i a.j c.set_bit.ensures c.set_bit-2.ensures
