-- `ruleset::signs_to` meets its contract: the signs of atoms that were counted and those to come are all. Assumes nothing.
use native.Mathlib.Omega.{arith}
use Rattle.ruleset.proofs.Scanning.{signs_end, signs_no_atom, signs_here, signs_other}
use Rattle.ruleset.proofs.signs_to.Goals as goal

pub loop-next-init : goal.loop-next-init
loop-next-init c = (omega arith, omega arith)

pub loop-next-preserved-then-next-lt-FIRST : goal.loop-next-preserved-then-next-lt-FIRST
loop-next-preserved-then-next-lt-FIRST c =
    let loop = c.loop-next in
    let start = c.args in
    (omega (arith, loop.invariant.0, signs_no_atom start.part.now start.sign loop.next-index (omega arith) c.if-next-lt-FIRST.true), omega arith)

pub returns-then-next-sign : goal.returns-then-next-sign
returns-then-next-sign c =
    let loop = c.loop-next in
    let start = c.args in
    omega (arith, loop.invariant.0, signs_here start.part.now start.sign loop.next-index (omega arith) c.if-next-lt-FIRST.false c.if-next-sign.true)

pub loop-next-preserved : goal.loop-next-preserved
loop-next-preserved c =
    let loop = c.loop-next in
    let start = c.args in
    (omega (arith, loop.invariant.0, signs_other start.part.now start.sign loop.next-index (omega arith) c.if-next-lt-FIRST.false c.if-next-sign.false), omega arith)

pub returns : goal.returns
returns c =
    let loop = c.loop-next in
    let start = c.args in
    omega (arith, loop.invariant.0, signs_end start.part.now start.sign loop.next-index (omega arith))
