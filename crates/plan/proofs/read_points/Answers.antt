-- `plan::read_points` meets its contract: what is left, read from the points so far, gives what all words give. Assumes nothing.
use mathlib.Core.Path.{refl}
use native.Mathlib.Omega.{arith}
use lib.Pow.{pow_mono}
use Rattle.std.proofs.lemmas.Result.{err_from_is_err_and}
use Rattle.lists.proofs.Padded.{pad_none}
use Rattle.plan.specs.Words.{most_points}
use Rattle.plan.proofs.ReadLoop.{points_start, points_short, points_wrong, points_next, points_all}
use Rattle.plan.proofs.read_points.Goals as goal

pub loop-i-init : goal.loop-i-init
loop-i-init c =
    let a = c.args in
    points_start a.words.now a.names a.count _ c.requires (pad_none most_points)

pub returns-then-words-at : goal.returns-then-words-at
returns-then-words-at c =
    let a = c.args in
    let loop = c.loop-i in
    points_short a.words.now a.names a.count loop.i loop.low loop.points loop.invariant (omega arith) (omega arith)

pub returns-in_err-e : goal.returns-in_err-e
returns-in_err-e c =
    let a = c.args in
    let loop = c.loop-i in
    let p = err_from_is_err_and c.from_residual.result c.from_residual.ensures.1 in
    rw (p.1, p.2)
    (points_wrong a.words.now a.names a.count loop.i loop.low loop.points loop.invariant (omega arith) (omega arith)
    c.evaluations-top.result c.evaluations-top.ensures
    c.kind_of.result c.kind_of.ensures _ c.in_err-e.ensures _ refl)

pub loop-i-preserved : goal.loop-i-preserved
loop-i-preserved c =
    let a = c.args in
    let loop = c.loop-i in
    let few = c.requires.few in
    points_next a.words.now a.names a.count loop.i loop.low loop.points loop.invariant (omega arith) (omega arith)
    c.evaluations-top.result c.evaluations-top.ensures
    c.kind_of.result c.kind_of.ensures _ c.in_ok-e.ensures c.in_ok-e.e refl
    few (omega (arith, pow_mono few))

pub returns : goal.returns
returns c =
    let a = c.args in
    let loop = c.loop-i in
    points_all a.words.now a.names a.count loop.i loop.low loop.points loop.invariant (omega arith)
