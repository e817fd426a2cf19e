-- `plan::put_points` meets its contract: so far the first i points are written. Assumes nothing.
use native.Mathlib.Omega.{arith}
use Prim.Native.Nat.{ℕ, ◌+◌, ◌≤◌}
use mathlib.Core.Path.{◌≡◌, ap, ap₂, ◌∙◌}
use mathlib.Core.List.{List, map}
use borrow.Author.Rules.{rules}
use lib.ListN.{length, set, take}
use Rattle.lists.specs.Putting.{written}
use Rattle.lists.proofs.Buffer.{written_none}
use Rattle.plan.specs.Words.{point_word, most_points}
use Rattle.plan.proofs.Buffer.{points_more}
use Rattle.plan.proofs.put_points.Goals as goal

pub loop-i-init : goal.loop-i-init
loop-i-init c = written_none 1 c.args.buffer.now

pub loop-i-preserved : goal.loop-i-preserved
loop-i-preserved c =
    let k = c.loop-i in
    let a = c.args in
    let size : length a.points ≡ most_points = search rules in
    let fits : 1 + a.n ≤ length a.buffer.now = c.requires.1 in
    ap₂ (λ (l : List ℕ) (w : ℕ). set l (1 + k.i) w) k.invariant c.point_word.ensures
    ∙ points_more a.points a.buffer.now k.i (omega arith) (omega arith)

pub returns : goal.returns
returns c =
    let a = c.args in
    let loop = c.loop-i in
    let e : loop.i ≡ a.n = omega arith in
    loop.invariant ∙ ap (λ (x : ℕ). written 1 (map point_word (take x a.points)) a.buffer.now) e
