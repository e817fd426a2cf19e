-- `spelling::second_start` meets its contract: of a row of two terms as many as are wanted are left behind the first (Second.antt).
-- Assumes nothing.
use mathlib.Core.Path.{◌≡◌, subst}
use Prim.Native.Nat.{◌+◌, ◌-◌}
use native.Mathlib.Omega.{arith}
use lib.ListN.{get_or}
use Rattle.spelling.specs.Comparing.{Starts}
use Rattle.spelling.proofs.Second.{left_all, left_next, left_none, left_nothing, wanted_most}
use Rattle.spelling.proofs.second_start.Goals as goal

pub loop-i-init : goal.loop-i-init
loop-i-init c = (omega arith, left_all _ _)

pub returns-then-wanted-eq0 : goal.returns-then-wanted-eq0
returns-then-wanted-eq0 c =
    let k = c.loop-i in
    let e : k.i ≡ k.i - 1 + 1 = omega arith in
    subst (Starts c.args.row.now c.args.len) e
    (left_none _ _ _ _ (omega (arith, c.requires.1)) c.loop-i-test.true (omega arith) c.if-wanted-eq0.true k.invariant.1)

pub loop-i-preserved : goal.loop-i-preserved
loop-i-preserved c =
    let k = c.loop-i in (
      omega (arith, c.wanted_before-wanted.ensures, wanted_most (get_or c.args.row.now (k.i - 1) 0) k.wanted),
      left_next c.args.row.now c.args.len k.wanted k.i c.wanted_before-wanted.result (omega arith) (omega (arith, c.requires.1)) c.if-wanted-eq0.false c.wanted_before-wanted.ensures k.invariant.1,
    )

pub returns : goal.returns
returns c = let none : c.loop-i.i ≡ 0 = omega arith in subst (Starts c.args.row.now c.args.len) none (left_nothing _ _ _ _ none c.loop-i.invariant.1)
