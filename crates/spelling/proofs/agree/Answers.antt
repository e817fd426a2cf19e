-- `spelling::agree` meets its contract: so far the symbols agree. Assumes nothing.
use mathlib.Core.Path.{sym, ◌∙◌}
use native.Mathlib.Omega.{arith}
use Rattle.spelling.proofs.Rows.{agree_none, agree_more, agree_not, agree_whole}
use Rattle.spelling.proofs.agree.Goals as goal

pub loop-i-init : goal.loop-i-init
loop-i-init c = agree_none _ _ _ _ _

pub returns-then-row-i : goal.returns-then-row-i
returns-then-row-i c = let k = c.loop-i in agree_not _ _ _ _ _ _ k.i (omega arith) c.loop-i-test.true (λ e. c.if-row-i.true (e ∙ sym c.symbol_at.ensures))

pub loop-i-preserved : goal.loop-i-preserved
loop-i-preserved c = let k = c.loop-i in agree_more _ _ _ _ _ k.i k.invariant (c.if-row-i.false ∙ c.symbol_at.ensures)

pub returns : goal.returns
returns c = agree_whole _ _ _ _ _ _ c.loop-i.i (omega arith) c.loop-i.invariant
