-- `squares::wide` meets its contract: the smaller square has rows of one word. Assumes nothing.
use mathlib.Core.Path.{sym}
use Rattle.squares.proofs.Rows.{narrow_is, wide_is}
use Rattle.squares.proofs.wide.Goals as goal

pub returns-then-ws-eq64 : goal.returns-then-ws-eq64
returns-then-ws-eq64 c = sym (narrow_is _ c.if-ws-eq64.true)

pub returns-else-ws-eq64 : goal.returns-else-ws-eq64
returns-else-ws-eq64 c = sym (wide_is _ c.if-ws-eq64.false)
