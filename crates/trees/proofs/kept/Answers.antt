-- `trees::kept` meets its contract. Assumes nothing.
use mathlib.Core.Bool.{Bool, cond}
use mathlib.Core.Path.{sym, ap}
use lib.Bits.{bit_or}
use borrow.Author.Tests.{eq-eqb, ne_eqb}
use Rattle.pairing.specs.Words.{within}
use Rattle.trees.proofs.kept.Goals as goal

pub returns-then-k-left-eq0 : goal.returns-then-k-left-eq0
unfolding within
returns-then-k-left-eq0 c = sym (ap (λ (x : Bool). cond x (bit_or c.args.w 65536) 0) (eq-eqb _ 0 c.if-k-left-eq0.true))

pub returns-else-k-left-eq0 : goal.returns-else-k-left-eq0
unfolding within
returns-else-k-left-eq0 c = sym (ap (λ (x : Bool). cond x (bit_or c.args.w 65536) 0) (ne_eqb _ 0 c.if-k-left-eq0.false))
