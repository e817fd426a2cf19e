-- `pairing::put` meets its contract: the word is put at its low bits. Assumes nothing.
use mathlib.Core.Path.{sym, subst}
use Prim.Native.Nat.{ℕ, ◌<◌}
use native.Mathlib.Omega.{arith}
use borrow.Author.Tests.{ne_eqb, eq-eqb}
use lib.Bits.{bit_and}
use Rattle.pairing.specs.Words.{within}
use Rattle.pairing.proofs.Words.{takes_skip, takes_put, masked}
use Rattle.pairing.proofs.put.Goals as goal

pub returns-then-k-left-ne0 : goal.returns-then-k-left-ne0
unfolding within
returns-then-k-left-ne0 c = takes_skip c.args.left c.args.low c.args.k c.args.table.now (ne_eqb _ 0 c.if-k-left-ne0.true)

pub overflow_cast-at : goal.overflow_cast-at
overflow_cast-at c = omega (arith, (masked c.args.k c.args.low 1024 c.requires.1))

pub offset_bounds-table-at : goal.offset_bounds-table-at
offset_bounds-table-at c = omega (arith, (masked c.args.k c.args.low 1024 c.requires.1))

pub bounds-table-at : goal.bounds-table-at
bounds-table-at c = masked c.args.k c.args.low 1024 c.requires.1

pub bounds-table-at-2 : goal.bounds-table-at-2
bounds-table-at-2 c = masked c.args.k c.args.low 1024 c.requires.1

pub returns : goal.returns
unfolding within
returns c =
    takes_put c.args.left c.args.low c.args.k c.args.table.now (eq-eqb _ 0 c.if-k-left-ne0.false) (subst (λ (x : ℕ). bit_and c.args.k c.args.low < x) (sym c.requires.0) (masked c.args.k c.args.low 1024 c.requires.1))
