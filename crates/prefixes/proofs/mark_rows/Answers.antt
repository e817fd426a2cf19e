-- `prefixes::mark_rows` meets its contract: row by row, each bit is the row's test. Assumes nothing.
use mathlib.Core.Path.{◌≡◌, subst}
use Prim.Native.Nat.{ℕ, ◌+◌}
use native.Mathlib.Omega.{arith}
use Rattle.pairing.specs.Words.{row_test}
use Rattle.prefixes.specs.Filled.{Marked, Tested}
use Rattle.prefixes.proofs.Filling.{tested_none, tested_more}
use Rattle.prefixes.proofs.mark_rows.Goals as goal

pub loop-row-init : goal.loop-row-init
loop-row-init c = tested_none _ _ _ _

pub passes-value-requires : goal.passes-value-requires
passes-value-requires c = (c.requires.0, omega (arith, c.requires))

pub overflow_add-top : goal.overflow_add-top
overflow_add-top c = omega (arith, c.requires)

pub mark-requires : goal.mark-requires
mark-requires c =
    let k = c.loop-row in
    omega (arith, c.requires, k.invariant.long)

pub loop-row-preserved : goal.loop-row-preserved
loop-row-preserved c =
    let k = c.loop-row in
    let a = c.args in
    tested_more _ _ _ _ _ _ _ (omega arith) k.invariant
    (subst (λ b. Marked (a.top + k.row) b k.bits c.mark.new.bits) c.passes-value.ensures c.mark.ensures)

pub shape_of-bits : goal.shape_of-bits
shape_of-bits c = c.loop-row.invariant.long

pub returns : goal.returns
returns c =
    let k = c.loop-row in
    let a = c.args in
    let z : k.row ≡ a.end = omega (arith, c.requires) in
    subst (λ (x : ℕ). Tested (row_test a.table.now a.some a.contacts a.low) a.top a.start x a.bits.now k.bits) z k.invariant
