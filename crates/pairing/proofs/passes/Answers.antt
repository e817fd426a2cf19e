-- `pairing::passes` meets its contract. Assumes nothing.
use mathlib.Core.Bool.{Bool, ◌||◌, not}
use mathlib.Core.Path.{sym, ap, ◌∙◌}
use native.Mathlib.Omega.{arith}
use lib.Bits.{bit_xor}
use lib.Dec.{eqb}
use Rattle.pairing.proofs.Words.{masked, test_on, test_off}
use Rattle.pairing.proofs.passes.Goals as goal

pub overflow_cast-at : goal.overflow_cast-at
overflow_cast-at c = omega (arith, (masked (bit_xor c.args.row c.args.contacts) c.args.low 1024 c.requires.0))

pub offset_bounds-table-at : goal.offset_bounds-table-at
offset_bounds-table-at c = omega (arith, (masked (bit_xor c.args.row c.args.contacts) c.args.low 1024 c.requires.0))

pub bounds-table-at : goal.bounds-table-at
bounds-table-at c = masked (bit_xor c.args.row c.args.contacts) c.args.low 1024 c.requires.0

pub returns-then-lone : goal.returns-then-lone
returns-then-lone c =
    let a = c.args in
    c.if-lone.true ∙ sym (test_on a.table.now a.lone a.contacts a.low a.row (sym c.from.ensures ∙ c.if-from-t.true)
    ∙ ap (λ (b : Bool). b || not (eqb (bit_xor a.row a.contacts) 0)) c.if-lone.true)

pub returns-else-lone : goal.returns-else-lone
returns-else-lone c =
    let a = c.args in
    sym (test_on a.table.now a.lone a.contacts a.low a.row (sym c.from.ensures ∙ c.if-from-t.true)
    ∙ ap (λ (b : Bool). b || not (eqb (bit_xor a.row a.contacts) 0)) c.if-lone.false)

pub returns-else-from-t : goal.returns-else-from-t
returns-else-from-t c =
    let a = c.args in
    sym (test_off a.table.now a.lone a.contacts a.low a.row (λ h. c.if-from-t.false (c.from.ensures ∙ h)))
