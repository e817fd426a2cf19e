-- `table::Table::print` meets its contract: there is no k-th rule, or its text is read again and printed. Assumes nothing.
use Prim.Native.Nat.{◌-◌, ◌<◌}
use mathlib.Core.Path.{ap, ◌∙◌}
use native.Mathlib.Omega.{arith}
use Rattle.table.specs.Store.{rules_of}
use Rattle.table.proofs.Results.{withdraw_zero, withdraw_high}
use Rattle.table.proofs.Lines.{count_is, count_few}
use Rattle.table.proofs.Recount.{text_is, text_within, text_length, text_read}
use Rattle.table.proofs.Printing.{printed_answer, prints_none, prints_text}
use Rattle.table.proofs.Table.print.Goals as goal

pub returns-then-k-le0 : goal.returns-then-k-le0
returns-then-k-le0 c = prints_none _ c.requires _ _ (withdraw_zero _ _ c.if-k-le0.true)

pub returns-then-self-k : goal.returns-then-self-k
returns-then-self-k c =
    let t = c.args.self in
    prints_none t c.requires _ _ (withdraw_high (rules_of t) _ c.if-k-le0.false (omega (arith, count_is t c.requires)))

pub offset_bounds-self-k : goal.offset_bounds-self-k
offset_bounds-self-k c =
    let low : c.args.k - 1 < c.args.self.count = omega arith in
    omega (arith, low, count_few _ c.requires)

pub bounds-self-k : goal.bounds-self-k
bounds-self-k c =
    let low : c.args.k - 1 < c.args.self.count = omega arith in
    omega (arith, low, count_few _ c.requires)

pub slice_bounds-bytes-end : goal.slice_bounds-bytes-end
slice_bounds-bytes-end c =
    let low : c.args.k - 1 < c.args.self.count = omega arith in
    text_within c.requires low

pub slice_bounds-text-end : goal.slice_bounds-text-end
slice_bounds-text-end c =
    let low : c.args.k - 1 < c.args.self.count = omega arith in
    text_length c.requires low

pub print-printed-requires : goal.print-printed-requires
print-printed-requires c =
    let low : c.args.k - 1 < c.args.self.count = omega arith in
    let e = c.read_rule-rule.ensures in
    record { read = e; formula = ap (λ r. r.answer) e ∙ text_read c.requires low }

pub returns-in-Ok : goal.returns-in-Ok
returns-in-Ok c =
    let v = c.requires in
    let low : c.args.k - 1 < c.args.self.count = omega arith in
    prints_text _ v _ _ (omega arith) (omega arith) _ (text_is v low) _ _ c.print-printed.ensures _ (ap printed_answer c.in-Ok.is)

pub returns-in-Err : goal.returns-in-Err
returns-in-Err c =
    let v = c.requires in
    let low : c.args.k - 1 < c.args.self.count = omega arith in
    prints_text _ v _ _ (omega arith) (omega arith) _ (text_is v low) _ _ c.print-printed.ensures _ (ap printed_answer c.in-Err.is)
