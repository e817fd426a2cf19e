-- `report::put_number` meets its contract: the digits of a tenth, which is less, then the last one. Assumes nothing.
use mathlib.Core.Path.{sym, ap}
use native.Mathlib.Omega.{arith}
use lib.ListN.{length, length-append}
use Rattle.lists.proofs.Putting.{puts_none, puts_text, puts_byte}
use Rattle.report.proofs.Digits.{decimal_small, decimal_more}
use Rattle.report.proofs.+put_number.Goals as goal

pub bounds-out-at : goal.bounds-out-at
bounds-out-at t c = omega (arith, c.requires, ap length (decimal_small c.args.n (omega arith)))

pub returns-then-n-lt10 : goal.returns-then-n-lt10
returns-then-n-lt10 t c =
    let a = c.args in
    let e = decimal_small a.n (omega arith) in
    puts_text (sym e)
    (puts_byte (puts_none a.at a.out.now (omega arith)) _ (omega (arith, c.requires, ap length e)))

pub put_number-end-requires : goal.put_number-end-requires
put_number-end-requires t c =
    let e = decimal_more c.args.n (omega arith) in
    (omega arith, omega (arith, c.requires, simp length-append at (ap length e)))

pub bounds-out-end : goal.bounds-out-end
bounds-out-end t c = omega (arith, c.requires, c.put_number-end.ensures.place, simp length-append at (ap length (decimal_more c.args.n (omega arith))))

pub returns : goal.returns
returns t c =
    let e = decimal_more c.args.n (omega arith) in
    puts_text (sym e)
    (puts_byte c.put_number-end.ensures _ (omega (arith, c.requires, ap length e)))
