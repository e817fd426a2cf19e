-- `exercises::put_gap` meets its contract: nothing or one blank is put. Assumes nothing.
use mathlib.Core.Path.{sym, ap}
use native.Mathlib.Omega.{arith}
use lib.ListN.{length}
use Rattle.exercises.proofs.Tables.{gap_none, gap_some}
use Rattle.lists.proofs.Putting.{puts_none, puts_text, puts_byte}
use Rattle.exercises.proofs.put_gap.Goals as goal

pub returns-then-i-eq0 : goal.returns-then-i-eq0
returns-then-i-eq0 c =
    let a = c.args in
    puts_text (sym (gap_none a.i (omega arith))) (puts_none a.at a.out.now (omega arith))

pub bounds-out-at : goal.bounds-out-at
bounds-out-at c = omega (arith, ap length (gap_some c.args.i (λ e. omega arith)))

pub returns : goal.returns
returns c =
    let a = c.args in
    let e = gap_some a.i (λ q. omega arith) in
    puts_text (sym e) (puts_byte (puts_none a.at a.out.now (omega arith)) 32 (omega (arith, ap length e)))
