-- `remarks::put_about` meets its contract: what is expected, then the text behind it; nothing where nothing is known. Assumes nothing.
use mathlib.Core.Path.{sym, ap, ◌∙◌}
use mathlib.Core.List.{List, ◌++◌}
use Prim.Native.Nat.{ℕ}
use native.Mathlib.Omega.{arith}
use Rattle.std.specs.Prelude.{Option}
use Rattle.lists.proofs.Putting.{puts_none, puts_text, puts_more}
use Rattle.remarks.specs.declared.Expected.{Expected}
use Rattle.remarks.specs.Remark.{about}
use Rattle.remarks.proofs.put_about.Goals as goal

pub returns-in-Some : goal.returns-in-Some
returns-in-Some c =
    let a = c.args in
    let one = c.put_text-end.ensures in
    let two = c.put_text.ensures in
    (puts_text (ap (λ (l : List ℕ). l ++ a.tail.now) c.named.ensures.0 ∙ ap (λ (o : Option Expected). about o a.tail.now) (sym c.in-Some.is)) (puts_more one two), omega (arith, one.place, two.place, c.named.ensures.1))

pub returns-in-None : goal.returns-in-None
returns-in-None c =
    let a = c.args in
    (puts_text (ap (λ (o : Option Expected). about o a.tail.now) (sym c.in-None.is)) (puts_none a.at a.out.now (omega (arith, c.requires))), omega arith)
