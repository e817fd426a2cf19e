-- `exercises::put_whole` meets its contract: one line or none. Assumes nothing.
use mathlib.Core.Path.{◌≡◌, sym, ap, ◌∙◌}
use mathlib.Core.Bool.{true, false}
use native.Mathlib.Omega.{arith}
use lib.ListN.{length}
use Rattle.exercises.specs.Book.{whole}
use Rattle.exercises.proofs.Branches.{whole_text, unwhole_text}
use Rattle.lists.proofs.Putting.{puts_none, puts_text}
use Rattle.exercises.proofs.put_whole.Goals as goal

pub put_line-requires : goal.put_line-requires
put_line-requires c =
    let e : true ≡ whole c.args.ks.now = sym c.if-is_whole.true ∙ c.is_whole.ensures in
    omega (arith, c.requires.1, ap length (whole_text c.args.ks.now e))

pub returns-then-is_whole : goal.returns-then-is_whole
returns-then-is_whole c =
    let e : true ≡ whole c.args.ks.now = sym c.if-is_whole.true ∙ c.is_whole.ensures in
    puts_text (sym (whole_text c.args.ks.now e)) c.put_line.ensures

pub returns : goal.returns
returns c =
    let a = c.args in
    let e : false ≡ whole a.ks.now = sym c.if-is_whole.false ∙ c.is_whole.ensures in
    puts_text (sym (unwhole_text a.ks.now e)) (puts_none a.at a.out.now (omega (arith, c.requires.1)))
