-- `clashes::put_clash` meets its contract: the places have the set, whose lines are put, or a plan exists (Answers.antt). Assumes nothing.
use borrow.Enum.Refused.{opened}
use mathlib.Core.Path.{◌≡◌, refl}
use native.Mathlib.Omega.{arith}
use lib.ListN.{length}
use Rattle.lists.proofs.Putting.{puts_text}
use Rattle.clashes.proofs.Answers.{told_no_clash, exists_text, clash_count, set_text}
use Rattle.clashes.proofs.put_clash.Goals as goal

pub clash-given-requires : goal.clash-given-requires
clash-given-requires c = c.requires.0

pub put_text-requires : goal.put_text-requires
put_text-requires c = omega (arith, c.requires.2)

pub returns-in_default : goal.returns-in_default
returns-in_default c =
    puts_text (exists_text _ c.requires.0 c.requires.1 _ refl _ _ c.clash-given.ensures _ (told_no_clash _ (opened c.in_default.in_default-own.keys2))) c.put_text.ensures

pub put_set-requires : goal.put_set-requires
put_set-requires c =
    (c.requires.0, clash_count _ c.requires.0 c.requires.1 _ refl _ _ c.clash-given.ensures _ c.in-Clash.is, c.requires.2)

pub returns : goal.returns
returns c =
    let numbers_long : length c.args.numbers ≡ 16 = c.well_formed.1.0.1.0.1 in
    puts_text (set_text _ c.requires.0 c.requires.1 _ refl _ _ c.clash-given.ensures _ c.in-Clash.is _ numbers_long) c.put_set.ensures
