-- `report::put_atom` meets its contract: the text with this number, or that of no atom. Assumes nothing.
use mathlib.Core.List.{[]}
use mathlib.Core.Path.{◌≡◌, sym, ap}
use native.Mathlib.Omega.{arith}
use Rattle.lists.proofs.Lists.{default_unread}
use Rattle.lists.proofs.Putting.{puts_none, puts_text}
use lib.ListN.{length, get_or-eq_default}
use Rattle.report.specs.Pieces.{held, held_at}
use Rattle.report.proofs.put_atom.Goals as goal

pub returns-in-0-to-15 : goal.returns-in-0-to-15
unfolding held_at
returns-in-0-to-15 c =
    let long : length c.args.atoms ≡ 16 = c.well_formed.0.1.0.1 in
    (puts_text (ap held (default_unread c.args.atoms c.args.which _ _ (omega (arith, long, c.in-0-to-15.if-which-lt16-own.true)))) c.put_atom_text.ensures.0, c.put_atom_text.ensures.1)

pub returns-in_default : goal.returns-in_default
unfolding held held_at
returns-in_default c =
    let long : length c.args.atoms ≡ 16 = c.well_formed.0.1.0.1 in
    (puts_text (sym (ap held (get_or-eq_default c.args.atoms (record { bytes = []; len = 0 }) (omega (arith, long, c.in_default.if-which-lt16-own.false))))) (puts_none c.args.at c.args.out.now (omega (arith, c.requires))), omega arith)
