-- `printing::print_atom` meets its contract: the atom ends at the place that is found. Assumes nothing.
use mathlib.Core.Path.{◌≡◌, subst}
use mathlib.Core.List.{List}
use Prim.Native.Nat.{ℕ}
use lib.ListN.{length}
use Rattle.printing.specs.Prints.{Prints}
use Rattle.printing.proofs.AtomEnds.{can_seek, atom_text_lem, atom_ends}
use Rattle.printing.proofs.print_atom.Goals as goal

pub atom_end-place-requires : goal.atom_end-place-requires
atom_end-place-requires c =
    let full : length c.args.rule.order ≡ 256 = c.well_formed.1.0.1.1.1.1.0.1.0.1 in
    let wide : length c.args.rule.tokens.kinds ≡ 256 = c.well_formed.1.0.1.1.1.0.1.1.0.1.0.1 in
    can_seek c.args.text.now c.args.rule c.requires.0 c.args.which c.requires.1 full wide

pub print_to-requires : goal.print_to-requires
print_to-requires c =
    (c.requires.0, atom_ends c.args.text.now c.args.rule c.requires.0 c.args.which c.requires.1 c.atom_end-place.result c.atom_end-place.ensures)

pub returns : goal.returns
returns c =
    let end = c.atom_end-place in
    let call = c.print_to in
    subst (λ (ws : List ℕ). Prints ws c.args.buffer.now call.result call.new.buffer)
    (atom_text_lem c.args.text.now c.args.rule c.requires.0 c.args.which c.requires.1 end.result end.ensures) call.ensures
