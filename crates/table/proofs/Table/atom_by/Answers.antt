-- `table::Table::atom_by` meets its contract: there is no such atom, or the rule in which it is written first is read again, and the atom
-- printed. Assumes nothing.
use mathlib.Core.Path.{ap, ◌∙◌}
use native.Mathlib.Omega.{arith}
use Rattle.table.proofs.Lines.{count_few}
use Rattle.table.proofs.Recount.{text_within, text_length, text_read}
use Rattle.table.proofs.Atoms.{gives_none, in_table, atom_there, gives_text}
use Rattle.table.proofs.Table.atom_by.Goals as goal

pub returns-in_default : goal.returns-in_default
returns-in_default c = let pre = c.requires in gives_none _ pre.0 _ _ pre.1 _ c.in_default.ensures _

pub offset_bounds-self-place : goal.offset_bounds-self-place
offset_bounds-self-place c = let pre = c.requires in omega (arith, in_table _ pre.0 _ _ pre.1 _ _ c.in-Some.ensures, count_few _ pre.0)

pub bounds-self-place : goal.bounds-self-place
bounds-self-place c = let pre = c.requires in omega (arith, in_table _ pre.0 _ _ pre.1 _ _ c.in-Some.ensures, count_few _ pre.0)

pub slice_bounds-bytes-end : goal.slice_bounds-bytes-end
slice_bounds-bytes-end c = let pre = c.requires in text_within pre.0 (in_table _ pre.0 _ _ pre.1 _ _ c.in-Some.ensures)

pub slice_bounds-text-end : goal.slice_bounds-text-end
slice_bounds-text-end c = let pre = c.requires in text_length pre.0 (in_table _ pre.0 _ _ pre.1 _ _ c.in-Some.ensures)

pub print_atom-requires : goal.print_atom-requires
print_atom-requires c =
    let e = c.read_rule-rule.ensures in
    let pre = c.requires in
    let there = in_table _ pre.0 _ _ pre.1 _ _ c.in-Some.ensures in
    (record { read = e; formula = ap (λ r. r.answer) e ∙ text_read pre.0 there }, atom_there _ pre.0 _ _ pre.1 _ _ c.in-Some.ensures)

pub returns : goal.returns
returns c =
    let pre = c.requires in
    gives_text _ pre.0 _ _ pre.1 _ _ c.in-Some.ensures
    _ _ _ c.print_atom.ensures
