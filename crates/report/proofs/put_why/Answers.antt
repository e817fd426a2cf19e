-- `report::put_why` meets its contract: the lines of what was written are the text, or a plan exists (Told.antt). Assumes nothing.
use borrow.Enum.Refused.{opened}
use mathlib.Core.Path.{refl}
use native.Mathlib.Omega.{arith}
use Rattle.lists.proofs.Putting.{puts_text}
use Rattle.report.specs.Pieces.{Answers}
use Rattle.report.proofs.Lent.{whys_short}
use Rattle.report.proofs.Putting.{puts_over}
use Rattle.report.proofs.Told.{told_no_tree, Explaining, no_trees, no_tree_text, ToldTree, tree_told, tree_lent, tree_depths, tree_text}
use Rattle.report.proofs.put_why.Goals as goal

pub returns-in_default : goal.returns-in_default
returns-in_default c =
    let explaining : Explaining c.args.table c.args.words.now c.explain-given.result c.explain-given.new.buffer = record { from_us = c.requires.0; some = c.requires.1; room = c.requires.2; explains = c.explain-given.ensures } in
    let other = told_no_tree _ (opened c.in_default.in_default-own.keys2) in
    let none = no_trees explaining other in
    whys_short refl none.0 c.atoms-atoms.ensures none.1 (puts_over _ _ _ _ (puts_text (no_tree_text explaining other) c.put_text-len.ensures))

pub slice_bounds-put_depths-end : goal.slice_bounds-put_depths-end
slice_bounds-put_depths-end c =
    let explaining : Explaining c.args.table c.args.words.now c.explain-given.result c.explain-given.new.buffer = record { from_us = c.requires.0; some = c.requires.1; room = c.requires.2; explains = c.explain-given.ensures } in
    let tree : ToldTree explaining c.in-Tree.n = tree_told explaining _ c.in-Tree.is in
    tree.within

pub slice_bounds-put_depths-end-2 : goal.slice_bounds-put_depths-end-2
slice_bounds-put_depths-end-2 c =
    let explaining : Explaining c.args.table c.args.words.now c.explain-given.result c.explain-given.new.buffer = record { from_us = c.requires.0; some = c.requires.1; room = c.requires.2; explains = c.explain-given.ensures } in
    let tree : ToldTree explaining c.in-Tree.n = tree_told explaining _ c.in-Tree.is in
    tree.counted

pub put_depths-requires : goal.put_depths-requires
put_depths-requires c =
    let explaining : Explaining c.args.table c.args.words.now c.explain-given.result c.explain-given.new.buffer = record { from_us = c.requires.0; some = c.requires.1; room = c.requires.2; explains = c.explain-given.ensures } in
    let tree : ToldTree explaining c.in-Tree.n = tree_told explaining _ c.in-Tree.is in
    let it = tree in omega (arith, it.counted, it.room, c.requires.3)

pub returns : goal.returns
returns c =
    let explaining : Explaining c.args.table c.args.words.now c.explain-given.result c.explain-given.new.buffer = record { from_us = c.requires.0; some = c.requires.1; room = c.requires.2; explains = c.explain-given.ensures } in
    let e = c.in-Tree.is in
    let h = explaining in
    let says = c.put_depths.ensures.1 in
    let atoms = c.atoms-atoms.ensures in
    record { lends = tree_lent h _ e; depths_are = tree_depths h _ e _ _ _ says; atoms_are = atoms; answers = Answers.lines (tree_text h _ e _ _ _ says _ atoms) refl }
