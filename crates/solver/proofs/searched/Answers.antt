-- `solver::searched` meets its contract: the words of all pairs are listed, and the search goes from the row of no atoms. Assumes nothing.
use Rattle.solver.proofs.Places.{row_small}
use Rattle.solver.proofs.Root.{listable, root_first}
use Rattle.solver.proofs.searched.Goals as goal

pub words_of-count-requires : goal.words_of-count-requires
words_of-count-requires c =
    let p = c.requires in
    listable _ _ _ _ _ p.0.atoms_fit c.contacts_of-contacts.ensures c.all_evaluations-top.ensures p.1

pub cut_of-cut-requires : goal.cut_of-cut-requires
cut_of-cut-requires c =
    let few = c.requires.0.atoms_fit in
    (few, row_small _ _ few c.contacts_of-contacts.ensures.small)

pub returns-then-cut-eq0 : goal.returns-then-cut-eq0
returns-then-cut-eq0 c =
    root_first _ _ _ _ _ _ _ _ _ _ c.contacts_of-contacts.ensures c.words_of-count.ensures c.cut_of-cut.ensures
    c.in_word.ensures

pub returns : goal.returns
returns c =
    root_first _ _ _ _ _ _ _ _ _ _ c.contacts_of-contacts.ensures c.words_of-count.ensures c.cut_of-cut.ensures
    c.in_blocks.ensures
