-- `prefixes::check_all` meets its contract: the words of all pairs are listed, and every row of first atoms is tested by a table of them.
-- Assumes nothing.
use Rattle.solver.proofs.Places.{row_small}
use Rattle.solver.proofs.Root.{listable}
use Rattle.prefixes.proofs.Filling.{all_checked}
use Rattle.prefixes.proofs.check_all.Goals as goal

pub words_of-count-requires : goal.words_of-count-requires
words_of-count-requires c =
    let p = c.requires in
    listable _ _ _ _ _ p.0 c.contacts_of-contacts.ensures c.all_evaluations-top.ensures p.1

pub mark_levels-requires : goal.mark_levels-requires
mark_levels-requires c =
    let p = c.requires in
    (p.0, row_small _ _ p.0 c.contacts_of-contacts.ensures.small, p.2)

pub returns : goal.returns
returns c =
    let s = c in
    let contacts = c.contacts_of-contacts in
    let listed = c.words_of-count in
    all_checked _ _ _ _ _ _ _ s.requires.0 contacts.ensures listed.ensures s.requires.3 c.mark_levels.ensures
