-- `trees::judged` meets its contract: the words of all pairs are listed, and the machine goes from the root. Assumes nothing.
use native.Mathlib.Omega.{arith}
use Rattle.solver.proofs.Root.{listable}
use Rattle.std.proofs.lemmas.Result.{err_from_is_err_and}
use Rattle.trees.proofs.Steps.{check_stop, check_whole, check_after}
use Rattle.trees.proofs.judged.Goals as goal

pub words_of-count-requires : goal.words_of-count-requires
words_of-count-requires c =
    let pre = c.requires in
    listable _ _ _ _ _ pre.0.atoms_fit c.contacts_of-contacts.ensures c.all_evaluations-top.ensures pre.1

pub returns-in_err-end : goal.returns-in_err-end
returns-in_err-end c =
    let q = err_from_is_err_and c.from_residual.result c.from_residual.ensures.1 in
    rw (q.1, q.2) (check_stop _ _ _ _ _ _ _ _ c.contacts_of-contacts.ensures c.words_of-count.ensures _ c.in_err-end.ensures.3)

pub returns-then-end-words : goal.returns-then-end-words
returns-then-end-words c = check_whole _ _ _ _ _ _ _ _ c.contacts_of-contacts.ensures c.words_of-count.ensures _ c.in_ok-end.ensures.3 c.if-end-words.true

pub returns-else-end-words : goal.returns-else-end-words
returns-else-end-words c =
    let v = c.in_ok-end.ensures.2 in
    check_after _ _ _ _ _ _ _ _ c.contacts_of-contacts.ensures c.words_of-count.ensures _ c.in_ok-end.ensures.3 (omega (arith, v, c.if-end-words.false))
