-- `report::put_rules` meets its contract: the lines of what was written for the question are the text, or there is no plan (Reporting.antt).
-- Assumes nothing.
use borrow.Enum.Refused.{opened}
use mathlib.Core.Path.{refl}
use Rattle.lists.proofs.Putting.{puts_text}
use Rattle.table.specs.Calls.{names_in}
use Rattle.search.specs.Asked.{question_of}
use Rattle.report.specs.Pieces.{Answers}
use Rattle.report.proofs.Putting.{puts_over}
use Rattle.report.proofs.Lent.{tells_short}
use Rattle.report.proofs.Reporting.{told_other, Asking, no_plans, words_kept, no_text, plan_lent, plan_told, plan_room}
use Rattle.report.proofs.put_rules.Goals as goal

pub returns-in_default : goal.returns-in_default
unfolding names_in
returns-in_default c =
    let asking : Asking (question_of c.args.asked) c.args.table c.args.words.now c.ask-given.result c.ask-given.new.words = let pre = c.requires in record { from_us = pre.0; some = pre.1; room = pre.2; asks = c.ask-given.ensures } in
    let other = told_other _ (opened c.in_default.in_default-own.keys2) in
    tells_short refl (no_plans asking other) c.names-names.ensures (words_kept asking other) (puts_over _ _ _ _ (puts_text (no_text asking other) c.put_text-len.ensures))

pub returns : goal.returns
unfolding names_in
returns c =
    let asking : Asking (question_of c.args.asked) c.args.table c.args.words.now c.ask-given.result c.ask-given.new.words = let pre = c.requires in record { from_us = pre.0; some = pre.1; room = pre.2; asks = c.ask-given.ensures } in
    let e = c.in-Plan.is in
    let a = asking in
    let names = c.names-names.ensures in
    record { lends = plan_lent a _ e; names_are = names; answers = Answers.lines (plan_told a _ e _ names) refl; room = λ n f. plan_room a _ e }
