-- `supportlog::put_answer` meets its contract: each arm knows its answer. Assumes nothing.
use Rattle.supportlog.proofs.Texts.{told}
use Rattle.supportlog.proofs.put_answer.Goals as goal

pub returns-in-Added : goal.returns-in-Added
returns-in-Added c = told c.args.words.now c.in-Added.is c.put_text.ensures

pub returns-in-Withdrawn : goal.returns-in-Withdrawn
returns-in-Withdrawn c = told c.args.words.now c.in-Withdrawn.is c.put_text-in-Withdrawn.ensures

pub returns-in-Plan : goal.returns-in-Plan
returns-in-Plan c = told c.args.words.now c.in-Plan.is c.put_plan.ensures

pub returns-in-NoPlan : goal.returns-in-NoPlan
returns-in-NoPlan c = told c.args.words.now c.in-NoPlan.is c.put_text-in-NoPlan.ensures

pub returns-in-Refused : goal.returns-in-Refused
returns-in-Refused c = told c.args.words.now c.in-Refused.is c.put_refused.ensures
