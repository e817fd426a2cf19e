-- `supportlog::run_line` meets its contract: each form has its call. Assumes nothing.
use mathlib.Core.Path.{refl, sym, ◌∙◌}
use Rattle.supportlog.proofs.Forms.{add_some}
use Rattle.supportlog.proofs.Lining.{as_add, as_withdraw, as_ask, as_other}
use Rattle.supportlog.proofs.run_line.Goals as goal

pub add_line-requires : goal.add_line-requires
add_line-requires c = (c.requires, add_some _ (sym c.form_of-form.ensures ∙ c.in-Add.is))

pub returns-in-Add : goal.returns-in-Add
returns-in-Add c = as_add _ _ _ _ _ c.form_of-form.ensures c.in-Add.is c.add_line.ensures

pub returns-in-Withdraw : goal.returns-in-Withdraw
returns-in-Withdraw c = as_withdraw _ _ _ _ _ c.form_of-form.ensures _ c.in-Withdraw.is c.withdraw_line.ensures

pub returns-in-Ask : goal.returns-in-Ask
returns-in-Ask c = as_ask _ _ _ _ _ c.form_of-form.ensures _ c.in-Ask.is c.ask_line.ensures

pub returns-in-Other : goal.returns-in-Other
returns-in-Other c = as_other _ _ _ _ _ c.form_of-form.ensures c.in-Other.is c.requires refl
