-- `table::Table::answered` meets its contract: the rules are compiled, the search finds the first row or none, and its plan is written. Assumes nothing.
use mathlib.Core.List.{[]}
use mathlib.Core.Path.{refl, sym, ap, ◌∙◌}
use Rattle.ruleset.specs.Texts.{CompiledRules}
use Rattle.ruleset.proofs.Claims.{may_plan, none_given, plan_given}
use Rattle.table.specs.Store.{rules_of}
use Rattle.table.specs.Calls.{formulas_of}
use Rattle.table.specs.Steps.{PlanPut}
use Rattle.table.proofs.Compiled.{reached_all}
use Rattle.table.proofs.Asking.{asks_none, asks_some, written_answer, wrote_plan}
use Rattle.table.proofs.Table.answered.Goals as goal

pub returns-then-standing-le0 : goal.returns-then-standing-le0
returns-then-standing-le0 c = asks_none _ _ c.requires _ c.if-standing-le0.true

pub returns-in_default : goal.returns-in_default
returns-in_default c =
    let all : CompiledRules (formulas_of (rules_of c.args.self)) c.searched-searched.result.compiled c.searched-searched.ensures.compiled.kept c.searched-searched.ensures.code = reached_all c.args.self _ _ c.requires c.searched-searched.ensures.compiled in
    let t = c.args.self in
    asks_some _ t c.requires _ c.if-standing-le0.false []
    (none_given (formulas_of (rules_of t)) _ _ _ all _ _ c.searched-searched.ensures.first c.in_default.is) _ _ refl refl

pub put_plan-written-requires : goal.put_plan-written-requires
put_plan-written-requires c =
    let all : CompiledRules (formulas_of (rules_of c.args.self)) c.searched-searched.result.compiled c.searched-searched.ensures.compiled.kept c.searched-searched.ensures.code = reached_all c.args.self _ _ c.requires c.searched-searched.ensures.compiled in
    may_plan _ _ _ _ all

-- the answer is the writer's
pub returns-in-Ok : goal.returns-in-Ok
unfolding PlanPut
returns-in-Ok c =
    let all : CompiledRules (formulas_of (rules_of c.args.self)) c.searched-searched.result.compiled c.searched-searched.ensures.compiled.kept c.searched-searched.ensures.code = reached_all c.args.self _ _ c.requires c.searched-searched.ensures.compiled in
    let t = c.args.self in
    let put = c.put_plan-written in
    let out = wrote_plan _ c.args.buffer.now put.result put.new.buffer (put.ensures _ _ _ all) in
    asks_some _ t c.requires _ c.if-standing-le0.false _
    (plan_given (formulas_of (rules_of t)) _ _ _ all _ _ _ c.searched-searched.ensures.first c.in-Some.is) _ _ (sym (ap written_answer c.in-Ok.is) ∙ out.0) out.1

pub returns-in-Err : goal.returns-in-Err
unfolding PlanPut
returns-in-Err c =
    let all : CompiledRules (formulas_of (rules_of c.args.self)) c.searched-searched.result.compiled c.searched-searched.ensures.compiled.kept c.searched-searched.ensures.code = reached_all c.args.self _ _ c.requires c.searched-searched.ensures.compiled in
    let t = c.args.self in
    let put = c.put_plan-written in
    let out = wrote_plan _ c.args.buffer.now put.result put.new.buffer (put.ensures _ _ _ all) in
    asks_some _ t c.requires _ c.if-standing-le0.false _
    (plan_given (formulas_of (rules_of t)) _ _ _ all _ _ _ c.searched-searched.ensures.first c.in-Some.is) _ _ (sym (ap written_answer c.in-Err.is) ∙ out.0) out.1
