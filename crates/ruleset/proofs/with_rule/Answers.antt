-- `ruleset::with_rule` meets its contract: the rule that was read is compiled behind the rules before it, and so all rules are known
-- (Adding.antt). Assumes nothing.
use mathlib.Core.Path.{◌≡◌, sym, ap, ◌∙◌}
use Prim.Native.Nat.{ℕ, ◌≤◌}
use native.Mathlib.Omega.{arith}
use lib.ListN.{length}
use lib.Seq.{length-take-le}
use borrow.Author.Rules.{rules}
use Rattle.std.specs.Prelude.{Option}
use Rattle.std.specs.Option.{is_some}
use Rattle.compile.specs.declared.CompiledRule.{CompiledRule}
use Rattle.ruleset.specs.Texts.{WithRule, room_for}
use Rattle.ruleset.proofs.Adding.{gather_asked, ninth, rule_few, used_few, compile_asked, answer_now, grows_now}
use Rattle.ruleset.proofs.with_rule.Goals as goal

pub gather-gathered-requires : goal.gather-gathered-requires
gather-gathered-requires c = gather_asked _ _ _ _ _ _ _ _ c.requires.one_more

pub returns-in-TooManyNames : goal.returns-in-TooManyNames
unfolding WithRule
returns-in-TooManyNames c = λ rules f m. ninth _ _ _ _ _ _ rules f m _ c.gather-gathered.ensures _ c.in-TooManyNames.is

pub slice_bounds-order-end : goal.slice_bounds-order-end
slice_bounds-order-end c =
    let order_long : length c.args.rule.order ≡ 256 = search rules in
    let order_fits : c.args.rule.len ≤ length c.args.rule.order = omega (arith, rule_few _ _ _ _ _ _ _ _ c.requires.one_more order_long) in
    order_fits

pub slice_bounds-names_in-end : goal.slice_bounds-names_in-end
slice_bounds-names_in-end c =
    let order_long : length c.args.rule.order ≡ 256 = search rules in
    let order_fits : c.args.rule.len ≤ length c.args.rule.order = omega (arith, rule_few _ _ _ _ _ _ _ _ c.requires.one_more order_long) in
    sym (length-take-le _ _ order_fits)

pub slice_bounds-order-end-2 : goal.slice_bounds-order-end-2
slice_bounds-order-end-2 c =
    let order_long : length c.args.rule.order ≡ 256 = search rules in
    let order_fits : c.args.rule.len ≤ length c.args.rule.order = omega (arith, rule_few _ _ _ _ _ _ _ _ c.requires.one_more order_long) in
    order_fits

pub slice_bounds-compile_rule-end : goal.slice_bounds-compile_rule-end
slice_bounds-compile_rule-end c =
    let order_long : length c.args.rule.order ≡ 256 = search rules in
    let order_fits : c.args.rule.len ≤ length c.args.rule.order = omega (arith, rule_few _ _ _ _ _ _ _ _ c.requires.one_more order_long) in
    sym (length-take-le _ _ order_fits)

pub slice_bounds-numbers-end : goal.slice_bounds-numbers-end
slice_bounds-numbers-end c =
    let order_long : length c.args.rule.order ≡ 256 = search rules in
    let numbers_long : length c.gather-gathered.result.numbers ≡ 256 = search rules in
    let used_fits : c.names_in-used.result ≤ length c.gather-gathered.result.numbers = omega (arith, c.names_in-used.ensures, used_few _ _ _ _ _ _ _ _ c.requires.one_more order_long) in
    used_fits

pub slice_bounds-compile_rule-end-2 : goal.slice_bounds-compile_rule-end-2
slice_bounds-compile_rule-end-2 c =
    let order_long : length c.args.rule.order ≡ 256 = search rules in
    let numbers_long : length c.gather-gathered.result.numbers ≡ 256 = search rules in
    let used_fits : c.names_in-used.result ≤ length c.gather-gathered.result.numbers = omega (arith, c.names_in-used.ensures, used_few _ _ _ _ _ _ _ _ c.requires.one_more order_long) in
    sym (length-take-le _ _ used_fits)

pub compile_rule-compiled-requires : goal.compile_rule-compiled-requires
compile_rule-compiled-requires c =
    let order_long : length c.args.rule.order ≡ 256 = search rules in
    compile_asked _ _ _ _ _ _ _ _ c.requires.one_more order_long _ c.gather-gathered.ensures c.in_default.is
    _ c.names_in-used.ensures

pub overflow_add-count : goal.overflow_add-count
overflow_add-count c =
    let m = c.requires.one_more in
    omega (arith, m.so_far.counted, m.few)

pub returns-in_default-compiled : goal.returns-in_default-compiled
unfolding WithRule
returns-in_default-compiled c = λ rules f m.
    let long : length c.args.rule.order ≡ 256 = c.well_formed.1.0.1.1.1.1.0.1.0.1 in
    answer_now _ _ _ _ _ _ rules f m long _ c.gather-gathered.ensures c.in_default.is _ c.names_in-used.ensures _ _ _ c.compile_rule-compiled.ensures.0
    ∙ ap (λ (o : Option CompiledRule). room_for (is_some o)) c.in_default-compiled.is

pub returns : goal.returns
unfolding WithRule
returns c = λ rules f m.
    let long : length c.args.rule.order ≡ 256 = c.well_formed.1.0.1.1.1.1.0.1.0.1 in
    let gathered = c.gather-gathered.ensures in
    let told = c.in_default.is in
    let counted = c.names_in-used.ensures in
    let compiled = c.compile_rule-compiled.ensures.0 in (
      answer_now _ _ _ _ _ _ rules f m long _ gathered told _ counted _ _ _ compiled ∙ ap (λ (o : Option CompiledRule). room_for (is_some o)) c.in-Some.is,
      grows_now _ _ _ _ _ _ rules f m long _ gathered told _ counted _ _ _ compiled _ c.in-Some.is,
    )
