-- `drawing::draw_rules` meets its contract: what ask wrote are the words of the plan that is given, or there is none. Assumes nothing.
use borrow.Enum.Refused.{opened}
use mathlib.Core.Path.{◌≡◌, sym, ap, subst, ◌∙◌}
use mathlib.Core.List.{List}
use Prim.Native.Nat.{ℕ, ◌≤◌, ◌<◌}
use native.Mathlib.Omega.{arith}
use lib.ListN.{length, take}
use Rattle.contact.specs.Question.{plain}
use Rattle.plan.specs.Words.{words_of}
use Rattle.report.proofs.Reporting.{Asking, told_other, no_plans, Wrote, plan_written}
use Rattle.drawing.specs.Drawing.{DrawsWords}
use Rattle.drawing.proofs.Drawing.{plan_sizes, prefix_is, prefix_within, rules_none, rules_plan}
use Rattle.drawing.proofs.draw_rules.Goals as goal

pub returns-in_default : goal.returns-in_default
returns-in_default c =
    let asking : Asking plain c.args.table c.no_words-words.result c.ask-given.result c.ask-given.new.buffer = let pre = c.requires in record { from_us = pre.0; some = pre.1; room = omega (arith, c.no_words-words.ensures); asks = c.ask-given.ensures } in
    rules_none _ _ (no_plans asking (told_other _ (opened c.in_default.in_default-own.keys2)))

pub slice_bounds-words-end : goal.slice_bounds-words-end
slice_bounds-words-end c =
    let asking : Asking plain c.args.table c.no_words-words.result c.ask-given.result c.ask-given.new.buffer = let pre = c.requires in record { from_us = pre.0; some = pre.1; room = omega (arith, c.no_words-words.ensures); asks = c.ask-given.ensures } in
    let wrote : Wrote asking c.in-Plan.n = plan_written asking _ c.in-Plan.is in
    prefix_within _ _ _ _ wrote.size wrote.words

pub slice_bounds-draw_words-end : goal.slice_bounds-draw_words-end
slice_bounds-draw_words-end c =
    let asking : Asking plain c.args.table c.no_words-words.result c.ask-given.result c.ask-given.new.buffer = let pre = c.requires in record { from_us = pre.0; some = pre.1; room = omega (arith, c.no_words-words.ensures); asks = c.ask-given.ensures } in
    let wrote : Wrote asking c.in-Plan.n = plan_written asking _ c.in-Plan.is in
    let lent : take c.in-Plan.n c.ask-given.new.buffer ≡ words_of wrote.plan = prefix_is _ _ _ _ wrote.size wrote.words in
    wrote.size ∙ ap length (sym lent)

pub draw_words-requires : goal.draw_words-requires
draw_words-requires c =
    let asking : Asking plain c.args.table c.no_words-words.result c.ask-given.result c.ask-given.new.buffer = let pre = c.requires in record { from_us = pre.0; some = pre.1; room = omega (arith, c.no_words-words.ensures); asks = c.ask-given.ensures } in
    let wrote : Wrote asking c.in-Plan.n = plan_written asking _ c.in-Plan.is in
    let lent : take c.in-Plan.n c.ask-given.new.buffer ≡ words_of wrote.plan = prefix_is _ _ _ _ wrote.size wrote.words in
    let sizes : (length wrote.plan.points ≤ 255) × (0 < length (words_of wrote.plan)) × (length (words_of wrote.plan) ≤ 530) = plan_sizes _ asking.from_us wrote.plan wrote.only in
    let e = lent in
    let size = sizes in
    (subst (λ (ws : List ℕ). 0 < length ws) (sym e) size.1, subst (λ (ws : List ℕ). length ws ≤ 530) (sym e) size.2)

pub returns : goal.returns
unfolding DrawsWords
returns c =
    let asking : Asking plain c.args.table c.no_words-words.result c.ask-given.result c.ask-given.new.buffer = let pre = c.requires in record { from_us = pre.0; some = pre.1; room = omega (arith, c.no_words-words.ensures); asks = c.ask-given.ensures } in
    let wrote : Wrote asking c.in-Plan.n = plan_written asking _ c.in-Plan.is in
    let lent : take c.in-Plan.n c.ask-given.new.buffer ≡ words_of wrote.plan = prefix_is _ _ _ _ wrote.size wrote.words in
    let sizes : (length wrote.plan.points ≤ 255) × (0 < length (words_of wrote.plan)) × (length (words_of wrote.plan) ≤ 530) = plan_sizes _ asking.from_us wrote.plan wrote.only in
    let w = wrote in
    c.draw_words.ensures w.plan sizes.0 (sym lent) ∙ rules_plan _ _ w.plan w.only
