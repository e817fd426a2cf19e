-- `table::with_text` meets its contract: the reader decides first, then whether a line is free, and then what is known of the rules before
-- (Counting.antt). Assumes nothing.
use borrow.Enum.Refused.{opened}
use mathlib.Core.Path.{◌≡◌, ap, ◌∙◌}
use native.Mathlib.Omega.{arith}
use lib.ListN.{length}
use Rattle.table.proofs.Refusals.{told_refused}
use Rattle.table.proofs.Counting.{text_judged, tries_refused, tries_full, ready, tries_grown, tries_no_room}
use Rattle.table.proofs.with_text.Goals as goal

pub returns-in_default : goal.returns-in_default
returns-in_default c =
    tries_refused _ _ _ _ _ _ (text_judged _ _ _ c.read_rule-rule.ensures c.from-read.ensures) (told_refused _ (opened c.in_default.in_default-own.keys2))

pub returns-then-known-ge-RULES : goal.returns-then-known-ge-RULES
returns-then-known-ge-RULES c =
    tries_full _ _ _ (text_judged _ _ _ c.read_rule-rule.ensures c.from-read.ensures ∙ c.in-Added.is) _ _ c.if-known-ge-RULES.true

pub with_rule-requires : goal.with_rule-requires
with_rule-requires c =
    let read = c.read_rule-rule.ensures in
    let long : length c.zeros-code.result ≡ 256 = ap length c.zeros-code.ensures in
    ready _ _ _ (text_judged _ _ _ read c.from-read.ensures ∙ c.in-Added.is) c.if-known-ge-RULES.false _ read _ (omega (arith, long)) c.requires

pub returns-in-Ok : goal.returns-in-Ok
returns-in-Ok c =
    let read = c.read_rule-rule.ensures in
    let long : length c.zeros-code.result ≡ 256 = ap length c.zeros-code.ensures in
    tries_grown _ _ _ (text_judged _ _ _ read c.from-read.ensures ∙ c.in-Added.is) c.if-known-ge-RULES.false _ read _ (omega (arith, long))
    _ _ _ c.in-Ok.ensures

pub returns-in-Err : goal.returns-in-Err
returns-in-Err c =
    let read = c.read_rule-rule.ensures in
    let long : length c.zeros-code.result ≡ 256 = ap length c.zeros-code.ensures in
    tries_no_room _ _ _ (text_judged _ _ _ read c.from-read.ensures ∙ c.in-Added.is) c.if-known-ge-RULES.false _ read _ (omega (arith, long))
    _ _ _ c.in-Err.ensures _ c.from.ensures _
