-- `trees::closes` meets its contract: kind 6 by a rule that is false, kind 7 where no floor is. Assumes nothing.
use Rattle.trees.proofs.Steps.{closes_rule, closes_high, closes_floor, closes_body, closes_none}
use native.Mathlib.Omega.{arith}
use Rattle.trees.proofs.closes.Goals as goal

pub returns-in-0-to-255 : goal.returns-in-0-to-255
returns-in-0-to-255 c =
    (c.rule_false.ensures.0, c.rule_false.ensures.1, closes_rule _ _ _ _ _ _ _ c.in-6.is (omega arith) _ c.rule_false.ensures.2)

pub returns-in_default-body : goal.returns-in_default-body
returns-in_default-body c =
    let p = c.requires in
    (p.2, p.3, closes_high _ _ _ _ _ _ _ c.in-6.is (omega arith))

pub returns-in-0 : goal.returns-in-0
returns-in-0 c =
    let p = c.requires in
    (p.2, p.3, closes_floor _ _ _ _ _ _ _ c.in-7.is c.in-0.is p.1 _ c.some_floor.ensures)

pub returns-in_default-body-2 : goal.returns-in_default-body-2
returns-in_default-body-2 c = let p = c.requires in (p.2, p.3, closes_body _ _ _ _ _ _ _ c.in-7.is (omega arith))

pub returns-in_default : goal.returns-in_default
returns-in_default c = let p = c.requires in (p.2, p.3, closes_none _ _ _ _ _ _ _ (omega arith) (omega arith))
