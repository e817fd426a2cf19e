-- `plan::kind_of` meets its contract, by the laws of Spelling. Assumes nothing.
use mathlib.Core.Path.{sym}
use native.Mathlib.Omega.{arith}
use Rattle.plan.proofs.Spelling.{is_first, no_first, is_point, no_point, is_contact, no_contact, is_last, is_long, low_long, high_long, no_kind}
use Rattle.plan.proofs.kind_of.Goals as goal

pub returns-in-0-to-1791 : goal.returns-in-0-to-1791
returns-in-0-to-1791 c = sym (is_first c.args.word c.in-1.is (omega arith))

pub returns-in_default-body : goal.returns-in_default-body
returns-in_default-body c = sym (no_first c.args.word c.in-1.is (omega arith))

pub returns-in-0-to-255 : goal.returns-in-0-to-255
returns-in-0-to-255 c = sym (is_point c.args.word c.in-2.is (omega arith))

pub returns-in_default-body-2 : goal.returns-in_default-body-2
returns-in_default-body-2 c = sym (no_point c.args.word c.in-2.is (omega arith))

pub returns-in-0-to-65535 : goal.returns-in-0-to-65535
returns-in-0-to-65535 c = sym (is_contact c.args.word c.in-3.is (omega arith))

pub returns-in_default-body-3 : goal.returns-in_default-body-3
returns-in_default-body-3 c = sym (no_contact c.args.word c.in-3.is (omega arith))

pub returns-in-4 : goal.returns-in-4
returns-in-4 c = sym (is_last c.args.word c.in-4.is)

pub returns-in-458752-to-589823 : goal.returns-in-458752-to-589823
returns-in-458752-to-589823 c = sym (is_long c.args.word c.in-8.is (omega arith) (omega arith))

pub returns-in_default-body-4 : goal.returns-in_default-body-4
returns-in_default-body-4 c = sym (low_long c.args.word c.in-8.is (omega arith))

pub returns-in_default-body-4-2 : goal.returns-in_default-body-4-2
returns-in_default-body-4-2 c = sym (high_long c.args.word c.in-8.is (omega arith))

pub returns-in_default : goal.returns-in_default
returns-in_default c =
    sym (no_kind c.args.word c.in_default.in_default-own.rest.0.0.0.0.1 c.in_default.in_default-own.rest.0.0.0.1 c.in_default.in_default-own.rest.0.0.1
    c.in_default.in_default-own.rest.0.1 c.in_default.in_default-own.rest.1)
