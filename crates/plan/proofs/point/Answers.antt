-- `plan::point` meets its contract: each test that fails is the machine's, and what passes them all is taken. Assumes nothing.
use borrow.Enum.Refused.{opened}
use native.Mathlib.Omega.{arith}
use Rattle.plan.proofs.ReadLoop.{not_point, point_low, point_room, point_taken}
use Rattle.plan.proofs.point.Goals as goal

pub returns-in_default : goal.returns-in_default
returns-in_default c =
    let a = c.args in
    not_point a.low a.left a.top a.at a.word (opened c.in_default.in_default-own.keys2)

pub returns-then-e-low : goal.returns-then-e-low
returns-then-e-low c =
    let a = c.args in
    let given = c.in-Point in
    point_low a.low a.left a.top a.at a.word given.bits given.is (omega arith)

pub returns-then-top-e : goal.returns-then-top-e
returns-then-top-e c =
    let a = c.args in
    let given = c.in-Point in
    point_room a.low a.left a.top a.at a.word given.bits given.is (omega arith)

pub returns-else-top-e : goal.returns-else-top-e
returns-else-top-e c =
    let a = c.args in
    let given = c.in-Point in
    point_taken a.low a.left a.top a.at a.word given.bits given.is (omega arith) (omega arith)

-- from 256 on an evaluation leaves no room
pub returns-in_default-bits : goal.returns-in_default-bits
returns-in_default-bits c =
    let a = c.args in
    let given = c.in-Point in
    point_room a.low a.left a.top a.at a.word given.bits given.is (omega arith)
