-- `plan::check_room` meets its contract: where there is room for every contact the words fit. Assumes nothing.
use mathlib.Core.Path.{ap, ◌∙◌}
use Prim.Native.Nat.{ℕ, ◌+◌}
use native.Mathlib.Omega.{arith}
use Rattle.evalset.specs.Sets.{mem}
use Rattle.squares.specs.Square.{square_at}
use Rattle.plan.specs.Private.{rows_by, room_of}
use Rattle.plan.proofs.Contacts.{links_small}
use Rattle.plan.proofs.Writing.{links_most, room_enough, room_short}
use Rattle.plan.proofs.check_room.Goals as goal

pub returns-then-n-len : goal.returns-then-n-len
returns-then-n-len c =
    let a = c.args in
    room_enough _ a.len (omega (arith, links_most a.n (rows_by a.n a.points (mem a.given) (square_at a.apart.now))))

pub overflow_add-needed-2 : goal.overflow_add-needed-2
overflow_add-needed-2 c =
    let a = c.args in
    omega (arith, c.contact_count.ensures, links_small a.n a.n (rows_by a.n a.points (mem a.given) (square_at a.apart.now)) c.requires.0)

pub returns-then-len-needed : goal.returns-then-len-needed
returns-then-len-needed c =
    let a = c.args in
    let size = ap (λ (x : ℕ). 2 + a.n + x) c.contact_count.ensures in
    room_short _ a.len (omega arith) ∙ ap (λ (x : ℕ). room_of x a.len) size

pub returns : goal.returns
returns c =
    let a = c.args in
    let size = ap (λ (x : ℕ). 2 + a.n + x) c.contact_count.ensures in
    room_enough _ a.len (omega arith) ∙ ap (λ (x : ℕ). room_of x a.len) size
