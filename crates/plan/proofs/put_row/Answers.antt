-- `plan::put_row` meets its contract: so far the pairs below j are written. Assumes nothing.
use native.Mathlib.Omega.{arith}
use Prim.Native.Nat.{ℕ, ◌+◌, ◌*◌, ◌≤◌}
use mathlib.Core.Path.{◌≡◌, sym, subst}
use mathlib.Core.List.{[], List, ◌∷◌}
use lib.ListN.{length}
use Rattle.evalset.specs.Sets.{mem}
use Rattle.plan.specs.Links.{row_to}
use Rattle.plan.specs.Private.{Wrote}
use Rattle.plan.proofs.Buffer.{wrote_none, wrote_next, wrote_one}
use Rattle.plan.proofs.Contacts.{row_first, row_next, row_within}
use Rattle.plan.proofs.Writing.{row_fits}
use Rattle.plan.proofs.put_row.Goals as goal

pub loop-j-init : goal.loop-j-init
loop-j-init c =
    let a = c.args in
    let next = c.next-j.ensures in (
      omega (arith, next.least),
      next.most,
      next.present,
      subst (λ (l : List ℕ). Wrote a.at l a.buffer.now a.buffer.now a.at)
          (sym (row_first a.n c.next-j.result a.i (mem a.row) next)) (wrote_none a.at a.buffer.now),
    )

pub offset_bounds-buffer-end : goal.offset_bounds-buffer-end
offset_bounds-buffer-end c =
    let a = c.args in
    let k = c.loop-j in
    let t = mem a.row in
    let fits : a.at + length (row_to a.n a.i t) ≤ length a.buffer.now = c.requires.2 in
    let room = row_fits a.at k.end a.n k.j a.i t a.buffer.now k.buffer k.invariant.0 (omega arith) (k.invariant.2 (omega arith)) fits k.invariant.3 in
    omega (arith, room.1)

pub bounds-buffer-end : goal.bounds-buffer-end
bounds-buffer-end c =
    let a = c.args in
    let k = c.loop-j in
    let t = mem a.row in
    let fits : a.at + length (row_to a.n a.i t) ≤ length a.buffer.now = c.requires.2 in
    let room = row_fits a.at k.end a.n k.j a.i t a.buffer.now k.buffer k.invariant.0 (omega arith) (k.invariant.2 (omega arith)) fits k.invariant.3 in
    room.0

pub overflow_add-end : goal.overflow_add-end
overflow_add-end c =
    let a = c.args in
    let k = c.loop-j in
    let t = mem a.row in
    let fits : a.at + length (row_to a.n a.i t) ≤ length a.buffer.now = c.requires.2 in
    let room = row_fits a.at k.end a.n k.j a.i t a.buffer.now k.buffer k.invariant.0 (omega arith) (k.invariant.2 (omega arith)) fits k.invariant.3 in
    omega (arith, room.1)

pub loop-j-preserved : goal.loop-j-preserved
loop-j-preserved c =
    let a = c.args in
    let k = c.loop-j in
    let t = mem a.row in
    let fits : a.at + length (row_to a.n a.i t) ≤ length a.buffer.now = c.requires.2 in
    let room = row_fits a.at k.end a.n k.j a.i t a.buffer.now k.buffer k.invariant.0 (omega arith) (k.invariant.2 (omega arith)) fits k.invariant.3 in
    let whole : length (row_to k.j a.i t) ≤ length (row_to a.n a.i t) = row_within k.j a.n a.i t (omega arith) in
    let next = c.next-j-in-loop-j.ensures in
    let key = a.i * 256 + k.j in (
      omega (arith, next.least),
      next.most,
      next.present,
      wrote_next a.at (row_to k.j a.i t) (key ∷ []) (row_to c.next-j-in-loop-j.result a.i t) a.buffer.now
          k.buffer k.end (row_next k.j a.n c.next-j-in-loop-j.result a.i t k.invariant.0 (k.invariant.2 (omega arith)) next)
          (omega arith) k.invariant.3 _ _ (wrote_one k.end key k.buffer room.0),
    )

pub returns : goal.returns
returns c =
    let a = c.args in
    let k = c.loop-j in
    let e : k.j ≡ a.n = omega arith in
    subst (λ (x : ℕ). Wrote a.at (row_to x a.i (mem a.row)) a.buffer.now k.buffer k.end) e k.invariant.3
