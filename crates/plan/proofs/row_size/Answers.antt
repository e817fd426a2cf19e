-- `plan::row_size` meets its contract: so far the positions below j are counted. Assumes nothing.
use native.Mathlib.Omega.{arith}
use Prim.Native.Nat.{ℕ, ◌+◌, ◌*◌}
use mathlib.Core.Path.{◌≡◌, sym, ap, ◌∙◌}
use mathlib.Core.List.{[], ◌∷◌}
use lib.ListN.{length, length-append}
use Rattle.evalset.specs.Sets.{mem}
use Rattle.plan.specs.Links.{row_to}
use Rattle.plan.proofs.Contacts.{row_first, row_next, row_small}
use Rattle.plan.proofs.row_size.Goals as goal

pub loop-j-init : goal.loop-j-init
loop-j-init c =
    let a = c.args in
    let next = c.next-j.ensures in
    (omega (arith, next.least), next.most, next.present, sym (ap length (row_first a.n c.next-j.result a.i (mem a.row) next)))

pub overflow_add-size : goal.overflow_add-size
overflow_add-size c =
    let a = c.args in
    let loop = c.loop-j in
    omega (arith, loop.invariant.3, row_small loop.j a.i (mem a.row))

pub loop-j-preserved : goal.loop-j-preserved
loop-j-preserved c =
    let a = c.args in
    let loop = c.loop-j in
    let next = c.next-j-in-loop-j.ensures in
    let t = mem a.row in (
      omega (arith, next.least),
      next.most,
      next.present,
      ap (λ (x : ℕ). x + 1) loop.invariant.3
          ∙ sym (length-append (row_to loop.j a.i t) ((a.i * 256 + loop.j) ∷ []))
          ∙ ap length (row_next loop.j a.n c.next-j-in-loop-j.result a.i t loop.invariant.0 (loop.invariant.2 (omega arith)) next),
    )

pub returns : goal.returns
returns c =
    let a = c.args in
    let loop = c.loop-j in
    let e : loop.j ≡ a.n = omega arith in loop.invariant.3 ∙ ap (λ (x : ℕ). length (row_to x a.i (mem a.row))) e
