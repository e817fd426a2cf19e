-- `plan::contact_count` meets its contract: the contacts are the rows' one after the other. Assumes nothing.
use native.Mathlib.Omega.{arith}
use Prim.Native.Nat.{ℕ, ◌+◌}
use mathlib.Core.Path.{◌≡◌, sym, ap, ap₂, ◌∙◌}
use mathlib.Core.Bool.{Bool}
use lib.ListN.{length, length-append}
use Rattle.evalset.specs.Sets.{mem}
use Rattle.squares.specs.Square.{square_at}
use Rattle.plan.specs.Links.{row_to, links_to}
use Rattle.plan.specs.Private.{rows_by}
use Rattle.plan.proofs.Contacts.{links_none, links_more, links_small, row_small}
use Rattle.plan.proofs.contact_count.Goals as goal

pub loop-i-init : goal.loop-i-init
loop-i-init c =
    let a = c.args in
    sym (ap length (links_none a.n (rows_by a.n a.points (mem a.given) (square_at a.apart.now))))

pub overflow_add-size : goal.overflow_add-size
overflow_add-size c =
    let a = c.args in
    let k = c.loop-i in
    omega (
      arith,
      c.row_size-size.ensures,
      row_small a.n k.i (mem c.contact_row-row.result),
      k.invariant,
      links_small k.i a.n (rows_by a.n a.points (mem a.given) (square_at a.apart.now)) c.requires.0,
    )

pub loop-i-preserved : goal.loop-i-preserved
loop-i-preserved c =
    let a = c.args in
    let k = c.loop-i in
    let t = rows_by a.n a.points (mem a.given) (square_at a.apart.now) in
    ap₂ ◌+◌ k.invariant (c.row_size-size.ensures ∙ ap (λ (row : ℕ → Bool). length (row_to a.n k.i row)) c.contact_row-row.ensures)
    ∙ sym (length-append (links_to k.i a.n t) (row_to a.n k.i (t k.i))) ∙ ap length (links_more k.i a.n t)

pub returns : goal.returns
returns c =
    let a = c.args in
    let k = c.loop-i in
    let e : k.i ≡ a.n = omega arith in
    k.invariant ∙ ap (λ (x : ℕ). length (links_to x a.n (rows_by a.n a.points (mem a.given) (square_at a.apart.now)))) e
