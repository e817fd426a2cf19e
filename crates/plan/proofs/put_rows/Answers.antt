-- `plan::put_rows` meets its contract: so far the rows below i are written. Assumes nothing.
use native.Mathlib.Omega.{arith}
use Prim.Native.Nat.{ℕ, ◌+◌, ◌≤◌}
use mathlib.Core.Path.{◌≡◌, sym, ap, ◌∙◌, subst}
use mathlib.Core.Bool.{Bool}
use mathlib.Core.List.{List, ◌++◌}
use lib.ListN.{length, length-append}
use Rattle.evalset.specs.Sets.{mem}
use Rattle.squares.specs.Square.{square_at}
use Rattle.plan.specs.Links.{row_to, links_to}
use Rattle.plan.specs.Private.{rows_by, Wrote}
use Rattle.plan.proofs.Buffer.{wrote_none, wrote_next, wrote_length}
use Rattle.plan.proofs.Contacts.{links_none, links_more, links_within}
use Rattle.plan.proofs.put_rows.Goals as goal

pub loop-i-init : goal.loop-i-init
loop-i-init c =
    let a = c.args in
    subst (λ (l : List ℕ). Wrote a.at l a.buffer.now a.buffer.now a.at)
    (sym (links_none a.n (rows_by a.n a.points (mem a.given) (square_at a.apart.now)))) (wrote_none a.at a.buffer.now)

pub put_row-end-requires : goal.put_row-end-requires
put_row-end-requires c =
    let a = c.args in
    let k = c.loop-i in
    let t = rows_by a.n a.points (mem a.given) (square_at a.apart.now) in
    let row : length (row_to a.n k.i (mem c.contact_row-row.result)) ≡ length (row_to a.n k.i (t k.i)) =
    ap (λ (r : ℕ → Bool). length (row_to a.n k.i r)) c.contact_row-row.ensures in
    let part : length (links_to k.i a.n t) + length (row_to a.n k.i (t k.i)) ≡ length (links_to (k.i + 1) a.n t) =
    sym (length-append (links_to k.i a.n t) (row_to a.n k.i (t k.i))) ∙ ap length (links_more k.i a.n t) in
    let whole : length (links_to (k.i + 1) a.n t) ≤ length (links_to a.n a.n t) =
    links_within (k.i + 1) a.n a.n t (omega arith) in
    let fits : a.at + length (links_to a.n a.n t) ≤ length a.buffer.now = c.requires.2 in
    let same : length k.buffer ≡ length a.buffer.now =
    wrote_length a.at (links_to k.i a.n t) a.buffer.now k.buffer k.end (omega arith) k.invariant in
    (omega arith, omega arith, omega (arith, k.invariant.place))

pub loop-i-preserved : goal.loop-i-preserved
loop-i-preserved c =
    let a = c.args in
    let k = c.loop-i in
    let t = rows_by a.n a.points (mem a.given) (square_at a.apart.now) in
    let whole : length (links_to k.i a.n t) ≤ length (links_to a.n a.n t) =
    links_within k.i a.n a.n t (omega arith) in
    let fits : a.at + length (links_to a.n a.n t) ≤ length a.buffer.now = c.requires.2 in
    wrote_next a.at (links_to k.i a.n t) (row_to a.n k.i (mem c.contact_row-row.result)) (links_to (k.i + 1) a.n t)
    a.buffer.now k.buffer k.end
    (ap (λ (r : ℕ → Bool). links_to k.i a.n t ++ row_to a.n k.i r) c.contact_row-row.ensures ∙ links_more k.i a.n t)
    (omega arith) k.invariant _ _ c.put_row-end.ensures

pub returns : goal.returns
returns c =
    let a = c.args in
    let k = c.loop-i in
    let e : k.i ≡ a.n = omega arith in
    subst (λ (x : ℕ). Wrote a.at (links_to x a.n (rows_by a.n a.points (mem a.given) (square_at a.apart.now))) a.buffer.now k.buffer k.end) e k.invariant
