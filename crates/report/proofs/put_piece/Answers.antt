-- `report::put_piece` meets its contract: so far the lines from the index to the next are put (Pieces.antt). Assumes nothing.
use Prim.Native.Nat.{ℕ}
use native.Mathlib.Omega.{arith}
use mathlib.Core.Path.{◌≡◌, subst}
use mathlib.Core.Logic.{⊎_elim}
use Rattle.lists.proofs.Truth.{side}
use Rattle.lists.proofs.Putting.{puts_none, puts_text, puts_length, puts_more}
use Rattle.report.specs.Pieces.{GivesPiece}
use Rattle.report.proofs.Pieces.{lines_none, lines_next, fits_begin, fits_all, fits_full, fits_next, not_empty, gives}
use Rattle.report.proofs.put_piece.Goals as goal

pub loop-next-init : goal.loop-next-init
loop-next-init g c = (puts_text (lines_none _ _) (puts_none 0 _ (omega arith)), fits_begin _ _ _, λ h. omega arith)

pub overflow_add-end : goal.overflow_add-end
overflow_add-end g c = omega (arith, c.well_formed.1.1.1.0, c.loop-next.invariant.0.place, c.loop-next.invariant.0.fits)

pub returns-then-end-gt-ROOM : goal.returns-then-end-gt-ROOM
returns-then-end-gt-ROOM g c = let k = c.loop-next in gives _ k.auto.next k.invariant.0 _ (fits_full _ _ _ _ _ k.invariant.1 (omega arith) (omega (arith, c.if-end-gt-ROOM.true))) k.auto.next-end (λ h. omega (arith, c.if-end-gt-ROOM.true)) (λ h. not_empty _ k.auto.next k.invariant.0 (omega (arith, c.if-end-gt-ROOM.true)))

pub loop-next-preserved : goal.loop-next-preserved
loop-next-preserved g c =
    let k = c.loop-next in
    let one = c.put-end.ensures in
    (puts_text (lines_next _ _ k.next k.auto.next) (puts_more k.invariant.0 one), fits_next _ _ _ k.next _ k.invariant.1 (omega arith) k.auto.next (omega (arith, c.if-end-gt-ROOM.false)) one, λ h. omega arith)

pub returns : goal.returns
returns g c =
    let a = c.args in
    let k = c.loop-next in
    let last : k.next ≡ c.max.result =
    ⊎_elim (λ h. omega (arith, h, c.max.ensures, k.auto.next-end (omega arith))) (λ h. omega (arith, c.max.ensures, k.invariant.2 h)) (side a.from a.count) in
    subst (λ (n : ℕ). GivesPiece (g.L.WordLines.line a.lines.now) a.count a.from a.out.now (record { len = k.end; next = n }) k.out) last
    (gives _ k.auto.next k.invariant.0 _ (fits_all _ _ _ _ _ k.invariant.1 (omega arith)) k.auto.next-end (λ h. omega arith) (λ h l. omega arith))
