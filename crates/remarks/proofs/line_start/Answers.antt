-- `remarks::line_start` meets its contract: of what is left, the line that is looked for is the one behind those that are still to be passed.
-- Assumes nothing.
use mathlib.Core.Path.{◌≡◌, refl, sym, ap, ◌∙◌}
use mathlib.Core.List.{[], List}
use Prim.Native.Nat.{ℕ, ◌+◌, ◌-◌}
use native.Mathlib.Omega.{arith}
use lib.ListN.{length, get_or, drop, drop_of_length-le}
use Rattle.table.specs.Sheet.{lines_of}
use Rattle.remarks.proofs.Parts.{line_passed, byte_passed, line_past}
use Rattle.remarks.proofs.line_start.Goals as goal
use Rattle.remarks.proofs.line_start.Goals.{then-sheet-i-eq-LINE_END, else-sheet-i-eq-LINE_END}

pub loop-i-init : goal.loop-i-init
loop-i-init c = refl

pub returns-then-left-le1 : goal.returns-then-left-le1
returns-then-left-le1 c =
    let k = c.loop-i in
    let s = drop k.i c.args.sheet.now in
    let e : 0 ≡ k.left - 1 = omega arith in
    (omega arith, ap (λ (n : ℕ). get_or (lines_of s) n []) e ∙ k.invariant)

pub loop-i-preserved : goal.loop-i-preserved
loop-i-preserved c =
    let k = c.loop-i in
    let s = c.args.sheet.now in
    let on : ℕ → List ℕ = λ n. get_or (lines_of (drop (k.i + 1) s)) (n - 1) [] in
    let taken = c.loop-i-test.true in
    elim c.if-sheet-i-eq-LINE_END.branch [
      | then-sheet-i-eq-LINE_END w ↦ ap on w.left-is ∙ sym (line_passed s k.i k.left taken c.if-left-le1.false w.if-sheet-i-eq-LINE_END.true) ∙ k.invariant
      | else-sheet-i-eq-LINE_END w ↦ ap on w.left-is ∙ sym (byte_passed s k.i k.left taken c.if-left-le1.false w.if-sheet-i-eq-LINE_END.false) ∙ k.invariant
    ]

pub returns : goal.returns
returns c =
    let k = c.loop-i in
    let s = c.args.sheet.now in
    let none : drop k.i s ≡ [] = drop_of_length-le s {i = k.i} (omega arith) in
    let e : k.i ≡ length s = omega arith in
    (omega arith, ap (λ (n : ℕ). get_or (lines_of (drop n s)) 0 []) (sym e) ∙ ap (λ (l : List ℕ). get_or (lines_of l) 0 []) none ∙ line_past 0 ∙ sym (ap (λ (l : List ℕ). get_or (lines_of l) (k.left - 1) []) none ∙ line_past (k.left - 1)) ∙ k.invariant)
