-- `remarks::line_length` meets its contract: the first line is what was passed, and the first line of what is left. Assumes nothing.
use mathlib.Core.Path.{◌≡◌, refl, sym, ap, ◌∙◌}
use mathlib.Core.List.{[], List, ◌++◌, append-nil}
use Prim.Native.Nat.{ℕ}
use native.Mathlib.Omega.{arith}
use lib.ListN.{length, get_or, take, drop, drop_of_length-le}
use Rattle.table.specs.Sheet.{lines_of}
use Rattle.remarks.proofs.Parts.{line_next, line_cut, line_past}
use Rattle.remarks.proofs.line_length.Goals as goal

pub loop-i-init : goal.loop-i-init
loop-i-init c = refl

pub returns-then-rest-i-eq-LINE_END : goal.returns-then-rest-i-eq-LINE_END
returns-then-rest-i-eq-LINE_END c =
    let k = c.loop-i in
    (omega arith, sym (line_cut c.args.rest.now k.i c.loop-i-test.true c.if-rest-i-eq-LINE_END.true) ∙ k.invariant)

pub loop-i-preserved : goal.loop-i-preserved
loop-i-preserved c =
    let k = c.loop-i in
    sym (line_next c.args.rest.now k.i c.loop-i-test.true c.if-rest-i-eq-LINE_END.false) ∙ k.invariant

pub returns : goal.returns
returns c =
    let k = c.loop-i in
    let s = c.args.rest.now in
    let none : drop k.i s ≡ [] = drop_of_length-le s {i = k.i} (omega arith) in
    let e : k.i ≡ length s = omega arith in
    (omega arith, ap (λ (n : ℕ). take n s) (sym e) ∙ sym (ap (λ (l : List ℕ). take k.i s ++ get_or (lines_of l) 0 []) none ∙ ap (λ (l : List ℕ). take k.i s ++ l) (line_past 0) ∙ append-nil (take k.i s)) ∙ k.invariant)
