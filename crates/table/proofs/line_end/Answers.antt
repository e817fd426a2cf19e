-- `table::line_end` meets its contract: the lines from the start on are those of what is left, with what was passed in front of the first. Assumes nothing.
use Prim.Native.Nat.{ℕ, ◌+◌, ◌-◌}
use mathlib.Core.List.{◌∷◌}
use mathlib.Core.Path.{◌≡◌, sym, ap, subst, ◌∙◌}
use lib.ListN.{length, take, drop}
use Rattle.table.specs.Calls.{lines_from}
use Rattle.table.specs.Sheet.{lines_of}
use Rattle.table.proofs.Scan.{on_head, head_none, lines_next, lines_cut, lines_last}
use native.Mathlib.Omega.{arith}
use Rattle.table.proofs.line_end.Goals as goal

pub loop-i-init : goal.loop-i-init
loop-i-init c =
    let s = drop c.args.from c.args.file.now in
    let e : c.args.from - c.args.from ≡ 0 = omega arith in
    (omega arith, omega arith, ap (λ (n : ℕ). on_head (take n s) (lines_of s)) e ∙ head_none s)

pub returns-then-file-i-eq-LINE_END : goal.returns-then-file-i-eq-LINE_END
returns-then-file-i-eq-LINE_END c =
    let inv = c.loop-i.invariant in
    (inv.0, inv.1, sym inv.2 ∙ lines_cut _ _ _ inv.0 c.loop-i-test.true c.if-file-i-eq-LINE_END.true)

pub loop-i-preserved : goal.loop-i-preserved
loop-i-preserved c =
    let inv = c.loop-i.invariant in
    (omega arith, omega arith, sym (lines_next _ _ _ inv.0 c.loop-i-test.true c.if-file-i-eq-LINE_END.false) ∙ inv.2)

pub returns : goal.returns
returns c =
    let inv = c.loop-i.invariant in
    let file = c.args.file.now in
    let from = c.args.from in
    let e : c.loop-i.i ≡ length file = omega arith in (
      omega arith,
      omega arith,
      subst (λ (n : ℕ). lines_of (drop from file) ≡ take (n - from) (drop from file) ∷ lines_from file (n + 1)) e (sym inv.2 ∙ lines_last _ _ _ inv.0 e),
    )
