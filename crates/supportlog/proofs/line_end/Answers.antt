-- `supportlog::line_end` meets its contract: the lines from the start on are those of what is left, with what was passed in front of the first.
-- Assumes nothing.
use mathlib.Core.Path.{◌≡◌, sym, subst, ◌∙◌}
use mathlib.Core.List.{◌∷◌}
use Prim.Native.Nat.{ℕ, ◌+◌, ◌-◌}
use lib.ListN.{length, take, drop}
use native.Mathlib.Omega.{arith}
use Rattle.supportlog.specs.Lines.{split_log}
use Rattle.supportlog.proofs.Splits.{split_start, split_next, split_cut, split_last}
use Rattle.supportlog.proofs.line_end.Goals as goal

pub loop-i-init : goal.loop-i-init
loop-i-init c = split_start c.args.log.now c.args.from (omega arith)

pub returns-then-log-i-eq-LINE_END : goal.returns-then-log-i-eq-LINE_END
returns-then-log-i-eq-LINE_END c =
    let k = c.loop-i in
    (k.auto.i, omega arith, sym k.invariant ∙ split_cut _ _ _ k.auto.i c.loop-i-test.true c.if-log-i-eq-LINE_END.true)

pub loop-i-preserved : goal.loop-i-preserved
loop-i-preserved c =
    let k = c.loop-i in
    sym (split_next _ _ _ k.auto.i c.loop-i-test.true c.if-log-i-eq-LINE_END.false) ∙ k.invariant

pub returns : goal.returns
returns c =
    let a = c.args in
    let k = c.loop-i in
    let s = a.log.now in
    let e : k.i ≡ length s = omega (arith, c.requires, k.auto.i-end (omega arith)) in (
      omega arith,
      omega arith,
      subst (λ (n : ℕ). split_log (drop a.from s) ≡ take (n - a.from) (drop a.from s) ∷ split_log (drop (n + 1) s)) e
          (sym k.invariant ∙ split_last _ _ _ k.auto.i e),
    )
