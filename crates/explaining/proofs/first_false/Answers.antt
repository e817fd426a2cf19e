-- `explaining::first_false` meets its contract: no rule before was false. Assumes nothing.
use mathlib.Core.Bool.{true, false}
use mathlib.Core.Path.{◌≡◌, sym, ap, subst}
use Prim.Native.Nat.{ℕ, suc, ◌+◌}
use native.Mathlib.Omega.{arith}
use borrow.Author.Tests.{eq-eqb, ne_eqb}
use Rattle.evalset.specs.Bit.{bit}
use Rattle.evalset.specs.Sets.{found_of}
use Rattle.explaining.specs.Nodes.{false_at}
use Rattle.explaining.proofs.Closings.{first_at, first_nowhere, rule_next}
use Rattle.explaining.proofs.first_false.Goals as goal

pub loop-i-init : goal.loop-i-init
loop-i-init c = λ k l m. absurd (omega arith)

pub offset_bounds-words-i : goal.offset_bounds-words-i
offset_bounds-words-i c = omega (arith, c.requires.0)

pub bounds-words-i : goal.bounds-words-i
bounds-words-i c = omega (arith, c.requires.0)

pub returns-then-words-i-eq1 : goal.returns-then-words-i-eq1
unfolding bit
returns-then-words-i-eq1 c =
    let a = c.args in
    let k = c.loop-i in
    let z : suc k.i ≡ k.i + 1 = omega arith in (
      omega arith,
      sym (ap found_of (first_at (false_at a.words.now a.j) 1 a.count (k.i + 1) (omega arith) (omega arith)
          (subst (λ (x : ℕ). false_at a.words.now a.j x ≡ true) z (eq-eqb _ 1 c.if-words-i-eq1.true)) (λ m l b. k.invariant m l (omega arith)))),
    )

pub loop-i-preserved : goal.loop-i-preserved
unfolding bit
loop-i-preserved c =
    let a = c.args in
    let k = c.loop-i in
    let z : suc k.i ≡ k.i + 1 = omega arith in
    rule_next (false_at a.words.now a.j) k.i k.invariant
    (subst (λ (x : ℕ). false_at a.words.now a.j x ≡ false) z (ne_eqb _ 1 c.if-words-i-eq1.false))

pub returns : goal.returns
returns c =
    let a = c.args in
    let k = c.loop-i in
    (tt, sym (ap found_of (first_nowhere (false_at a.words.now a.j) 1 a.count (λ m l b. k.invariant m l (omega arith)))))
