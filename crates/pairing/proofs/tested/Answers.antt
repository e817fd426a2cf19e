-- `pairing::tested` meets its contract: so far the rows below some place are tested, and those from it on are left. Assumes nothing.
use mathlib.Core.Bool.{Bool, cond}
use mathlib.Core.Path.{sym, ap, ◌∙◌}
use mathlib.Core.Logic.{⊎_elim}
use mathlib.Mathlib.Logic.Function.Defs.{congr_fun}
use Prim.Native.Nat.{ℕ, ◌+◌, ◌^◌, ◌<◌}
use native.Mathlib.Omega.{arith}
use Rattle.lists.proofs.Truth.{side}
use Rattle.evalset.specs.Bit.{word_bits, bit}
use Rattle.evalset.specs.Sets.{drop_of}
use Rattle.evalset.proofs.Bits.{bit_above}
use Rattle.evalset.proofs.Walk.{from_zero, found_least, Step, step, stop}
use Rattle.pairing.specs.Words.{row_test}
use Rattle.pairing.proofs.Testing.{tested_none, tested_skip, tested_more, tested_all}
use Rattle.pairing.proofs.Walking.{places_fall}
use Rattle.pairing.proofs.tested.Goals as goal

pub loop-e-init : goal.loop-e-init
loop-e-init c = (0, from_zero _, tested_none _ _)

pub overflow_add-start : goal.overflow_add-start
overflow_add-start c = omega (arith, (found_least (bit c.loop-e.rest) word_bits _ (sym c.in-Some.ensures)).within, c.requires.1)

pub passes-requires : goal.passes-requires
passes-requires c = (c.requires.0, omega (arith, (found_least (bit c.loop-e.rest) word_bits _ (sym c.in-Some.ensures)).within, c.requires.1))

pub loop-e-smaller : goal.loop-e-smaller
loop-e-smaller c = places_fall _ _ _ (sym c.in-Some.ensures) c.word_without-rest.ensures

pub loop-e-preserved : goal.loop-e-preserved
loop-e-preserved c =
    let k = c.loop-e in
    let a = c.args in
    let e = c.in-Some.e in
    let test : ℕ → Bool = λ e. row_test a.table.now a.lone a.contacts a.low (a.start + e) in
    let t : Step word_bits k.invariant.0 e (bit a.set) (bit k.rest) = step word_bits _ _ _ k.invariant.1 e (sym c.in-Some.ensures) in (
      e + 1,
      c.word_without-rest.ensures ∙ t.rest,
      λ d. congr_fun (c.unless_kept-out.ensures ∙ ap (λ (b : Bool). cond b (bit k.out) (drop_of (bit k.out) e)) c.passes.ensures) d
          ∙ tested_more test (bit a.set) e (bit k.out) (tested_skip test (bit a.set) k.invariant.0 e (bit k.out) t.low t.between k.invariant.2) d,
    )

pub returns : goal.returns
returns c =
    let k = c.loop-e in
    let a = c.args in
    let small : a.set < 2 ^ word_bits = omega arith in
    tested_all (λ e. row_test a.table.now a.lone a.contacts a.low (a.start + e)) (bit a.set) k.invariant.0 (bit k.out) (λ d l. ⊎_elim
    (λ h. stop word_bits k.invariant.0 _ _ k.invariant.1 (sym c.word_least.ensures ∙ c.in_default.is) d l h)
    (λ h. bit_above word_bits a.set d small h) (side d word_bits)) k.invariant.2
