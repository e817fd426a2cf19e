-- `prefixes::mark_levels` meets its contract: the rows of one atom more come after those of m atoms. Assumes nothing.
use mathlib.Core.Path.{◌≡◌, sym, ap, ◌∙◌, subst}
use Prim.Native.Nat.{ℕ, ◌+◌, ◌-◌, ◌*◌, ◌^◌}
use native.Mathlib.Omega.{arith}
use lib.Pow.{pow_mono}
use Rattle.prefixes.specs.Filled.{Fills}
use Rattle.prefixes.proofs.Filling.{fills_none, fills_more, next_power}
use Rattle.prefixes.proofs.mark_levels.Goals as goal

pub loop-m-init : goal.loop-m-init
loop-m-init c = fills_none _ _

pub mark_level-requires : goal.mark_level-requires
mark_level-requires c =
    let k = c.loop-m in
    (omega (arith, c.requires), c.requires.1, omega (arith, c.requires.2, k.invariant.long, pow_mono {i = k.m} {j = c.args.n} (omega arith)))

pub overflow_add-m-end : goal.overflow_add-m-end
overflow_add-m-end c = omega (arith, c.requires)

pub loop-m-preserved : goal.loop-m-preserved
loop-m-preserved c =
    let k = c.loop-m in
    let a = c.args in
    let z : k.m + (a.n - k.m) ≡ a.n = omega arith in
    fills_more k.invariant
    (subst (λ (x : ℕ). Fills a.list.now a.contacts x (2 ^ k.m) (2 * 2 ^ k.m) k.bits c.mark_level.new.bits) z
    c.mark_level.ensures) (next_power k.m)

pub shape_of-bits : goal.shape_of-bits
shape_of-bits c = c.loop-m.invariant.long

pub returns : goal.returns
returns c =
    let k = c.loop-m in
    let a = c.args in
    let z : a.n + 1 ≡ k.m = omega arith in
    subst (λ (x : ℕ). Fills a.list.now a.contacts a.n 1 x a.bits.now k.bits) (sym (next_power a.n ∙ ap (λ (x : ℕ). 2 ^ x) z)) k.invariant
