-- `clashing::kept` meets its contract: before the place all rules are chosen, from it on those that are kept. Assumes nothing.
use mathlib.Core.Path.{◌≡◌, refl, ap, ◌∙◌}
use Prim.Native.Nat.{suc, ◌-◌, ◌≤◌}
use native.Mathlib.Omega.{arith}
use Rattle.clashing.specs.Steps.{SomeFloorSays, KeptIs}
use Rattle.clashing.proofs.Trying.{tried_to, tried_none, tried_all, tried_step}
use Rattle.clashing.proofs.kept.Goals as goal

pub loop-i-init : goal.loop-i-init
loop-i-init c =
    let h = c.requires.0.rules_compiled in
    let few : c.args.c.known.count ≤ 16 = omega (arith, h.known.counted, h.known.fits.rules_fit) in
    (omega arith, refl, λ rules kept h. tried_none rules c.args.c.known.count h.known.counted few)

pub bounds-set-i : goal.bounds-set-i
bounds-set-i c =
    let h = c.requires.0.rules_compiled in
    let few : c.args.c.known.count ≤ 16 = omega (arith, h.known.counted, h.known.fits.rules_fit) in
    omega (arith, few, c.loop-i.invariant.0)

pub some_floor-needed-requires : goal.some_floor-needed-requires
some_floor-needed-requires c =
    (c.requires.0, omega (arith, c.requires.1, c.loop-i.invariant.1))

pub bounds-set-i-in-loop-i : goal.bounds-set-i-in-loop-i
bounds-set-i-in-loop-i c =
    let h = c.requires.0.rules_compiled in
    let few : c.args.c.known.count ≤ 16 = omega (arith, h.known.counted, h.known.fits.rules_fit) in
    omega (arith, few, c.loop-i.invariant.0)

pub loop-i-preserved : goal.loop-i-preserved
unfolding SomeFloorSays
loop-i-preserved c =
    let k = c.loop-i in
    let says = c.some_floor-needed.ensures in (
      omega (arith, k.invariant.0),
      says.1 ∙ k.invariant.1,
      λ rules kept h. tried_step rules k.i (k.i - 1) k.set _ (let e : k.i ≡ suc (k.i - 1) = omega arith in e) (omega (arith, k.invariant.0, h.known.counted)) (k.invariant.2 rules kept h)
          (says.0 rules kept h),
    )

pub shape_of-room : goal.shape_of-room
shape_of-room c = c.loop-i.invariant.1

pub returns : goal.returns
unfolding KeptIs
returns c =
    let k = c.loop-i in
    let none : k.i ≡ 0 = omega arith in
    λ rules kept h. k.invariant.2 rules kept h ∙ ap (tried_to rules) none ∙ tried_all rules
