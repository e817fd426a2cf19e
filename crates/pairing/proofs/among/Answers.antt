-- `pairing::among` meets its contract: so far the first i masks are compared. Assumes nothing.
use mathlib.Core.Bool.{Bool, ◌||◌}
use mathlib.Core.Path.{◌≡◌, refl, sym, ap, ◌∙◌}
use Prim.Native.Nat.{ℕ, ◌<◌}
use native.Mathlib.Omega.{arith}
use lib.Dec.{eqb}
use lib.ListN.{length, get_or, take}
use Rattle.lists.specs.Search.{elem}
use Rattle.lists.proofs.Lists.{take_next}
use Rattle.lists.proofs.Search.{any_last}
use Rattle.evalset.specs.Sets.{room}
use Rattle.pairing.proofs.among.Goals as goal

pub loop-i-init : goal.loop-i-init
loop-i-init c = refl

pub offset_bounds-masks-i : goal.offset_bounds-masks-i
unfolding room
offset_bounds-masks-i c = omega arith

pub bounds-masks-i : goal.bounds-masks-i
unfolding room
bounds-masks-i c = omega arith

pub loop-i-preserved : goal.loop-i-preserved
unfolding room
loop-i-preserved c =
    let k = c.loop-i in
    let a = c.args in
    let l : k.i < length a.masks.now = omega (arith, c.requires.1) in
    ap (λ (b : Bool). b || eqb a.m (get_or a.masks.now k.i 0)) k.invariant
    ∙ sym (ap (elem a.m) (take_next a.masks.now k.i 0 l) ∙ any_last (eqb a.m) (take k.i a.masks.now) (get_or a.masks.now k.i 0))

pub returns : goal.returns
returns c =
    let k = c.loop-i in
    let a = c.args in
    let z : k.i ≡ a.count = omega arith in
    k.invariant ∙ ap (λ (x : ℕ). elem a.m (take x a.masks.now)) z
