-- `explaining::mask` meets its contract: each mask passes the test of all 63 nodes. Assumes nothing.
use mathlib.Core.Path.{refl}
use native.Mathlib.Omega.{arith}
use Rattle.evalset.specs.Bit.{bit}
use Rattle.kleene.specs.Rails.{yes_of, no_of}
use Rattle.prefixes.specs.Heap.{place_under}
use Rattle.explaining.proofs.Values.{all_under, right, mask_says, mask_none}
use Rattle.explaining.proofs.mask.Goals as goal

pub returns-in-0 : goal.returns-in-0
unfolding all_under right bit place_under
returns-in-0 c = (mask_says yes_of _ 0 _ c.in-0.is refl, mask_says no_of _ 0 _ c.in-0.is refl)

pub returns-in-1 : goal.returns-in-1
unfolding all_under right bit place_under
returns-in-1 c = (mask_says yes_of _ 1 _ c.in-1.is refl, mask_says no_of _ 1 _ c.in-1.is refl)

pub returns-in-2 : goal.returns-in-2
unfolding all_under right bit place_under
returns-in-2 c = (mask_says yes_of _ 2 _ c.in-2.is refl, mask_says no_of _ 2 _ c.in-2.is refl)

pub returns-in-3 : goal.returns-in-3
unfolding all_under right bit place_under
returns-in-3 c = (mask_says yes_of _ 3 _ c.in-3.is refl, mask_says no_of _ 3 _ c.in-3.is refl)

pub returns-in-4 : goal.returns-in-4
unfolding all_under right bit place_under
returns-in-4 c = (mask_says yes_of _ 4 _ c.in-4.is refl, mask_says no_of _ 4 _ c.in-4.is refl)

pub returns-in_default : goal.returns-in_default
returns-in_default c = (mask_none yes_of _ refl (omega arith), mask_none no_of _ refl (omega arith))
