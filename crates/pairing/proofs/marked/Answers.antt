-- `pairing::marked` meets its contract. Assumes nothing.
use mathlib.Core.Path.{◌≡◌, ap}
use native.Mathlib.Omega.{arith}
use Rattle.pairing.specs.Masks.{digit}
use Rattle.pairing.proofs.Words.{digit_small}
use Rattle.pairing.proofs.marked.Goals as goal

pub overflow_add-result : goal.overflow_add-result
overflow_add-result c = omega (arith, c.pushed-k.ensures, digit_small c.args.second)

pub returns-then-first : goal.returns-then-first
returns-then-first c =
    let is = c.pushed-k.ensures in
    let few = digit_small c.args.second in
    let one : digit c.args.first ≡ 1 = ap digit c.if-first.true in record { high = omega (arith, is, few, one); low = omega (arith, is, few) }

pub returns-else-first : goal.returns-else-first
returns-else-first c =
    let is = c.pushed-k.ensures in
    let few = digit_small c.args.second in
    let none : digit c.args.first ≡ 0 = ap digit c.if-first.false in record { high = omega (arith, is, few, none); low = omega (arith, is, few) }
