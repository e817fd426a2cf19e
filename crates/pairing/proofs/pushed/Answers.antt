-- `pairing::pushed` meets its contract. Assumes nothing.
use mathlib.Core.Path.{◌≡◌, sym, ap, ◌∙◌}
use mathlib.Core.Bool.{Bool}
use Prim.Native.Nat.{◌+◌, ◌*◌}
use native.Mathlib.Omega.{arith}
use Rattle.pairing.specs.Masks.{digit}
use Rattle.pairing.proofs.pushed.Goals as goal

pub returns-then-value : goal.returns-then-value
returns-then-value c = ap (λ (b : Bool). c.args.k * 2 + digit b) (sym c.if-value.true)

pub returns-else-value : goal.returns-else-value
returns-else-value c =
    let z : c.args.k * 2 ≡ c.args.k * 2 + 0 = omega arith in
    z ∙ ap (λ (b : Bool). c.args.k * 2 + digit b) (sym c.if-value.false)
