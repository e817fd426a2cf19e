-- `pairing::zeros` meets its contract. Assumes nothing.
use mathlib.Core.Path.{◌≡◌, refl}
use Prim.Native.Nat.{ℕ}
use Rattle.lists.proofs.Lists.{repeated_at}
use Rattle.pairing.proofs.zeros.Goals as goal

pub returns : goal.returns
returns c = (refl, λ s. repeated_at (λ (x : ℕ). x ≡ 0) refl refl 1024 s)
