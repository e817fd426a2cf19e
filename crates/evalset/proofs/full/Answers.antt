-- `evalset::full` meets its contract: every word is ones.
-- Assumes nothing.
use mathlib.Core.Path.{sym, ◌∙◌}
use Prim.Native.Nat.{ℕ, ◌+◌, ◌*◌, ◌^◌, ◌-◌, ◌<◌}
use native.Mathlib.Omega.{arith}
use borrow.Author.Tests.{lt-ltb, le-ltb}
use Rattle.evalset.specs.Bit.{word_bits}
use Rattle.evalset.specs.Sets.{room, full_of}
use Rattle.evalset.proofs.Bits.{bit_ones}
use Rattle.evalset.proofs.Words.{Bits, made}
use Rattle.evalset.proofs.full.Goals as goal

ones : (k : ℕ) → k < 4 → Bits full_of k (2 ^ word_bits - 1)
unfolding room
ones k l e m = bit_ones word_bits e ∙ lt-ltb e word_bits m ∙ sym (lt-ltb (word_bits * k + e) room (omega arith))

pub returns : goal.returns
returns c = made full_of _ _ _ _ (ones 0 (omega arith)) (ones 1 (omega arith)) (ones 2 (omega arith)) (ones 3 (omega arith)) (λ e l. le-ltb e room l)
