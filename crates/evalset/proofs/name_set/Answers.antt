-- `evalset::name_set` meets its contract: four words of the name; from NAMES up no evaluation has the bit.
-- Assumes nothing.
use mathlib.Core.Path.{◌≡◌, sym, ap, ◌∙◌}
use mathlib.Core.Bool.{Bool, ◌&&◌}
use Prim.Native.Nat.{ℕ, ◌+◌, ◌*◌, ◌<◌}
use native.Mathlib.Omega.{arith}
use borrow.Author.Tests.{lt-ltb, le-ltb}
use Rattle.evalset.specs.Bit.{word_bits, bit}
use Rattle.evalset.specs.Sets.{room, name_set}
use Rattle.evalset.proofs.Members.{name_none}
use Rattle.evalset.proofs.Words.{Bits, made}
use Rattle.evalset.proofs.name_set.Goals as goal

-- a word of the name is one of its set
word_in : (i k w : ℕ) → k < 4 → ((e : ℕ) → e < word_bits → bit w e ≡ bit (word_bits * k + e) i) → Bits (name_set i) k w
unfolding room
word_in i k w l h e m = h e m ∙ sym (ap (λ (b : Bool). b && bit (word_bits * k + e) i) (lt-ltb (word_bits * k + e) room (omega arith)))

pub returns-then-i-lt-NAMES : goal.returns-then-i-lt-NAMES
returns-then-i-lt-NAMES c =
    let i = c.args.i in
    made (name_set i) _ _ _ _ (word_in i 0 _ (omega arith) c.name_word.ensures) (word_in i 1 _ (omega arith) c.name_word-then-i-lt-NAMES.ensures)
    (word_in i 2 _ (omega arith) c.name_word-then-i-lt-NAMES-2.ensures)
    (word_in i 3 _ (omega arith) c.name_word-then-i-lt-NAMES-3.ensures)
    (λ e l. ap (λ (b : Bool). b && bit e i) (le-ltb e room l))

pub returns-else-i-lt-NAMES : goal.returns-else-i-lt-NAMES
returns-else-i-lt-NAMES c = c.empty.ensures ∙ sym (name_none _ c.if-i-lt-NAMES.false)
