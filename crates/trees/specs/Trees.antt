-- What is meant: trees and their words (document 02, T-06). Assumes nothing.
use Rattle.std.specs.Prelude.{◌≡◌, ◌⊎◌, List, [], ◌∷◌, ◌++◌, ℕ, ◌+◌}

-- A branch is split on an atom, "first the branch with it true, then the one with it false", or it is closed, by the rule with
-- this number, "counted from 1", or "because no finite plan gives the decided atoms their values", or nothing is written of it.
pub data Tree : Type 0 where
  split : ℕ → Tree → Tree → Tree
  rule : ℕ → Tree
  floorless : Tree
  missing : Tree

-- "Kind 5 splits on the atom in bits 7..0", "Kind 6 .. the rule in bits 7..0", "Kind 7"; "unnamed bits zero"
abbrev pub split_word : ℕ → ℕ
split_word a = 0x50000000 + a

abbrev pub rule_word : ℕ → ℕ
rule_word k = 0x60000000 + k

abbrev pub floorless_word : ℕ
floorless_word = 0x70000000

-- "each branch before its parts"
abbrev pub words_of : Tree → List ℕ
words_of (split a t f) = split_word a ∷ (words_of t ++ words_of f)
words_of (rule k) = rule_word k ∷ []
words_of floorless = floorless_word ∷ []
words_of missing = []

-- no branch is missing
abbrev pub Whole : Tree → Type 0
Whole (split a t f) = Whole t × Whole f
Whole (rule k) = Unit {0}
Whole floorless = Unit {0}
Whole missing = ⊥

-- written as far as it goes, in the order of words: none of a branch before the branches ahead of it are whole
abbrev pub InOrder : Tree → Type 0
InOrder (split a t f) = (Whole t × InOrder f) ⊎ (InOrder t × (f ≡ missing))
InOrder (rule k) = Unit {0}
InOrder floorless = Unit {0}
InOrder missing = Unit {0}
