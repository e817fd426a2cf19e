-- For proofs: a list written over a buffer from a place on, and what a function does that puts a text there and answers the place after it.
-- Assumes nothing.
use Rattle.std.specs.Prelude.{◌≡◌, List, ◌++◌, ℕ, ◌+◌, ◌≤◌, length, take, drop}

-- words over a buffer, from a place on
unfoldable pub written : ℕ → List ℕ → List ℕ → List ℕ
written at ws buf = take at buf ++ (ws ++ drop (at + length ws) buf)

-- there was room for the text, and it was put there; the other bytes keep their values
pub record Puts (at : ℕ) (text buffer exit : List ℕ) (end : ℕ) : Type 0 where
  pub fits : at + length text ≤ length buffer
  pub place : end ≡ at + length text
  pub bytes : exit ≡ written at text buffer
