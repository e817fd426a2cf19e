-- What is computed: numbers put into a buffer from a place on; those that have no room are left out. Assumes nothing.
use Rattle.std.specs.Prelude.{◌≡◌, List, ℕ, ◌+◌, min, max, length}
use Rattle.std.proofs.lemmas.List.Edits.{sets}
use Rattle.lists.specs.Search.{collect, below}

-- the numbers stand from a place on, and the place behind the last that had room is answered; where there is no room at all it is the
-- first place. `kept` follows from `held`, and is stated so that a caller's proof finds it
pub record Puts (xs : List ℕ) (at : ℕ) (buffer exit : List ℕ) (end : ℕ) : Type 0 where
  pub held : exit ≡ sets buffer at xs
  pub kept : length exit ≡ length buffer
  pub place : end ≡ max at (min (at + length xs) (length buffer))

-- a list n times
abbrev pub times : ℕ → List ℕ → List ℕ
times n xs = collect (λ i. xs) (below n)
