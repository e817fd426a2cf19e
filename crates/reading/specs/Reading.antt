-- For proofs: what reading gives. Assumes nothing.
use Rattle.std.specs.Prelude.{ℕ, ◌+◌, ◌≤◌, Result, Ok, Err}
use Rattle.reading.specs.declared.ReadFailed.{ReadFailed}

-- the bytes that came, from a place on, are within n
abbrev pub Within : ℕ → ℕ → Result ℕ ReadFailed → Type 0
Within at n (Ok k) = at + k ≤ n
Within at n (Err _) = Unit {0}
