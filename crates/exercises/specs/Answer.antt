-- What is computed: what `book` answers, and every byte of the lent buffer after it. Assumes nothing.
use Rattle.std.specs.Prelude.{◌≡◌, Bool, cond, List, ℕ, leb, length, Result, Ok, Err}
use Rattle.lists.specs.Buffer.{over}
use Rattle.lists.specs.declared.ShortBuffer.{ShortBuffer}

-- the text has room in the buffer
abbrev pub fits : List ℕ → List ℕ → Bool
fits text buffer = leb (length text) (length buffer)

-- the length written, and the bytes past it as they were; of a buffer that is too short the bytes needed, and all bytes as they were
pub record Gives (text buffer : List ℕ) (r : Result ℕ ShortBuffer) (exit : List ℕ) : Type 0 where
  pub answer : r ≡ cond (fits text buffer) (Ok (length text)) (Err (record { needed = length text }))
  pub bytes : exit ≡ cond (fits text buffer) (over text buffer) buffer
