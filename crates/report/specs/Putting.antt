-- For proofs: the rooms that the functions are lent; and the contract of `report` and `as_read` (`Reports`). Assumes nothing.
use Rattle.std.specs.Prelude.{◌≡◌, List, ℕ, ◌≤◌, length}
use Rattle.contact.specs.Question.{Question, plain, building}
use Rattle.lists.specs.Buffer.{over}

-- "an answered plan takes at most 530 words"; T-08: "One-building plans then have up to 255 points", and so 32,642 words
abbrev pub word_room : Question → ℕ
word_room plain = 530
word_room building = 32642

-- the text of the plan: a first line of 24 bytes, then 32 points of 147 and 496 contacts of 16, and for one building 255 and 32,385
abbrev pub text_room : Question → ℕ
text_room plain = 12664
text_room building = 555669

-- what the text for a sheet is given as: its length, and the text over the first bytes of the buffer
pub record Reports (text buffer : List ℕ) (length-of : ℕ) (exit : List ℕ) : Type 0 where
  pub counted : length-of ≡ length text
  pub fits : length-of ≤ length exit
  pub bytes : exit ≡ over text buffer
