-- What is meant: the entry of the drawing program (document 02, T-11), by the number that it returns and every byte that it leaves in the lent
-- buffer. No algorithm: a sheet is refused by its row of the table of calls (`LoadRow`), its rules are the formulas fs that the grammar derives
-- (`AreRules`), and the plan is the one that the documents define for the plain question (`IsGiven`). Assumes nothing.
use Rattle.std.specs.Prelude.{List, [], ◌∷◌, ℕ, ◌+◌, ◌*◌, ◌/◌, ◌%◌, ◌≤◌, ◌<◌, length}
use Rattle.formula.specs.Formula.{Formula, Name}
use Rattle.lists.specs.Search.{collect}
use Rattle.contact.specs.Question.{plain, NoFloor}
use Rattle.lists.specs.Buffer.{over}
use Rattle.plan.specs.Words.{Plan, words_of}
use Rattle.plan.specs.Meant.{IsGiven}
use Rattle.table.specs.Sheet.{Text, lines_of, filled}
use Rattle.table.specs.Rules.{AreRules}
use Rattle.table.specs.Rows.{LoadRow}
use Rattle.table.specs.declared.Outcome.TheVariants as Outcome

-- "a lent buffer of bytes, four to a word, highest byte first"
abbrev pub word_bytes : ℕ → List ℕ
word_bytes w = (w / 0x1000000 % 256) ∷ (w / 0x10000 % 256) ∷ (w / 0x100 % 256) ∷ (w % 256) ∷ []

unfoldable pub bytes_of : List ℕ → List ℕ
bytes_of ws = collect word_bytes ws

-- "where one to three bytes left over hold no word"
abbrev pub room_of : List ℕ → ℕ
room_of buffer = length buffer / 4

-- "for a refusal its number times 2^32, its line times 2^16 .. and its place or what it carries, added up"
abbrev pub refusal_number : ℕ → ℕ → ℕ → ℕ
refusal_number number line carried = number * 0x100000000 + line * 0x10000 + carried

-- "The entry's limit is 8 points"
abbrev pub most : ℕ
most = 8

-- "It loads an empty table": the sheet is not refused, and these are its rules
pub record Loaded (file : Text) (fs : List (Formula Name)) : Type 0 where
  pub done : LoadRow file Outcome.Done
  pub rules : AreRules (filled (lines_of file)) fs

-- a refusal: its number, its line, and its place or what it carries
pub data Refuses (file : Text) (buffer : List ℕ) : ℕ → ℕ → ℕ → Type 0 where
  -- "load's own refusals first"
  sheet : {number line place : ℕ} → LoadRow file (Outcome.RefusedLine number line place) → Refuses file buffer number line place
  -- "then 18, carrying the points, where the plan has more than 8"; "line 0 for 18 and 12"
  many : {fs : List (Formula Name)} {p : Plan} → Loaded file fs → IsGiven plain fs p → most < length p.points
      → Refuses file buffer 18 0 (length p.points)
  -- "then 12", with the words needed
  short : {fs : List (Formula Name)} {p : Plan} → Loaded file fs → IsGiven plain fs p → length p.points ≤ most
      → room_of buffer < length (words_of p) → Refuses file buffer 12 0 (length (words_of p))

-- a sheet and a lent buffer: what is returned, and what the buffer then holds
pub data Draws (file : Text) (buffer : List ℕ) : ℕ → List ℕ → Type 0 where
  -- "Where the plan has up to 8 points, the words are those of the full question. It returns .. how many words the plan has"; what lies past
  -- the plan is kept, and so are the bytes left over
  given : {fs : List (Formula Name)} {p : Plan} → Loaded file fs → IsGiven plain fs p → length p.points ≤ most
      → length (words_of p) ≤ room_of buffer → Draws file buffer (length (words_of p)) (over (bytes_of (words_of p)) buffer)
  -- "0 for no plan": no finite floor, of any number of points, meets its rules; "what lies past it is kept, all of it where the answer is no plan"
  none : {fs : List (Formula Name)} → Loaded file fs → NoFloor plain fs → Draws file buffer 0 buffer
  -- a refusal changes no byte
  refused : {number line carried : ℕ} → Refuses file buffer number line carried → Draws file buffer (refusal_number number line carried) buffer
