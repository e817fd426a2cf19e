-- What is computed: the lines of a plan and of a tree word by word, so that they can be given in pieces; the contract of `building_piece` and
-- `why_piece`, and what an answer of `report_building` and of `why` says of the text, whose contracts are in Lent. The depths of a tree's words.
-- The claim `pieces_joined` of proofs/Claims.antt says that the pieces of a sheet, one after the other, are its text. Assumes nothing.
use Rattle.std.specs.Prelude.{◌≡◌, cond, List, [], ◌∷◌, ◌++◌, ℕ, zero, suc, ◌+◌, ◌-◌, ◌/◌, ◌%◌, ◌≤◌, ◌<◌, eqb, ltb, length, get_or, take, drop}
use Rattle.formula.specs.Formula.{Name}
use Rattle.lists.specs.Search.{collect, from}
use Rattle.lists.specs.Putting.{Puts}
use Rattle.trees.specs.Trees.{Tree, split, rule, floorless, missing, words_of}
use Rattle.table.specs.declared.AtomText.{AtomText}
use Rattle.report.specs.declared.TextAnswer.{TextAnswer}
use Rattle.report.specs.declared.Piece.{Piece}
use Rattle.report.specs.Lines.{head_line, point_line, contact_line, indented, split_text, rule_text, floorless_text}
use Rattle.report.specs.Putting.{Reports}

-- ---- the lines of a plan's words

-- the line of the word at index i, by its kind and the rest of its bits; the last word has none
abbrev pub kind_line : List Name → ℕ → ℕ → ℕ → List ℕ
kind_line names i kind body =
    cond (eqb kind 1) (head_line (body / 256) (body % 256))
    (cond (eqb kind 8) (head_line (body / 65536) (body % 65536))
    (cond (eqb kind 2) (point_line names (i - 1) (body % 256))
    (cond (eqb kind 3) (contact_line body) [])))

unfoldable pub plan_line : List Name → ℕ → ℕ → List ℕ
plan_line names i w = kind_line names i (w / 0x10000000) (w % 0x10000000)

unfoldable pub plan_line_at : List Name → List ℕ → ℕ → List ℕ
plan_line_at names words i = plan_line names i (get_or words i 0)

-- ---- the lines of a tree's words

-- what a word says, by its kind and the rest of its bits
abbrev pub word_text : (ℕ → List ℕ) → ℕ → ℕ → List ℕ
word_text atom kind body = cond (eqb kind 5) (split_text (atom body)) (cond (eqb kind 6) (rule_text body) floorless_text)

unfoldable pub saying : (ℕ → List ℕ) → ℕ → List ℕ
saying atom w = word_text atom (w / 0x10000000) (w % 0x10000000)

-- the texts of atoms that an array holds, by their numbers
unfoldable pub held : AtomText → List ℕ
held text = take text.len text.bytes

unfoldable pub held_at : List AtomText → ℕ → List ℕ
held_at atoms a = held (get_or atoms a (record { bytes = []; len = 0 }))

-- the line of the word at index i, from the words, their depths and the atoms' texts
unfoldable pub line_at : List ℕ → List ℕ → List AtomText → ℕ → List ℕ
line_at words depths atoms i = indented (get_or depths i 0) (saying (held_at atoms) (get_or words i 0))

-- ---- depths

-- the depth of each word of a tree whose first word has this one
abbrev pub depths_of : ℕ → Tree → List ℕ
depths_of depth (split a t f) = depth ∷ (depths_of (suc depth) t ++ depths_of (suc depth) f)
depths_of depth (rule k) = depth ∷ []
depths_of depth floorless = depth ∷ []
depths_of depth missing = []

-- a tree of words that are at most 16 deep, with numbers that words have room for: so are the trees of the writer
abbrev pub Shallow : ℕ → Tree → Type 0
Shallow depth (split a t f) = (depth < 16) × (a < 256) × Shallow (suc depth) t × Shallow (suc depth) f
Shallow depth (rule k) = k < 256
Shallow depth floorless = Unit {0}
Shallow depth missing = ⊥

-- where the words of such a tree stand, its depths are put at the same indices
unfoldable pub DepthsSay : List ℕ → ℕ → ℕ → List ℕ → List ℕ → ℕ → Type 0
DepthsSay words at depth buffer exit end =
    (t : Tree) (later : List ℕ) → drop at words ≡ words_of t ++ later → Shallow depth t → Puts at (depths_of depth t) buffer exit end

-- ---- the contracts

-- so many lines, from that of an index on
unfoldable pub lines_from : (ℕ → List ℕ) → ℕ → ℕ → List ℕ
lines_from line at count = collect line (from at count)

-- how many of the lines that are left a piece has, where so many bytes are used: as many whole lines as fit, which have up to 1,024 bytes, so
-- that one is put as long as no more than 15,360 of 16,384 are used
abbrev pub fitting : (ℕ → List ℕ) → ℕ → ℕ → ℕ → ℕ
fitting line zero at used = 0
fitting line (suc left) at used = let more = fitting line left (suc at) (used + length (line at)) in cond (ltb 15360 used) 0 (suc more)

-- the lines of a piece from an index on: none from `count` on
unfoldable pub piece_lines : (ℕ → List ℕ) → ℕ → ℕ → ℕ
piece_lines line count at = fitting line (count - at) at 0

-- the text is in the buffer, or it is that of the lines of so many words, and the buffer is as it was
pub data Answers (text : List ℕ) (line : ℕ → List ℕ) (buffer exit : List ℕ) : TextAnswer → Type 0 where
  short : {n : ℕ} → Reports text buffer n exit → Answers text line buffer exit (TextAnswer.Text n)
  lines : {n : ℕ} → lines_from line 0 n ≡ text → exit ≡ buffer → Answers text line buffer exit (TextAnswer.Lines n)

-- these lines are in the buffer, and the next is the one behind them; so all that are left are, or a line of 1,024 bytes has no room behind them
pub record GivesPiece (line : ℕ → List ℕ) (count at : ℕ) (buffer : List ℕ) (r : Piece) (exit : List ℕ) : Type 0 where
  pub next : r.next ≡ at + piece_lines line count at
  pub reports : Reports (lines_from line at (piece_lines line count at)) buffer r.len exit
  pub within : at ≤ count → r.next ≤ count
  pub full : r.next < count → 15360 < r.len
  pub forward : at < count → at < r.next

-- pieces from an index on: each is what is given from where the one before it ended, until there is none left
pub data Pieces (line : ℕ → List ℕ) (count : ℕ) : ℕ → List (List ℕ) → Type 0 where
  none : {at : ℕ} → count ≤ at → Pieces line count at []
  more : {at : ℕ} {buffer exit : List ℕ} {r : Piece} {pieces : List (List ℕ)} → at < count → GivesPiece line count at buffer r exit
      → Pieces line count r.next pieces → Pieces line count at (take r.len exit ∷ pieces)
