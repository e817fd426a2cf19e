-- What is meant: the remark on a refused sheet, which the programs that read sheets write to standard error beside their answer: the line as it
-- came, a caret under the place, and one sentence in plain words for the number, with what was expected where that is known. Number and place
-- are those of the table of calls (`add_outcome`). Assumes nothing.
use Rattle.std.specs.Prelude.{Option, Some, None, ◌≡◌, Bool, true, false, cond, List, [], ◌∷◌, ◌++◌, map, ℕ, ◌+◌, ◌-◌, min, ◌≤◌, ◌<◌, eqb, ltb, leb, length, get_or, take, drop, replicate}
use Prim.Native.String.{String}
use Rattle.lists.specs.Search.{collect, first}
use Rattle.lexer.specs.Text.{bytes, byte}
use Rattle.lexer.specs.Token.{Token}
use Rattle.lexer.specs.Cutting.{tokens, Cut}
use Rattle.syntax.specs.Grammar.{Begins}
use Rattle.syntax.specs.RuleText.{symbols_of}
use Rattle.syntax.specs.Rule.{rule_of}
use Rattle.syntax.specs.declared.RuleAnswer.{RuleAnswer}
use Rattle.table.specs.Sheet.{Text, lines_of}
use Rattle.table.specs.Numbers.{add_outcome}
use Rattle.table.specs.declared.LoadAnswer.{LoadAnswer}
use Rattle.table.specs.declared.Outcome.{Outcome}
use Rattle.report.specs.Lines.{labelled}
use Rattle.remarks.specs.declared.Expected.{Expected}

-- ---- the line as it came

-- "bytes that do not print as ".""
abbrev pub shown_byte : ℕ → ℕ
shown_byte b = cond (ltb b 32) (byte ".") (cond (ltb 126 b) (byte ".") b)

-- "cut with ".." at both ends where it is long"
abbrev pub dots : Bool → List ℕ
dots true = bytes ".."
dots false = []

-- at most 72 bytes of what is left of a line
unfoldable pub shown_part : Text → List ℕ
shown_part rest = map shown_byte (take 72 rest) ++ dots (ltb 72 (length rest)) ++ bytes "\n"

-- where the bytes that are shown begin: a line of at most 72 is shown whole, of a longer one 36 stand before the place
unfoldable pub shown_from : Text → ℕ → ℕ
shown_from line place = cond (ltb 72 (length line)) (place - 36) 0

-- what stands before them
unfoldable pub leading : ℕ → ℕ → List ℕ
leading number from = labelled (bytes "line ") number ++ bytes ": " ++ dots (ltb 0 from)

-- ---- what was expected

-- a text of n bytes is a formula, or ends too early to be one
abbrev pub begins : ℕ → RuleAnswer → Bool
begins n RuleAnswer.Formula = true
begins n RuleAnswer.TooLong = false
begins n RuleAnswer.NoToken = false
begins n (RuleAnswer.ForeignByte i) = false
begins n (RuleAnswer.LongName i) = false
begins n (RuleAnswer.Measured i) = false
begins n (RuleAnswer.GrammarAt i) = eqb i n

-- what stands before the place, and these bytes behind a blank
abbrev pub gone_on : Text → ℕ → Text → Text
gone_on text place next = take place text ++ bytes " " ++ next

-- the tokens of a text begin a formula
pub record BeginsRule (s : Text) : Type 0 where
  pub cut_tokens : List Token
  pub cut : Cut 0 s (tokens cut_tokens)
  pub begun : Begins (symbols_of s cut_tokens)

-- they can stand at the place: the tokens up to it and these begin a formula, as the reader finds (`stands_begins` of proofs/Claims.antt)
unfoldable pub can_stand : Text → ℕ → Text → Bool
can_stand text place next = begins (length (gone_on text place next)) (rule_of (gone_on text place next)).answer

-- what is tried, in this order: a formula and a region by one of them
abbrev pub spelling : Expected → Text
spelling Expected.Formula = bytes "T"
spelling Expected.Region = bytes "a"
spelling Expected.Opening = bytes "("
spelling Expected.Comma = bytes ","
spelling Expected.Closing = bytes ")"
spelling Expected.Zero = bytes "=0"
spelling Expected.Sign = bytes "&"

abbrev pub tried : List Expected
tried = Expected.Formula ∷ Expected.Region ∷ Expected.Opening ∷ Expected.Comma ∷ Expected.Closing ∷ Expected.Zero ∷ Expected.Sign ∷ []

abbrev pub or_nothing : List Expected → Option Expected
or_nothing [] = None
or_nothing (e ∷ es) = Some e

-- the first that can stand at the place
unfoldable pub expected_at : Text → ℕ → Option Expected
expected_at text place = or_nothing (first (λ e. can_stand text place (spelling e)) tried)

-- in words
abbrev pub named : Expected → List ℕ
named Expected.Formula = bytes ": a formula or a region"
named Expected.Region = bytes ": a region"
named Expected.Opening = bytes ": an opening parenthesis"
named Expected.Comma = bytes ": a comma"
named Expected.Closing = bytes ": a closing parenthesis"
named Expected.Zero = bytes ": =0"
named Expected.Sign = bytes ": a sign such as & or |"

-- and with a text behind them
abbrev pub about : Option Expected → List ℕ → List ℕ
about (Some e) tail = named e ++ tail
about None tail = []

-- ---- the sentences

-- refusal 6: "the rule ends too early: a region is missing here"
unfoldable pub grammar_sentence : Text → ℕ → List ℕ
grammar_sentence text place =
    cond (leb (length text) place) (bytes "the rule ends too early" ++ about (expected_at text place) (bytes " is missing here"))
    (bytes "this cannot stand here" ++ about (expected_at text place) (bytes " is expected"))

pub record Sentence : Type 0 where
  pub number : ℕ
  pub words : List ℕ

abbrev pub says : ℕ → String → Sentence
says n words = record { number = n; words = bytes words }

-- the other refusals of a line, by their numbers: those of a sheet, and then those of a log
unfoldable pub sentences : List Sentence
sentences =
    says 1 "there is nothing in this rule"
    ∷ says 2 "a rule has at most 256 bytes"
    ∷ says 3 "this byte has no meaning here"
    ∷ says 4 "a name has at most 16 letters and digits"
    ∷ says 5 "the measured comparison <=m is not part of this tool"
    ∷ says 7 "this is the ninth name, and a table has at most 8"
    ∷ says 8 "with this rule there are more than 16 different atoms (C, <= and =0 with their terms)"
    ∷ says 9 "16 rules stand already"
    ∷ says 10 "no rule with this number stands"
    ∷ says 11 "no rule stands, so there is nothing to ask"
    ∷ says 19 "a line is + and a rule, - and a number from 1 to 9999, or ? alone"
    ∷ []

-- the sentence for a rule's text that is refused at a place; another number has none
unfoldable pub sentence : ℕ → Text → ℕ → List ℕ
sentence refusal text place =
    cond (eqb refusal 6) (grammar_sentence text place) (collect (λ (s : Sentence). s.words) (first (λ (s : Sentence). eqb refusal s.number) sentences))

-- ---- the two lines

-- "a caret under the place, and one sentence in plain words for the number"
unfoldable pub said : ℕ → List ℕ → List ℕ
said refusal words = bytes "^ " ++ words ++ labelled (bytes " (refusal ") refusal ++ bytes ")\n"

-- the line with its number, and behind as many blanks as stand before the place in it, the caret; a place past the line's end counts as its end
unfoldable pub two_lines : ℕ → Text → ℕ → ℕ → List ℕ → List ℕ
two_lines number line place refusal words =
    let at = min place (length line) in
    let from = shown_from line at in
    leading number from ++ shown_part (drop from line) ++ replicate (length (leading number from) + (at - from)) (byte " ") ++ said refusal words

-- "a caret under the place": before the place the first line has the bytes that are shown, and as many blanks stand before the caret, with which
-- the second begins (`caret_under` of proofs/Claims.antt)
pub record Under (number : ℕ) (line : Text) (place : ℕ) (words text : List ℕ) : Type 0 where
  pub from : ℕ
  -- the byte at the place is one of those that are shown
  pub shown : (from ≤ place) × (place < length line → place < from + 72)
  pub before : List ℕ
  pub behind : List ℕ
  pub before_is : before ≡ leading number from ++ map shown_byte (take (place - from) (drop from line))
  pub behind_is : behind ≡ map shown_byte (take (from + 72 - place) (drop place line)) ++ dots (ltb 72 (length (drop from line)))
  pub lines : text ≡ before ++ (behind ++ bytes "\n") ++ replicate (length before) (byte " ") ++ words

-- ---- a sheet

-- a line of a sheet that is answered so; what is no refusal gets no remark
abbrev pub line_remark : ℕ → Text → Outcome → List ℕ
line_remark number line Outcome.Done = []
line_remark number line (Outcome.Plan words) = []
line_remark number line Outcome.NoPlan = []
line_remark number line Outcome.Yes = []
line_remark number line (Outcome.Unmet rule) = []
line_remark number line (Outcome.Text n) = []
line_remark number line (Outcome.Tree n) = []
line_remark number line Outcome.Closed = []
line_remark number line Outcome.AsDrawn = []
line_remark number line Outcome.No = []
line_remark number line (Outcome.Clash n) = []
line_remark number line (Outcome.Refused refusal place) = two_lines number line place refusal (sentence refusal line place)
line_remark number line (Outcome.RefusedLine refusal on place) = []

-- "For 15 and 1 of a whole sheet one sentence without a line"; lines are counted from 1
unfoldable pub remark_of : Text → LoadAnswer → List ℕ
remark_of sheet LoadAnswer.Loaded = []
remark_of sheet LoadAnswer.FileTooLong = bytes "this sheet has more than 8,192 bytes: none of it was read (refusal 15)\n"
remark_of sheet LoadAnswer.AllBlank = bytes "this sheet has no rule in it: it is refused, not taken for one that holds (refusal 1)\n"
remark_of sheet (LoadAnswer.Line n a) = line_remark n (get_or (lines_of sheet) (n - 1) []) (add_outcome a)
