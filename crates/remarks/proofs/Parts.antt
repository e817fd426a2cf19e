-- Laws of the parts of a remark: a line of a sheet, the part of it that is shown, and a text that is read on. Assumes nothing.
use Rattle.std.specs.Prelude.{Option}
use mathlib.Core.Path.{◌≡◌, refl, sym, ap, ap₂, ◌∙◌}
use mathlib.Core.Bool.{false}
use mathlib.Core.List.{List, [], ◌∷◌, ◌++◌, map, append-nil, append_assoc}
use mathlib.Core.Logic.{⊎_elim}
use Prim.Native.Nat.{ℕ, zero, suc, ◌+◌, ◌-◌, ◌^◌, min, ◌≤◌, ◌<◌}
use native.Mathlib.Omega.{arith}
use lib.ListN.{length, get_or, take, drop, replicate, length-append, length-take, length-drop, length-map, replicate-append-replicate}
use lib.Seq.{take_all, take-append_seam}
use lib.Dec.{ltb}
use borrow.Author.Tests.{eq-eqb, ne_eqb, le-leb, lt-leb}
use types.Run.{OneOf, miss}
use denote.Enum.Declared.{tag_of}
use Rattle.lists.specs.Buffer.{over}
use Rattle.lists.specs.Putting.{Puts}
use Rattle.lists.proofs.Putting.{puts_text}
use Rattle.lists.proofs.Truth.{side}
use Rattle.lists.proofs.Lists.{rest, take_next, map_at, map_take}
use Rattle.lexer.specs.Text.{bytes}
use Rattle.syntax.specs.Rule.{rule_of}
use Rattle.syntax.specs.RuleText.{Answers}
use Rattle.syntax.specs.declared.Rule.{Rule}
use Rattle.syntax.specs.declared.RuleAnswer.{RuleAnswer}
use Rattle.syntax.specs.contracts.RuleAnswer.{the_type}
use Rattle.syntax.proofs.Claims.{text_answered_only}
use Rattle.table.specs.Sheet.{Text, lines_of, on_first}
use Rattle.table.specs.declared.Outcome.{Outcome}
use Rattle.table.specs.contracts.Outcome.{the_type as outcome-type}
use Rattle.report.specs.Lines.{decimal}
use Rattle.report.proofs.Digits.{decimal_few}
use Rattle.report.proofs.Putting.{puts_over}
use Rattle.remarks.specs.declared.Expected.{Expected}
use Rattle.remarks.specs.Remark.{shown_byte, dots, shown_part, shown_from, leading, begins, gone_on, can_stand, expected_at, about, grammar_sentence, sentences, sentence, said, two_lines, line_remark}

pub digits_few : (n : ℕ) → n < 2 ^ 64 → length (decimal n) ≤ 20
digits_few n h = decimal_few 19 n (omega arith)

-- the first n bytes, where there are fewer
pub take_within : (n : ℕ) (l : List ℕ) → take (min n (length l)) l ≡ take n l
take_within n l =
    ⊎_elim (λ h. let e : min n (length l) ≡ n = omega arith in ap (λ (k : ℕ). take k l) e)
    (λ h. take_all (min n (length l)) l (omega arith) ∙ sym (take_all n l (omega arith)))
    (side n (length l))

-- ---- the line as it came

pub shown_more : (s : List ℕ) (i b : ℕ) → i < length s → b ≡ shown_byte (get_or s i 0)
    → map shown_byte (take i s) ++ b ∷ [] ≡ map shown_byte (take (i + 1) s)
shown_more s i b h e =
    ap₂ (λ (l : List ℕ) (x : ℕ). l ++ x ∷ []) (map_take shown_byte i s) (e ∙ sym (map_at shown_byte s i 0 0 h))
    ∙ sym (map_take shown_byte (i + 1) s ∙ take_next (map shown_byte s) i 0 (rw (length-map s shown_byte) h))

-- one blank more
pub blank_more : (i b : ℕ) → replicate i b ++ b ∷ [] ≡ replicate (i + 1) b
blank_more i b = replicate-append-replicate i 1 b

-- ---- lines

on_first_later : (b : ℕ) (ls : List Text) (k : ℕ) → get_or (on_first b ls) (suc k) [] ≡ get_or ls (suc k) []
unfolding on_first
on_first_later b [] k = refl
on_first_later b (l ∷ ls) k = refl

on_first_lem : (b : ℕ) (ls : List Text) → get_or (on_first b ls) 0 [] ≡ b ∷ get_or ls 0 []
unfolding on_first
on_first_lem b [] = refl
on_first_lem b (l ∷ ls) = refl

-- where some lines are still to be passed, a byte is passed, and a line with byte 10
module _ (s : Text) (i left : ℕ) (h : i < length s) (l : 1 < left) where
  pub line_passed : get_or s i 0 ≡ 10 → get_or (lines_of (drop i s)) (left - 1) [] ≡ get_or (lines_of (drop (i + 1) s)) (left - 1 - 1) []
  unfolding lines_of
  line_passed e =
      let k : left - 1 ≡ suc (left - 1 - 1) = omega arith in
      rw (rest s i 0 h, eq-eqb (get_or s i 0) 10 e) (ap (λ (n : ℕ). get_or ([] ∷ lines_of (drop (i + 1) s)) n []) k)

  pub byte_passed : (get_or s i 0 ≡ 10 → ⊥) → get_or (lines_of (drop i s)) (left - 1) [] ≡ get_or (lines_of (drop (i + 1) s)) (left - 1) []
  unfolding lines_of
  byte_passed n =
      let k : left - 1 ≡ suc (left - 1 - 1) = omega arith in
      rw (rest s i 0 h, ne_eqb (get_or s i 0) 10 n)
      (ap (λ (n : ℕ). get_or (on_first (get_or s i 0) (lines_of (drop (i + 1) s))) n []) k ∙ on_first_later (get_or s i 0) (lines_of (drop (i + 1) s)) (left - 1 - 1) ∙ ap (λ (n : ℕ). get_or (lines_of (drop (i + 1) s)) n []) (sym k))

-- what is left of no byte is one line of none, whichever is asked for
pub line_past : (k : ℕ) → get_or (lines_of []) k [] ≡ []
unfolding lines_of
line_past zero = refl
line_past (suc k) = refl

-- the first line so far
module _ (s : Text) (i : ℕ) where
  pub line_next : i < length s → (get_or s i 0 ≡ 10 → ⊥)
      → take i s ++ get_or (lines_of (drop i s)) 0 [] ≡ take (i + 1) s ++ get_or (lines_of (drop (i + 1) s)) 0 []
  unfolding lines_of
  line_next h n =
      rw (rest s i 0 h, ne_eqb (get_or s i 0) 10 n)
      (ap (λ (l : List ℕ). take i s ++ l) (on_first_lem (get_or s i 0) (lines_of (drop (i + 1) s)))
      ∙ sym (ap (λ (l : List ℕ). l ++ get_or (lines_of (drop (i + 1) s)) 0 []) (take_next s i 0 h) ∙ append_assoc (take i s) (get_or s i 0 ∷ []) (get_or (lines_of (drop (i + 1) s)) 0 [])))

  pub line_cut : i < length s → get_or s i 0 ≡ 10 → take i s ++ get_or (lines_of (drop i s)) 0 [] ≡ take i s
  unfolding lines_of
  line_cut h e = rw (rest s i 0 h, eq-eqb (get_or s i 0) 10 e, append-nil)

-- ---- a text that is read on

pub taken : (text buffer exit : List ℕ) (end : ℕ) → Puts 0 text buffer exit end → take end exit ≡ text
unfolding over
taken text buffer exit end p =
    let r = puts_over text buffer exit end p in
    ap₂ take r.counted r.bytes ∙ take-append_seam text (drop (length text) buffer)

-- a text of more than 256 bytes begins nothing
pub never_long : (text : Text) (place : ℕ) (next : Text) → 256 < min place (length text) → can_stand text place next ≡ false
unfolding can_stand
never_long text place next h =
    let whole = gone_on text place next in
    let long : 256 < length whole = omega (arith, length-append (take place text ++ bytes " ") next, length-append (take place text) (bytes " "), length-take place text) in
    sym (ap (begins (length whole)) (text_answered_only whole RuleAnswer.TooLong (Answers.too_long long)))

-- an answer that is neither begins nothing
pub begins_none : (n : ℕ) (a : RuleAnswer) → OneOf (1 ∷ 2 ∷ 3 ∷ 4 ∷ 5 ∷ []) (tag_of the_type a) → begins n a ≡ false
begins_none n RuleAnswer.Formula h = absurd (miss (1 ∷ 2 ∷ 3 ∷ 4 ∷ 5 ∷ []) 0 tt h)
begins_none n RuleAnswer.TooLong h = refl
begins_none n RuleAnswer.NoToken h = refl
begins_none n (RuleAnswer.ForeignByte i) h = refl
begins_none n (RuleAnswer.LongName i) h = refl
begins_none n (RuleAnswer.Measured i) h = refl
begins_none n (RuleAnswer.GrammarAt i) h = absurd (miss (1 ∷ 2 ∷ 3 ∷ 4 ∷ 5 ∷ []) 6 tt h)

-- what was put and read begins a formula exactly where it can stand
pub read_on : (text : Text) (place before : ℕ) (next : Text) {buffer exit : List ℕ} {end : ℕ} {r : Rule} → before ≡ min place (length text)
    → Puts 0 (take before text ++ bytes " " ++ next) buffer exit end → r ≡ rule_of (take end exit) → begins end r.answer ≡ can_stand text place next
unfolding can_stand
read_on text place before next {buffer} {exit} {end} {r} e p read =
    let w : take before text ++ bytes " " ++ next ≡ gone_on text place next = ap (λ (l : List ℕ). l ++ bytes " " ++ next) (ap (λ (k : ℕ). take k text) e ∙ take_within place text) in
    let n : end ≡ length (gone_on text place next) = omega (arith, p.place, ap length w) in
    ap₂ begins n (ap (λ (x : Rule). x.answer) (read ∙ ap rule_of (taken _ buffer exit end p ∙ w)))

-- ---- the sentences

-- refusal 6, by its place
module _ (text : Text) (place : ℕ) {e : Option Expected} (known : e ≡ expected_at text place) where
  pub ends_early : length text ≤ place → bytes "the rule ends too early" ++ about e (bytes " is missing here") ≡ grammar_sentence text place
  unfolding grammar_sentence
  ends_early h = rw (le-leb (length text) place h) (ap (λ (x : Option Expected). bytes "the rule ends too early" ++ about x (bytes " is missing here")) known)

  pub cannot_stand : place < length text → bytes "this cannot stand here" ++ about e (bytes " is expected") ≡ grammar_sentence text place
  unfolding grammar_sentence
  cannot_stand h = rw (lt-leb (length text) place h) (ap (λ (x : Option Expected). bytes "this cannot stand here" ++ about x (bytes " is expected")) known)

-- the number is known
module _ {refusal : ℕ} (text : Text) (place : ℕ) where
  pub sentence_told : (k : ℕ) {at : ℕ} {buffer exit : List ℕ} {end : ℕ} → refusal ≡ k → Puts at (sentence k text place) buffer exit end
      → Puts at (sentence refusal text place) buffer exit end
  sentence_told k e h = puts_text (ap (λ (n : ℕ). sentence n text place) (sym e)) h

  -- none of those that have one
  pub no_sentence : (refusal ≡ 1 → ⊥) → (refusal ≡ 2 → ⊥) → (refusal ≡ 3 → ⊥) → (refusal ≡ 4 → ⊥) → (refusal ≡ 5 → ⊥) → (refusal ≡ 6 → ⊥)
      → (refusal ≡ 7 → ⊥) → (refusal ≡ 8 → ⊥) → (refusal ≡ 9 → ⊥) → (refusal ≡ 10 → ⊥) → (refusal ≡ 11 → ⊥) → (refusal ≡ 19 → ⊥)
      → [] ≡ sentence refusal text place
  unfolding sentence sentences
  no_sentence a b c d e f g h i j k l =
      rw (ne_eqb refusal 6 f, ne_eqb refusal 1 a, ne_eqb refusal 2 b, ne_eqb refusal 3 c, ne_eqb refusal 4 d, ne_eqb refusal 5 e, ne_eqb refusal 7 g, ne_eqb refusal 8 h, ne_eqb refusal 9 i, ne_eqb refusal 10 j, ne_eqb refusal 11 k, ne_eqb refusal 19 l)

-- ---- the two lines

-- a part from a place on
pub part_from : (l : List ℕ) (from : ℕ) → take (length l - from) (drop from l) ≡ drop from l
part_from l from = take_all (length l - from) (drop from l) (omega (arith, length-drop from l))

pub shown_within : (rest : Text) (n : ℕ) → n ≡ min 72 (length rest) → map shown_byte (take n rest) ++ dots (ltb 72 (length rest)) ++ bytes "\n" ≡ shown_part rest
unfolding shown_part
shown_within rest n e = ap (λ (l : List ℕ). map shown_byte l ++ dots (ltb 72 (length rest)) ++ bytes "\n") (ap (λ (k : ℕ). take k rest) e ∙ take_within 72 rest)

pub shown_few : (rest : Text) (n : ℕ) → n ≡ min 72 (length rest) → length (map shown_byte (take n rest)) ≤ 72
shown_few rest n e = omega (arith, length-map (take n rest) shown_byte, length-take n rest)

pub lines_put : (number : ℕ) (line : Text) (place refusal : ℕ) (words : List ℕ) (at from lead : ℕ) → at ≡ min place (length line)
    → from ≡ shown_from line at → lead ≡ length (leading number from)
    → leading number from ++ shown_part (take (length line - from) (drop from line)) ++ replicate (lead + (at - from)) 32 ++ said refusal words
    ≡ two_lines number line place refusal words
unfolding two_lines
lines_put number line place refusal words at from lead e f g =
    let whole : ℕ → ℕ → List ℕ = λ a x. leading number x ++ shown_part (drop x line) ++ replicate (length (leading number x) + (a - x)) 32 ++ said refusal words in
    ap₂ (λ (l : List ℕ) (n : ℕ). leading number from ++ shown_part l ++ replicate (n + (at - from)) 32 ++ said refusal words) (part_from line from) g
    ∙ ap (whole at) f ∙ ap (λ (a : ℕ). whole a (shown_from line a)) e

-- the place counts up to the line's end alone
pub same_caret : (number : ℕ) (line : Text) (p q refusal : ℕ) (words : List ℕ) → min p (length line) ≡ min q (length line)
    → two_lines number line p refusal words ≡ two_lines number line q refusal words
unfolding two_lines
same_caret number line p q refusal words e =
    ap (λ (a : ℕ). leading number (shown_from line a) ++ shown_part (drop (shown_from line a) line) ++ replicate (length (leading number (shown_from line a)) + (a - shown_from line a)) 32 ++ said refusal words) e

-- ---- a sheet

-- an outcome that is no refusal
pub no_remark : (number : ℕ) (line : Text) (o : Outcome) → OneOf (0 ∷ 1 ∷ 2 ∷ 3 ∷ 4 ∷ 5 ∷ 6 ∷ 7 ∷ 8 ∷ 9 ∷ 10 ∷ 12 ∷ []) (tag_of outcome-type o) → [] ≡ line_remark number line o
no_remark number line Outcome.Done h = refl
no_remark number line (Outcome.Plan words) h = refl
no_remark number line Outcome.NoPlan h = refl
no_remark number line Outcome.Yes h = refl
no_remark number line (Outcome.Unmet rule) h = refl
no_remark number line (Outcome.Text n) h = refl
no_remark number line (Outcome.Tree n) h = refl
no_remark number line Outcome.Closed h = refl
no_remark number line Outcome.AsDrawn h = refl
no_remark number line Outcome.No h = refl
no_remark number line (Outcome.Clash n) h = refl
no_remark number line (Outcome.Refused refusal place) h = absurd (miss (0 ∷ 1 ∷ 2 ∷ 3 ∷ 4 ∷ 5 ∷ 6 ∷ 7 ∷ 8 ∷ 9 ∷ 10 ∷ 12 ∷ []) 11 tt h)
no_remark number line (Outcome.RefusedLine refusal on place) h = refl

-- the line that was found
pub found : (sheet : Text) (number from len : ℕ) → get_or (lines_of (drop from sheet)) 0 [] ≡ get_or (lines_of sheet) (number - 1) []
    → take len (take (length sheet - from) (drop from sheet)) ≡ get_or (lines_of (take (length sheet - from) (drop from sheet))) 0 []
    → take len (take (length sheet - from) (drop from sheet)) ≡ get_or (lines_of sheet) (number - 1) []
found sheet number from len e f = f ∙ ap (λ (l : Text). get_or (lines_of l) 0 []) (part_from sheet from) ∙ e

pub refused_line : (number : ℕ) {line found : Text} {o : Outcome} (refusal place : ℕ) → line ≡ found → o ≡ Outcome.Refused refusal place
    → two_lines number line place refusal (sentence refusal line place) ≡ line_remark number found o
refused_line number {line} {found} refusal place e f =
    ap (λ (l : Text). two_lines number l place refusal (sentence refusal l place)) e ∙ sym (ap (line_remark number found) f)
