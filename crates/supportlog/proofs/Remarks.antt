-- The remark on a line of a log: its caret and its rule's text by the line's form, and the line that is next. Assumes nothing.
use mathlib.Core.Path.{◌≡◌, refl, sym, ap, ap₂, ◌∙◌}
use mathlib.Core.List.{List, [], ◌∷◌}
use mathlib.Core.Logic.{◌⊎◌, ⊎_elim}
use Prim.Native.Nat.{ℕ, ◌+◌, ◌-◌, min, ◌≤◌, ◌<◌}
use native.Mathlib.Omega.{arith}
use lib.ListN.{length, take, drop, drop_of_length-le}
use borrow.Author.Tests.{lt-ltb, le-ltb}
use types.Run.{OneOf, miss}
use denote.Enum.Declared.{tag_of}
use Rattle.lexer.specs.Text.{bytes}
use Rattle.table.specs.Sheet.{Text}
use Rattle.remarks.specs.Remark.{sentence, two_lines}
use Rattle.remarks.proofs.Parts.{same_caret, part_from}
use Rattle.supportlog.specs.declared.Form.{Form}
use Rattle.supportlog.specs.declared.LineAnswer.{LineAnswer}
use Rattle.supportlog.specs.contracts.Form.{the_type as form_type_lem}
use Rattle.supportlog.specs.contracts.LineAnswer.{the_type as answer-type}
use Rattle.supportlog.specs.Lines.{split_log, without_return, add, IsLine}
use Rattle.table.specs.Rules.{CanStand}
use Rattle.table.specs.Rows.{AddRow}
use Rattle.table.specs.declared.Outcome.TheVariants as Outcome
use Rattle.supportlog.specs.Answers.{room, Answer, refused, LineRow, not_added}
use Rattle.supportlog.specs.Run.{form_of, answer_by}
use Rattle.supportlog.specs.Steps.{answer_for, blank}
use Rattle.supportlog.proofs.Forms.{form_only}
use Rattle.supportlog.proofs.LineOnly.{tail_of, line_only, blank_size}
use Rattle.supportlog.specs.Remarks.{caret_at, answer_remark, line_remark, next_remark, remark_at}

-- a line of another form has the caret under its first byte
pub caret_first : (form : Form) (carried : ℕ) → OneOf (2 ∷ 3 ∷ []) (tag_of form_type_lem form) → 0 ≡ caret_at form carried
caret_first Form.Add carried h = absurd (miss (2 ∷ 3 ∷ []) 0 tt h)
caret_first (Form.Withdraw k) carried h = absurd (miss (2 ∷ 3 ∷ []) 1 tt h)
caret_first Form.Ask carried h = refl
caret_first Form.Other carried h = refl

-- what is not refused
pub no_remark : (number : ℕ) (line : Text) (form : Form) (answer : LineAnswer) → OneOf (0 ∷ 1 ∷ 2 ∷ 3 ∷ []) (tag_of answer-type answer)
    → [] ≡ answer_remark number line form answer
no_remark number line form LineAnswer.Added h = refl
no_remark number line form LineAnswer.Withdrawn h = refl
no_remark number line form (LineAnswer.Plan n) h = refl
no_remark number line form LineAnswer.NoPlan h = refl
no_remark number line form (LineAnswer.Refused refusal carried) h = absurd (miss (0 ∷ 1 ∷ 2 ∷ 3 ∷ []) 4 tt h)

-- the text without its sign, if it has one
pub without_sign : (text : Text) (sign : ℕ) → ((length text ≤ 0) × (sign ≡ 0)) ⊎ ((0 < length text) × (sign ≡ 1)) → take (length text - sign) (drop sign text) ≡ drop 1 text
without_sign text sign came =
    part_from text sign
    ∙ ⊎_elim (λ w. ap (λ (k : ℕ). drop k text) w.1 ∙ none text w.0) (λ w. ap (λ (k : ℕ). drop k text) w.1) came
  where
    none : (t : Text) → length t ≤ 0 → drop 0 t ≡ drop 1 t
    none [] h = refl
    none (b ∷ t) h = absurd (omega arith)

pub refused_remark : (number : ℕ) (line text : Text) (refusal carried caret : ℕ) {answer : LineAnswer} {form : Form} {part : Text}
    → answer ≡ LineAnswer.Refused refusal carried → text ≡ without_return line → form ≡ form_of text
    → min caret (length line) ≡ min (caret_at form carried) (length line) → part ≡ drop 1 text
    → two_lines number line caret refusal (sentence refusal part carried) ≡ answer_remark number line (form_of (without_return line)) answer
refused_remark number line text refusal carried caret {answer} {form} {part} a t f c s =
    same_caret number line caret (caret_at form carried) refusal (sentence refusal part carried) c
    ∙ ap₂ (λ (x : Form) (l : Text). two_lines number line (caret_at x carried) refusal (sentence refusal l carried)) (f ∙ ap form_of t) (s ∙ ap (drop 1) t)
    ∙ sym (ap (answer_remark number line (form_of (without_return line))) a)

-- ---- the next line

module _ (log : Text) (rs : List Text) (from number : ℕ) where
  pub past_end : length log ≤ from → [] ≡ remark_at log rs from number
  unfolding remark_at split_log
  past_end h = sym (ap (λ (l : Text). next_remark (length log) rs number (split_log l)) (drop_of_length-le log {i = from} h))

  module _ {line : Text} {lines : List Text} (cut : split_log (drop from log) ≡ line ∷ lines) where
    pub too_long : 8192 < length log → bytes "this log has more than 8,192 bytes: none of it was run (refusal 15)\n" ≡ remark_at log rs from number
    unfolding remark_at
    too_long h = sym (ap (next_remark (length log) rs number) cut ∙ rw (lt-ltb 8192 (length log) h))

    pub line_run : length log ≤ 8192 → (text : Text) (words : List ℕ) {answer : LineAnswer} → text ≡ without_return line → length words ≡ room
        → answer ≡ answer_by (form_of text) rs text (length words) → answer_remark number line (form_of (without_return line)) answer ≡ remark_at log rs from number
    unfolding remark_at line_remark
    line_run h text words t n a =
        ap (answer_remark number line (form_of (without_return line))) (a ∙ ap₂ (λ (l : Text) (k : ℕ). answer_by (form_of l) rs l k) t n)
        ∙ sym (ap (next_remark (length log) rs number) cut ∙ rw (le-ltb 8192 (length log) h))

-- ---- what is meant

-- a refusal is a refused answer's alone
refused_answer : (a : LineAnswer) (words : List ℕ) {k c : ℕ} → refused k c ≡ answer_for a words → a ≡ LineAnswer.Refused k c
refused_answer LineAnswer.Added words e = absurd (let z : ◌≡◌ {A = ℕ} 0 1 = cc in omega arith)
refused_answer LineAnswer.Withdrawn words e = absurd (let z : ◌≡◌ {A = ℕ} 0 1 = cc in omega arith)
refused_answer (LineAnswer.Plan n) words e = absurd (let z : ◌≡◌ {A = ℕ} 0 1 = cc in omega arith)
refused_answer LineAnswer.NoPlan words e = absurd (let z : ◌≡◌ {A = ℕ} 0 1 = cc in omega arith)
refused_answer (LineAnswer.Refused k' c') words {k} {c} e = let x : k' ≡ k = cc in let y : c' ≡ c = cc in ap₂ LineAnswer.Refused x y

module _ (rs : List Text) (stand : CanStand rs) (number : ℕ) (l : Text) where
  abbrev text : Text
  text = without_return l

  abbrev answered : LineAnswer
  answered = answer_by (form_of text) rs text room

  -- of a line that is refused by its row
  pub row_remark : {k c : ℕ} {ss : List Text} → LineRow rs text (refused k c) ss
      → line_remark rs number l ≡ two_lines number l (caret_at (form_of text) c) k (sentence k (drop 1 text) c)
  unfolding line_remark
  row_remark row = ap (answer_remark number l (form_of text)) (refused_answer answered _ (line_only rs text blank stand blank_size _ _ row).0)

  pub row_silent : {a : Answer} {ss : List Text} → LineRow rs text a ss → ((k c : ℕ) → a ≡ refused k c → ⊥) → line_remark rs number l ≡ []
  unfolding line_remark
  row_silent {a} row other = go answered _ (line_only rs text blank stand blank_size _ _ row).0
    where
      go : (x : LineAnswer) (words : List ℕ) → a ≡ answer_for x words → answer_remark number l (form_of text) x ≡ []
      go LineAnswer.Added words e = refl
      go LineAnswer.Withdrawn words e = refl
      go (LineAnswer.Plan n) words e = refl
      go LineAnswer.NoPlan words e = refl
      go (LineAnswer.Refused k c) words e = absurd (other k c e)

  -- the rule's text, and the place in it
  pub add_remark : {s : Text} {k p : ℕ} → IsLine text (add s) → AddRow rs s (Outcome.Refused k p) → line_remark rs number l ≡ two_lines number l (p + 1) k (sentence k s p)
  add_remark {s} {k} {p} is row =
      row_remark (not_added is row)
      ∙ ap₂ (λ (f : Form) (t : Text). two_lines number l (caret_at f p) k (sentence k t p)) (form_only text (add s) is) (tail_of text s is)
