-- The answers of the parts that are open to a caller, by their numbers: the cutter of tokens, the writer of plan words, the printer. Assumes nothing.
use Prim.Native.Nat.{ℕ, ◌≤◌, ◌<◌}
use mathlib.Core.Path.{◌≡◌, ap, ◌∙◌}
use mathlib.Core.Bool.{Bool, cond}
use mathlib.Core.List.{List}
use native.Mathlib.Omega.{arith}
use borrow.Author.Tests.{le-leb, lt-leb}
use lib.ListN.{length}
use Rattle.lexer.specs.Arrays.{lexed}
use Rattle.lexer.specs.Cutter.{cutting}
use Rattle.lexer.specs.declared.LexError.{LexError}
use Rattle.lexer.specs.declared.Tokens.{Tokens}
use Rattle.syntax.specs.Rule.{refusal_of, tokens_in, by_answer, rule_of}
use Rattle.std.specs.Prelude.{Result, Ok, Err}
use Rattle.lists.specs.declared.ShortBuffer.{ShortBuffer}
use Rattle.plan.specs.Words.{Plan, words_of}
use Rattle.plan.specs.Arrays.{Writes}
use Rattle.printing.specs.Prints.{Prints}
use Rattle.table.specs.declared.Outcome.{Outcome}
use Rattle.table.specs.Sheet.{Text}
use Rattle.table.specs.Calls.{judge_add}
use Rattle.table.specs.Numbers.{add_outcome, lex_outcome, rule_outcome, written_outcome, printed_outcome}
use Rattle.table.proofs.Rows.{text_refused}

pub tokens_refused : (rs : List Text) (s : Text) (k p : ℕ) → lex_outcome (lexed s) ≡ Outcome.Refused k p → add_outcome (judge_add rs s) ≡ Outcome.Refused k p
unfolding rule_of refusal_of
tokens_refused rs s k p e = text_refused rs s k p (go (lexed s) e)
  where
    go : (a : Result Tokens LexError) → lex_outcome a ≡ Outcome.Refused k p → rule_outcome (by_answer a s (tokens_in (cutting s))).answer ≡ Outcome.Refused k p
    go (Ok t) f = absurd (let z : ◌≡◌ {A = ℕ} 0 1 = cc in omega arith)
    go (Err LexError.TooLong) f = f
    go (Err LexError.NoToken) f = f
    go (Err (LexError.ForeignByte i)) f = f
    go (Err (LexError.LongName i)) f = f
    go (Err (LexError.Measured i)) f = f

abbrev too_short : ℕ → Result ℕ ShortBuffer
too_short n = Err (record { needed = n })

pub words_written : (p : Plan) (buffer : List ℕ) (w : Result ℕ ShortBuffer) (exit : List ℕ) → Writes p buffer w exit
    → (length (words_of p) ≤ length buffer → written_outcome w ≡ Outcome.Plan (length (words_of p)))
    × (length buffer < length (words_of p) → written_outcome w ≡ Outcome.Refused 12 (length (words_of p)))
words_written p buffer w exit h =
    let n = length (words_of p) in
    let by : Bool → Outcome = λ b. written_outcome (cond b (Ok n) (too_short n)) in
    (λ l. ap written_outcome h.answer ∙ ap by (le-leb n (length buffer) l), λ l. ap written_outcome h.answer ∙ ap by (lt-leb n (length buffer) l))

pub text_printed : (text buffer : List ℕ) (w : Result ℕ ShortBuffer) (exit : List ℕ) → Prints text buffer w exit
    → (length text ≤ length buffer → printed_outcome w ≡ Outcome.Text (length text))
    × (length buffer < length text → printed_outcome w ≡ Outcome.Refused 12 (length text))
text_printed text buffer w exit h =
    let n = length text in
    let by : Bool → Outcome = λ b. printed_outcome (cond b (Ok n) (too_short n)) in
    (λ l. ap printed_outcome h.answer ∙ ap by (le-leb n (length buffer) l), λ l. ap printed_outcome h.answer ∙ ap by (lt-leb n (length buffer) l))
