-- The tokens that a rule is handed back with are those of its text, or none: a text that is read was cut, and what was cut lies in it.
-- Assumes nothing.
use Rattle.std.specs.Prelude.{Result as Answer, Ok, Err}
use mathlib.Core.Bool.{Bool, cond}
use mathlib.Core.Path.{◌≡◌, refl, sym, ap, ap₂, subst, ◌∙◌}
use mathlib.Core.List.{List, [], ◌∷◌, ◌++◌, map}
use Prim.Native.Nat.{ℕ, ◌+◌, ◌≤◌, ◌<◌}
use native.Mathlib.Omega.{arith}
use lib.Dec.{eqb}
use lib.ListN.{length, drop, get_or, drop_of_length-le}
use borrow.Author.Tests.{eq-eqb, ne_eqb}
use Rattle.formula.specs.Formula.{Formula, Name}
use Rattle.lexer.specs.Token.{Token, bytes_of}
use Rattle.lexer.specs.Cutting.{Cutting, tokens}
use Rattle.lexer.specs.Cutter.{cutting}
use Rattle.lexer.specs.Arrays.{code_of, tokens_of, lexed}
use Rattle.lexer.specs.Placement.{Placed}
use Rattle.lexer.specs.declared.Kind.{Kind}
use Rattle.lexer.specs.declared.LexError.{LexError}
use Rattle.lexer.specs.declared.Tokens.{Tokens}
use Rattle.lexer.proofs.Claims.{meant_is_computed, placed, at_most}
use Rattle.lexer.proofs.Placement.{placed_at}
use Rattle.lists.proofs.Lists.{rest}
use Rattle.syntax.specs.Symbol.{symbol_of}
use Rattle.syntax.specs.Postfix.{symbol_names}
use Rattle.syntax.specs.Machine.{Result, accepted, refused as refusedAt, reading}
use Rattle.syntax.specs.RuleText.{symbols_of, IsRule, Answers, formula, too_long, no_token, foreign_byte, name_long, measured, grammar}
use Rattle.syntax.specs.Rule.{refusal_of, read_tokens, tokens_in, by_answer, rule_of}
use Rattle.syntax.specs.declared.RuleAnswer.{RuleAnswer}
use Rattle.syntax.specs.declared.Rule.{Rule}
use Rattle.syntax.proofs.Claims.{text_answered, text_read}
use Rattle.names.specs.Gather.{if_read, rule_tokens}
use Rattle.names.specs.Ninth.{name_at, places_of}

-- ---- the rule's tokens

by_reading : (s : List ℕ) (ts : List Token) (r : Result) → (read_tokens s ts r).tokens ≡ tokens_of (if_read (read_tokens s ts r).answer ts)
unfolding refusal_of
by_reading s ts (accepted o) = refl
by_reading s ts (refusedAt i) = refl

by_answer_lem : (a : Answer Tokens LexError) (s : List ℕ) (ts : List Token) → (by_answer a s ts).tokens ≡ tokens_of (if_read (by_answer a s ts).answer ts)
unfolding refusal_of
by_answer_lem (Ok t) s ts = by_reading s ts (reading (symbols_of s ts))
by_answer_lem (Err LexError.TooLong) s ts = refl
by_answer_lem (Err LexError.NoToken) s ts = refl
by_answer_lem (Err (LexError.ForeignByte i)) s ts = refl
by_answer_lem (Err (LexError.LongName i)) s ts = refl
by_answer_lem (Err (LexError.Measured i)) s ts = refl

pub rule_tokens_lem : (s : List ℕ) → (rule_of s).tokens ≡ tokens_of (rule_tokens s)
unfolding rule_of rule_tokens
rule_tokens_lem s = by_answer_lem (lexed s) s (tokens_in (cutting s))

-- a rule's tokens are those that it is derived from
pub tokens_of_rule : (s : List ℕ) (f : Formula Name) (h : IsRule s f) → rule_tokens s ≡ h.cut_tokens
unfolding rule_tokens
tokens_of_rule s f h =
    ap₂ (λ (a : RuleAnswer) (c : Cutting). if_read a (tokens_in c)) (ap (λ (r : Rule). r.answer) (text_read s f h)) (sym (meant_is_computed s (tokens h.cut_tokens) h.cut))

-- they lie in the text
abbrev Lies : List ℕ → List Token → Type 0
Lies s ts = Placed s 0 ts × (length ts ≤ 256)

nowhere : (s : List ℕ) → Lies s []
nowhere s = (tt, omega arith)

lies_by : (s : List ℕ) (a : RuleAnswer) → Answers s a → Lies s (if_read a (tokens_in (cutting s)))
lies_by s a (formula {f = f} h) =
    let e : tokens h.cut_tokens ≡ cutting s = meant_is_computed s (tokens h.cut_tokens) h.cut in
    subst (λ (c : Cutting). Lies s (tokens_in c)) e (placed s h.cut_tokens (sym e), omega (arith, at_most s h.cut_tokens (sym e), h.short))
lies_by s a (too_long h) = nowhere s
lies_by s a (no_token h c) = nowhere s
lies_by s a (foreign_byte h c) = nowhere s
lies_by s a (name_long h c) = nowhere s
lies_by s a (measured h c) = nowhere s
lies_by s a (grammar h c r) = nowhere s

pub tokens_lie : (s : List ℕ) → Lies s (rule_tokens s)
unfolding rule_tokens
tokens_lie s = lies_by s (rule_of s).answer (text_answered s)

-- what is read past the end of a list of tokens
abbrev pub past : Token
past = record { kind = Kind.Name; start = 0; len = 0 }

pub token_within : (s : List ℕ) (i : ℕ) → i < length (rule_tokens s)
    → ((get_or (rule_tokens s) i past).start + (get_or (rule_tokens s) i past).len ≤ length s) × ((get_or (rule_tokens s) i past).len ≤ 16)
token_within s i h = let t = placed_at s 0 (rule_tokens s) (tokens_lie s).0 i past h in (t.inside, t.short)

-- ---- the names among tokens

by_code : (k : Kind) (w : Name) → symbol_names (symbol_of k w) ≡ cond (eqb (code_of k) 18) (w ∷ []) []
by_code Kind.Implies w = refl
by_code Kind.Iff w = refl
by_code Kind.Or w = refl
by_code Kind.And w = refl
by_code Kind.Plus w = refl
by_code Kind.Times w = refl
by_code Kind.Minus w = refl
by_code Kind.Not w = refl
by_code Kind.Open w = refl
by_code Kind.Close w = refl
by_code Kind.IsZero w = refl
by_code Kind.Comma w = refl
by_code Kind.Truth w = refl
by_code Kind.Falsity w = refl
by_code Kind.Contact w = refl
by_code Kind.Part w = refl
by_code Kind.Zero w = refl
by_code Kind.One w = refl
by_code Kind.Name w = refl

module _ (s : List ℕ) (ts : List Token) (i : ℕ) where
  abbrev this : Token
  this = get_or ts i past

  module _ (h : i < length ts) where
    turn : places_of s (drop i ts) ≡ map (name_at this.start) (symbol_names (symbol_of this.kind (bytes_of s this))) ++ places_of s (drop (i + 1) ts)
    unfolding places_of
    turn = ap (places_of s) (rest ts i past h)

    -- a token that is a name, and one that is not
    pub at_name : code_of this.kind ≡ 18 → places_of s (drop i ts) ≡ name_at this.start (bytes_of s this) ∷ places_of s (drop (i + 1) ts)
    at_name e =
        turn
        ∙ ap (λ (ws : List Name). map (name_at this.start) ws ++ places_of s (drop (i + 1) ts))
        (by_code this.kind (bytes_of s this) ∙ ap (λ (t : Bool). cond t (bytes_of s this ∷ []) []) (eq-eqb (code_of this.kind) 18 e))

    pub at_other : (code_of this.kind ≡ 18 → ⊥) → places_of s (drop i ts) ≡ places_of s (drop (i + 1) ts)
    at_other n =
        turn
        ∙ ap (λ (ws : List Name). map (name_at this.start) ws ++ places_of s (drop (i + 1) ts))
        (by_code this.kind (bytes_of s this) ∙ ap (λ (t : Bool). cond t (bytes_of s this ∷ []) []) (ne_eqb (code_of this.kind) 18 n))

  pub at_end : length ts ≤ i → places_of s (drop i ts) ≡ []
  unfolding places_of
  at_end h = ap (places_of s) (drop_of_length-le ts h)
