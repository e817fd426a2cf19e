-- From the reading of the tokens to the rule that is answered: the arrays hold the text's tokens, so the kinds that are read
-- are those of its symbols, and a refused token's place is where it starts. Assumes nothing.
use Rattle.std.specs.Prelude.{Result as Answer, Ok, Err}
use mathlib.Core.Path.{◌≡◌, refl, sym, ap, ap₂, subst, ◌∙◌}
use mathlib.Core.Logic.{⊎_elim}
use mathlib.Core.List.{List, [], ◌∷◌, map}
use Prim.Native.Nat.{ℕ, ◌≤◌, ◌<◌}
use native.Mathlib.Omega.{arith}
use lib.ListN.{length, get_or, take, length-map, get_or-map, get_or-eq_default}
use Rattle.lists.proofs.Truth.{side}
use Rattle.lists.proofs.Padded.{pad_taken}
use Rattle.lists.specs.Padded.{pad}
use Rattle.lexer.specs.Token.{Token, bytes_of}
use Rattle.lexer.specs.Cutting.{Cutting, tokens, refused as refusedCut}
use Rattle.lexer.specs.Cutter.{cutting}
use Rattle.lexer.specs.Arrays.{code_of, tokens_of, lexed_of, lexed}
use Rattle.lexer.specs.declared.LexError.{LexError}
use Rattle.lexer.specs.declared.Kind.{Kind}
use Rattle.lexer.specs.declared.Tokens.{Tokens}
use Rattle.lexer.proofs.Claims.{start_at, at_most, count, lexed_cutting, lexed_too_long}
use Rattle.formula.specs.Formula.{Name}
use Rattle.syntax.specs.Symbol.{symbol_of, kind_of}
use Rattle.syntax.specs.Machine.{Sym, refused, reading}
use Rattle.syntax.specs.Reader.{codes, Parsed}
use Rattle.syntax.specs.RuleText.{symbols_of, place_of}
use Rattle.syntax.specs.Rule.{refusal_of, read_tokens, tokens_in, by_answer, rule_of}
use Rattle.syntax.specs.declared.RuleAnswer.{RuleAnswer}
use Rattle.syntax.specs.declared.Rule.{Rule}

-- ---- kinds

kind_back : (k : Kind) (w : Name) → kind_of (symbol_of k w) ≡ k
kind_back Kind.Implies w = refl
kind_back Kind.Iff w = refl
kind_back Kind.Or w = refl
kind_back Kind.And w = refl
kind_back Kind.Plus w = refl
kind_back Kind.Times w = refl
kind_back Kind.Minus w = refl
kind_back Kind.Not w = refl
kind_back Kind.Open w = refl
kind_back Kind.Close w = refl
kind_back Kind.IsZero w = refl
kind_back Kind.Comma w = refl
kind_back Kind.Truth w = refl
kind_back Kind.Falsity w = refl
kind_back Kind.Contact w = refl
kind_back Kind.Part w = refl
kind_back Kind.Zero w = refl
kind_back Kind.One w = refl
kind_back Kind.Name w = refl

codes_symbols : (s : List ℕ) (ts : List Token) → codes (symbols_of s ts) ≡ map (λ (t : Token). code_of t.kind) ts
unfolding codes
codes_symbols s [] = refl
codes_symbols s (t ∷ ts) = ap₂ ◌∷◌ (ap code_of (kind_back t.kind (bytes_of s t))) (codes_symbols s ts)

-- the first kinds of the array are those of the symbols
pub kinds_read : (s : List ℕ) (ts : List Token) (t : Tokens) → t ≡ tokens_of ts → codes (symbols_of s ts) ≡ take t.n t.kinds
unfolding tokens_of
kinds_read s ts t e =
    codes_symbols s ts
    ∙ sym (pad_taken 256 (map (λ (x : Token). code_of x.kind) ts) (length ts) (length-map ts (λ (x : Token). code_of x.kind)))
    ∙ ap (λ (x : Tokens). take x.n x.kinds) (sym e)

-- ---- places

module _ (s : List ℕ) (ts : List Token) (t : Tokens) (e : t ≡ tokens_of ts) (i : ℕ) where
  pub place_in_lem : i < t.n → get_or t.starts i 0 ≡ place_of s ts i
  unfolding tokens_of
  place_in_lem h =
      let l : i < length ts = subst (λ (x : Tokens). i < x.n) e h in
      ap (λ (x : Tokens). get_or x.starts i 0) e
      ∙ start_at ts i (record { kind = Kind.Open; start = length s; len = 0 }) l
      ∙ sym (get_or-map (λ (x : Token). x.start) ts i (record { kind = Kind.Open; start = length s; len = 0 }))

  pub place_out : t.n ≤ i → length s ≡ place_of s ts i
  unfolding tokens_of
  place_out h =
      let l : length ts ≤ i = subst (λ (x : Tokens). x.n ≤ i) e h in
      sym (get_or-eq_default (map (λ (x : Token). x.start) ts) (length s) (rw (length-map ts (λ (x : Token). x.start)) l))

-- ---- answers

module _ (s : List ℕ) (ts : List Token) (t : Tokens) (e : t ≡ tokens_of ts) where
  pub read_value : (n : ℕ) (B : List ℕ) → Parsed (symbols_of s ts) (Ok n) B
      → ◌≡◌ {A = Rule} (record { answer = RuleAnswer.Formula; tokens = t; order = B; len = n }) (read_tokens s ts (reading (symbols_of s ts)))
  read_value n B h =
      let o : List Sym = h.0 in
      let m : n ≡ length o = sym h.1.1 in
      let q : B ≡ pad 256 (codes o) = h.1.0 in
      (cc) ∙ sym (ap (read_tokens s ts) h.2)

  pub read_refused : (i p : ℕ) → reading (symbols_of s ts) ≡ refused i → p ≡ place_of s ts i → refusal_of (RuleAnswer.GrammarAt p) ≡ read_tokens s ts (reading (symbols_of s ts))
  read_refused i p f q = ap (λ (x : ℕ). refusal_of (RuleAnswer.GrammarAt x)) q ∙ sym (ap (read_tokens s ts) f)

-- ---- from the lexer's answer

cut_arrays : (r : Cutting) (t : Tokens) → lexed_of r ≡ Ok t → t ≡ tokens_of (tokens_in r)
cut_arrays (tokens []) t e = cc
cut_arrays (tokens (x ∷ xs)) t e = cc
cut_arrays (refusedCut a) t e = cc

cut_few : (s : List ℕ) → length s ≤ 256 → (r : Cutting) → cutting s ≡ r → length (tokens_in r) ≤ 256
cut_few s h (tokens ts) e = omega (arith, at_most s ts e)
cut_few s h (refusedCut a) e = omega arith

module _ (s : List ℕ) (l : Answer Tokens LexError) (e : l ≡ lexed s) where
  pub rule_by : (x : Answer Tokens LexError) → l ≡ x → rule_of s ≡ by_answer x s (tokens_in (cutting s))
  unfolding rule_of
  rule_by x h = ap (λ (y : Answer Tokens LexError). by_answer y s (tokens_in (cutting s))) (sym e ∙ h)

  module _ (t : Tokens) (h : l ≡ Ok t) where
    not_long : length s ≤ 256
    not_long = ⊎_elim (λ k. absurd (let z : ◌≡◌ {A = Answer Tokens LexError} (Ok t) (Err LexError.TooLong) = sym h ∙ e ∙ lexed_too_long s k in let y : ◌≡◌ {A = ℕ} 0 1 = cc in omega arith)) (λ k. k) (side 256 (length s))

    pub arrays_of : t ≡ tokens_of (tokens_in (cutting s))
    arrays_of = cut_arrays (cutting s) t (sym (lexed_cutting s not_long) ∙ sym e ∙ h)

    pub few_tokens : t.n ≤ 256
    few_tokens = omega (arith, ap (λ (x : Tokens). x.n) arrays_of, count (tokens_in (cutting s)), cut_few s not_long (cutting s) refl)

pub ruleset places = (place_in_lem, place_out)
