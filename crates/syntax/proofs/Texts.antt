-- Each rule text is answered as it is meant to be, and in no other way: the cut of a text is the one that is meant, and its
-- tokens are read exactly as the grammar has them. Assumes nothing.
use mathlib.Core.Logic.{⊎_elim}
use Rattle.std.specs.Prelude.{Result as Answer}
use mathlib.Core.Path.{◌≡◌, refl, sym, ap, subst, ◌∙◌}
use mathlib.Core.List.{List, [], ◌∷◌}
use Prim.Native.Nat.{ℕ, ◌≤◌, ◌<◌}
use native.Mathlib.Omega.{arith}
use lib.ListN.{length}
use Rattle.lists.proofs.Truth.{side}
use Rattle.lists.specs.Padded.{pad}
use Rattle.lexer.specs.Token.{Token}
use Rattle.lexer.specs.Cutting.{Cutting, tokens, refused, with_token, Cut, end, blank, run, long_name, sign, measured_sign, no_sign, foreign}
use Rattle.lexer.specs.Cutter.{cutting}
use Rattle.lexer.specs.Arrays.{tokens_of, lexed_of}
use Rattle.lexer.specs.declared.LexError.{LexError}
use Rattle.lexer.specs.declared.Tokens.{Tokens}
use Rattle.lexer.proofs.Claims.{computed_is_meant, meant_is_computed, lexed_cutting, lexed_too_long}
use Rattle.formula.specs.Formula.{Formula, Name}
use Rattle.syntax.specs.Grammar.{Derives}
use Rattle.syntax.specs.Postfix.{postfix}
use Rattle.syntax.specs.Machine.{Result, accepted, refused as refusedAt, run as runTokens, reading}
use Rattle.syntax.specs.Reader.{codes}
use Rattle.syntax.specs.RuleText.{symbols_of, IsRule, Answers, formula, too_long, no_token, foreign_byte, name_long, measured, grammar}
use Rattle.syntax.specs.Rule.{refusal_of, read_tokens, tokens_in, by_answer, rule_of, formula_read, meaning_of}
use Rattle.syntax.specs.declared.RuleAnswer.{RuleAnswer}
use Rattle.syntax.specs.declared.Rule.{Rule}
use Rattle.syntax.proofs.Sound.{sound}
use Rattle.syntax.proofs.Complete.{complete}
use Rattle.syntax.proofs.Exact.{exact, exact_only}
use Rattle.syntax.proofs.Unique.{formula_back}

-- ---- the rule of a text, by its cut

rule_long : (s : List ℕ) → 256 < length s → rule_of s ≡ refusal_of RuleAnswer.TooLong
unfolding rule_of
rule_long s h = ap (λ (l : Answer Tokens LexError). by_answer l s (tokens_in (cutting s))) (lexed_too_long s h)

rule_cut : (s : List ℕ) → length s ≤ 256 → (r : Cutting) → cutting s ≡ r → rule_of s ≡ by_answer (lexed_of r) s (tokens_in r)
unfolding rule_of
rule_cut s h r e =
    ap (λ (l : Answer Tokens LexError). by_answer l s (tokens_in (cutting s))) (lexed_cutting s h)
    ∙ ap (λ (x : Cutting). by_answer (lexed_of x) s (tokens_in x)) e

-- ---- only refusals 3, 4 and 5 come from a cut

abbrev OfCut : LexError → Type 0
OfCut LexError.TooLong = ⊥
OfCut LexError.NoToken = ⊥
OfCut (LexError.ForeignByte i) = Unit {0}
OfCut (LexError.LongName i) = Unit {0}
OfCut (LexError.Measured i) = Unit {0}

abbrev RefusedByCut : Cutting → Type 0
RefusedByCut (tokens ts) = Unit {0}
RefusedByCut (refused a) = OfCut a

refused_by_first : (t : Token) (r : Cutting) → RefusedByCut r → RefusedByCut (with_token t r)
refused_by_first t (tokens ts) h = tt
refused_by_first t (refused a) h = h

refused_by_cut : {i : ℕ} {s : List ℕ} {r : Cutting} → Cut i s r → RefusedByCut r
refused_by_cut end = tt
refused_by_cut (blank k c) = refused_by_cut c
refused_by_cut (run {r = r} w l c) = refused_by_first _ r (refused_by_cut c)
refused_by_cut (long_name w l) = tt
refused_by_cut (sign {r = r} k m e c) = refused_by_first _ r (refused_by_cut c)
refused_by_cut (measured_sign k m e) = tt
refused_by_cut (no_sign k m) = tt
refused_by_cut (foreign k) = tt

-- no tokens are no formula
no_formula : (f : Formula Name) → Derives [] f → ⊥
unfolding reading runTokens
no_formula f d = let z : ◌≡◌ {A = ℕ} 0 1 = cc (complete [] f d) in omega arith

-- ---- each text is answered as it is meant to be

of_tokens : (s : List ℕ) → length s ≤ 256 → (t : Token) (ts : List Token) → Cut 0 s (tokens (t ∷ ts)) → (r : Result) → reading (symbols_of s (t ∷ ts)) ≡ r
    → Answers s (read_tokens s (t ∷ ts) r).answer
unfolding refusal_of
of_tokens s short t ts c (accepted o) e =
    formula (record { short = short; cut_tokens = t ∷ ts; cut = c; derived = (sound (symbols_of s (t ∷ ts)) o e).1 })
of_tokens s short t ts c (refusedAt j) e = grammar short c (exact (symbols_of s (t ∷ ts)) j e)

of_cut : (s : List ℕ) → length s ≤ 256 → (r : Cutting) → Cut 0 s r → RefusedByCut r → Answers s (by_answer (lexed_of r) s (tokens_in r)).answer
unfolding refusal_of
of_cut s short (tokens []) c h = no_token short c
of_cut s short (tokens (t ∷ ts)) c h = of_tokens s short t ts c (reading (symbols_of s (t ∷ ts))) refl
of_cut s short (refused LexError.TooLong) c h = absurd h
of_cut s short (refused LexError.NoToken) c h = absurd h
of_cut s short (refused (LexError.ForeignByte i)) c h = foreign_byte short c
of_cut s short (refused (LexError.LongName i)) c h = name_long short c
of_cut s short (refused (LexError.Measured i)) c h = measured short c

pub answered : (s : List ℕ) → Answers s (rule_of s).answer
unfolding refusal_of
answered s = ⊎_elim long short (side 256 (length s))
  where
    short : length s ≤ 256 → Answers s (rule_of s).answer
    short h =
        subst (λ (x : Rule). Answers s x.answer) (sym (rule_cut s h (cutting s) refl))
        (of_cut s h (cutting s) (computed_is_meant s) (refused_by_cut (computed_is_meant s)))

    long : 256 < length s → Answers s (rule_of s).answer
    long h = subst (λ (x : Rule). Answers s x.answer) (sym (rule_long s h)) (too_long h)

-- ---- and in no other way

-- the answer of a text whose cut is known
by_cut : (s : List ℕ) → length s ≤ 256 → (r : Cutting) → Cut 0 s r → rule_of s ≡ by_answer (lexed_of r) s (tokens_in r)
by_cut s short r c = rule_cut s short r (sym (meant_is_computed s r c))

-- a rule is read, with its tokens and its formula's order
pub rule_read : (s : List ℕ) (f : Formula Name) (h : IsRule s f)
    → rule_of s ≡ record { answer = RuleAnswer.Formula; tokens = tokens_of h.cut_tokens; order = pad 256 (codes (postfix f)); len = length (postfix f) }
rule_read s f h =
    let e : rule_of s ≡ by_answer (lexed_of (tokens h.cut_tokens)) s h.cut_tokens = by_cut s h.short (tokens h.cut_tokens) h.cut in
    e ∙ some h.cut_tokens h.derived ∙ ap (read_tokens s h.cut_tokens) (complete (symbols_of s h.cut_tokens) f h.derived)
  where
    some : (ts : List Token) → Derives (symbols_of s ts) f → by_answer (lexed_of (tokens ts)) s ts ≡ read_tokens s ts (reading (symbols_of s ts))
    some [] d = absurd (no_formula f d)
    some (t ∷ ts) d = refl

pub answered_only : (s : List ℕ) (a : RuleAnswer) → Answers s a → a ≡ (rule_of s).answer
unfolding refusal_of
answered_only s a (formula {f = f} h) = sym (ap (λ (x : Rule). x.answer) (rule_read s f h))
answered_only s a (too_long h) = sym (ap (λ (x : Rule). x.answer) (rule_long s h))
answered_only s a (no_token h c) = sym (ap (λ (x : Rule). x.answer) (by_cut s h (tokens []) c))
answered_only s a (foreign_byte {i = i} h c) = sym (ap (λ (x : Rule). x.answer) (by_cut s h (refused (LexError.ForeignByte i)) c))
answered_only s a (name_long {i = i} h c) = sym (ap (λ (x : Rule). x.answer) (by_cut s h (refused (LexError.LongName i)) c))
answered_only s a (measured {i = i} h c) = sym (ap (λ (x : Rule). x.answer) (by_cut s h (refused (LexError.Measured i)) c))
answered_only s a (grammar {t = t} {ts = ts} {j = j} h c r) =
    sym (ap (λ (x : Rule). x.answer) (by_cut s h (tokens (t ∷ ts)) c ∙ ap (read_tokens s (t ∷ ts)) (exact_only (symbols_of s (t ∷ ts)) j r)))

-- a rule means its formula
pub rule_means : (s : List ℕ) (f : Formula Name) → IsRule s f → meaning_of s ≡ f
unfolding meaning_of
rule_means s f h =
    ap (λ (r : Cutting). formula_read (reading (symbols_of s (tokens_in r)))) (sym (meant_is_computed s (tokens h.cut_tokens) h.cut))
    ∙ ap formula_read (complete (symbols_of s h.cut_tokens) f h.derived)
    ∙ formula_back f

-- a text that is answered Formula is a rule of the formula that it means
pub is_rule : (s : List ℕ) → (rule_of s).answer ≡ RuleAnswer.Formula → IsRule s (meaning_of s)
is_rule s e = go (rule_of s).answer (answered s) e
  where
    of : {f : Formula Name} → IsRule s f → IsRule s (meaning_of s)
    of {f = f} h = subst (IsRule s) (sym (rule_means s f h)) h

    go : (a : RuleAnswer) → Answers s a → a ≡ RuleAnswer.Formula → IsRule s (meaning_of s)
    go a (formula h) e = of h
    go a (too_long h) e = absurd (let z : ◌≡◌ {A = ℕ} 0 1 = cc in omega arith)
    go a (no_token h c) e = absurd (let z : ◌≡◌ {A = ℕ} 0 1 = cc in omega arith)
    go a (foreign_byte h c) e = absurd (let z : ◌≡◌ {A = ℕ} 0 1 = cc in omega arith)
    go a (name_long h c) e = absurd (let z : ◌≡◌ {A = ℕ} 0 1 = cc in omega arith)
    go a (measured h c) e = absurd (let z : ◌≡◌ {A = ℕ} 0 1 = cc in omega arith)
    go a (grammar h c r) e = absurd (let z : ◌≡◌ {A = ℕ} 0 1 = cc in omega arith)
