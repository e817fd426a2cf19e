-- What is named as expected can stand there: the text that was read begins a formula, since it is one, or is refused at its end alone, where no
-- token is. Assumes nothing.
use Rattle.std.specs.Prelude.{Option, Some, None}
use mathlib.Core.Path.{◌≡◌, refl, sym, ap, subst, ◌∙◌}
use mathlib.Core.Bool.{Bool, true, true≢false}
use mathlib.Core.List.{List, [], ◌∷◌, ◌++◌, append-nil}
use mathlib.Core.Logic.{⊎_elim}
use Prim.Native.Nat.{ℕ, ◌≤◌}
use native.Mathlib.Omega.{arith}
use lib.ListN.{length, length-append, length-map}
use borrow.Author.Tests.{eqb-true}
use Rattle.lists.specs.Search.{In, here, first}
use Rattle.lists.proofs.Search.{first_in}
use Rattle.lists.proofs.Lists.{map_at}
use Rattle.lists.proofs.Truth.{side}
use Rattle.lexer.specs.Token.{Token, bytes_of, token_of}
use Rattle.lexer.specs.Cutting.{tokens, Cut}
use Rattle.lexer.specs.declared.Kind.TheVariants as Kind
use Rattle.lexer.proofs.Claims.{meant_is_computed, token_in}
use Rattle.formula.specs.Formula.{Name}
use Rattle.syntax.specs.Symbol.{Symbol, symbol_of}
use Rattle.syntax.specs.Grammar.{Derives, Begins}
use Rattle.syntax.specs.Refusal.{Refusal}
use Rattle.syntax.specs.RuleText.{symbols_of, place_of, Answers}
use Rattle.syntax.specs.Rule.{rule_of}
use Rattle.syntax.specs.declared.RuleAnswer.{RuleAnswer}
use Rattle.syntax.proofs.Claims.{text_answered}
use Rattle.table.specs.Sheet.{Text}
use Rattle.remarks.specs.declared.Expected.{Expected}
use Rattle.std.proofs.lemmas.Option.{none-some, same_Some}
use Rattle.remarks.specs.Remark.{begins, gone_on, BeginsRule, can_stand, spelling, tried, or_nothing, expected_at}

-- a place that is the text's length is behind its last token
behind : (s : Text) (ts : List Token) (j : ℕ) → Cut 0 s (tokens ts) → place_of s ts j ≡ length s → length ts ≤ j
behind s ts j c e =
    ⊎_elim
    (λ l. let d = token_of Kind.Name 0 0 in
    let within = token_in s ts (sym (meant_is_computed s (tokens ts) c)) j d l in
    absurd (omega (arith, within.some, within.inside, sym (map_at (λ (t : Token). t.start) ts j d (length s) l) ∙ e)))
    (λ l. l)
    (side j (length ts))

-- what is refused behind its last token begins a formula
whole_begun : {N : Type 0} (xs : List (Symbol N)) (j : ℕ) → length xs ≤ j → Refusal xs j → Begins xs
whole_begun {N} xs j h r = go r.post r.parts
  where
    go : (post : List (Symbol N)) → r.pre ++ post ≡ xs → Begins xs
    go [] e = subst Begins (sym (append-nil r.pre) ∙ e) r.begins
    go (x ∷ post) e = absurd (omega (arith, r.place, ap length e, length-append r.pre (x ∷ post)))

pub begun : (s : Text) → begins (length s) (rule_of s).answer ≡ true → BeginsRule s
begun s h = go (text_answered s) h
  where
    go : {a : RuleAnswer} → Answers s a → begins (length s) a ≡ true → BeginsRule s
    go (Answers.formula {f} r) k =
        record { cut_tokens = r.cut_tokens; cut = r.cut; begun = ([], f, subst (λ (xs : List (Symbol Name)). Derives xs f) (sym (append-nil (symbols_of s r.cut_tokens))) r.derived) }
    go (Answers.too_long l) k = absurd (true≢false (sym k))
    go (Answers.no_token l c) k = absurd (true≢false (sym k))
    go (Answers.foreign_byte l c) k = absurd (true≢false (sym k))
    go (Answers.name_long l c) k = absurd (true≢false (sym k))
    go (Answers.measured l c) k = absurd (true≢false (sym k))
    go (Answers.grammar {t} {ts} {j} l c r) k =
        let at = behind s (t ∷ ts) j c (eqb-true _ _ k) in
        record { cut_tokens = t ∷ ts; cut = c; begun = whole_begun (symbols_of s (t ∷ ts)) j (omega (arith, at, length-map (t ∷ ts) (λ (x : Token). symbol_of x.kind (bytes_of s x)))) r }

pub stands : (text : Text) (place : ℕ) (next : Text) → can_stand text place next ≡ true → BeginsRule (gone_on text place next)
unfolding can_stand
stands text place next h = begun (gone_on text place next) h

-- the first that can stand can stand
pub expected_stands : (text : Text) (place : ℕ) (x : Expected) → expected_at text place ≡ Some x → can_stand text place (spelling x) ≡ true
unfolding expected_at
expected_stands text place x some = go (first p tried) (λ e i. (first_in p tried i).1) some
  where
    p : Expected → Bool
    p e = can_stand text place (spelling e)

    go : (es : List Expected) → ((e : Expected) → In e es → p e ≡ true) → or_nothing es ≡ Some x → p x ≡ true
    go [] all e = absurd (none-some x e)
    go (e ∷ es) all same = subst (λ (y : Expected). p y ≡ true) (same_Some e x same) (all e here)
