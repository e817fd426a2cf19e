-- The invariant of `gather` and how a token keeps it: the names that are in the arrays, and what follows for the tokens that are left,
-- give the answer for the whole text. Assumes nothing.
use mathlib.Core.Bool.{Bool, false, cond}
use mathlib.Core.Path.{◌≡◌, refl, sym, ap, ap₂, ◌∙◌}
use mathlib.Core.List.{List, [], ◌∷◌, ◌++◌, append_assoc, append-nil}
use Prim.Native.Nat.{ℕ, ◌+◌, ◌≤◌, ◌<◌}
use native.Mathlib.Omega.{arith}
use lib.Dec.{ltb}
use lib.ListN.{length, take, drop, get_or, set, replicate, length-append}
use borrow.Author.Tests.{le-ltb}
use Rattle.lists.proofs.Padded.{pad_none, pad_set}
use Rattle.lists.specs.Padded.{pad}
use Rattle.formula.specs.Formula.{Name}
use Rattle.lexer.specs.Token.{Token, bytes_of}
use Rattle.lexer.specs.Arrays.{code_of, tokens_of}
use Rattle.lexer.specs.Steps.{arrays}
use Rattle.lexer.specs.declared.Tokens.{Tokens}
use Rattle.lexer.proofs.Claims.{kind_at_lem, start_at, len_at, count}
use Rattle.contact.specs.Numbering.{position, same_name}
use Rattle.syntax.specs.declared.Rule.{Rule}
use Rattle.names.specs.declared.Names.{Names}
use Rattle.names.specs.declared.NamesAnswer.{NamesAnswer}
use Rattle.names.specs.declared.Gathered.{Gathered}
use Rattle.names.specs.Gather.{rule_tokens, with_name, Numbered, numbered, behind, names_after, arrays_of, known_of, gathered_of, gathered, Gathers}
use Rattle.names.specs.Ninth.{NameAt, name_at, places_of}
use Rattle.names.specs.Steps.{place_in, with_kept}
use Rattle.contact.proofs.Distinct.{position_most}
use Rattle.names.proofs.Arrays.{kept_count, number_kept, with_kept_lem, too_many, not_too_many}
use Rattle.names.proofs.Tokens.{rule_tokens_lem, tokens_lie, past, token_within, at_name, at_other, at_end}
use Rattle.evalset.specs.Most.{most}

pub record Going (text kinds starts lens : List ℕ) (n : ℕ) (first : Names) (known : Names) (numbers : List ℕ) (m i : ℕ) : Type 0 where
  pub tokens : arrays kinds starts lens n ≡ tokens_of (rule_tokens text)
  pub upto : i ≤ n
  pub fewer : m ≤ i
  pub names : List Name
  pub kept : known ≡ arrays_of names
  pub few : length names ≤ most
  pub done : List ℕ
  pub padded : numbers ≡ pad 256 done
  pub many : length done ≡ m
  pub answer : behind done (names_after names (places_of text (drop i (rule_tokens text)))) ≡ names_after (known_of first) (places_of text (rule_tokens text))

-- no token yet
pub going_first : (text : List ℕ) (rule : Rule) (ns : Names) (numbers : List ℕ) → Gathers text rule ns → numbers ≡ replicate 256 0
    → Going text rule.tokens.kinds rule.tokens.starts rule.tokens.lens rule.tokens.n ns ns numbers 0 0
going_first text rule ns numbers g z =
    record {
      tokens = ap (λ (r : Rule). r.tokens) g.read ∙ rule_tokens_lem text;
      upto = omega arith;
      fewer = omega arith;
      names = known_of ns;
      kept = g.kept.canonical;
      few = let e : ns.count ≡ length (known_of ns) = ap (λ (x : Names). x.count) g.kept.canonical ∙ kept_count (known_of ns) in omega (arith, g.kept.few);
      done = [];
      padded = z ∙ pad_none 256;
      many = refl;
      answer = refl;
    }

abbrev gave : Names → List ℕ → NamesAnswer → Gathered
gave ns numbers a = record { names = ns; numbers = numbers; answer = a }

module _ {text kinds starts lens : List ℕ} {n : ℕ} {first known : Names} {numbers : List ℕ} {m i : ℕ} (g : Going text kinds starts lens n first known numbers m i) where
  abbrev every : List Token
  every = rule_tokens text

  abbrev this : Token
  this = get_or every i past

  count_is : n ≡ length every
  count_is = ap (λ (t : Tokens). t.n) g.tokens ∙ count every

  pub few_tokens : n ≤ 256
  few_tokens = omega (arith, count_is, (tokens_lie text).1)

  pub few_names : known.count ≤ most
  few_names = let e : known.count ≡ length g.names = ap (λ (x : Names). x.count) g.kept ∙ kept_count g.names in omega (arith, g.few)

  pub number_few : (w : Name) (number : ℕ) → number ≡ place_in w (take known.count known.list) → number ≤ most
  number_few w number f =
      let e : number ≡ position same_name g.names w = f ∙ ap (λ (x : Names). place_in w (take x.count x.list)) g.kept ∙ number_kept g.names w in
      omega (arith, position_most same_name g.names w, g.few)

  -- what is gathered, from the answer for what is left
  whole : (ns : List Name) (more : List ℕ) (a : NamesAnswer) → names_after g.names (places_of text (drop i every)) ≡ numbered ns more a
      → gave (arrays_of ns) (pad 256 (g.done ++ more)) a ≡ gathered text (known_of first)
  unfolding gathered gathered_of
  whole ns more a e = ap (λ (r : Numbered). gathered_of (behind g.done r)) (sym e) ∙ ap gathered_of g.answer

  unchanged : (ns : List Name) (more : List ℕ) (a : NamesAnswer) → ns ≡ g.names → more ≡ [] → names_after g.names (places_of text (drop i every)) ≡ numbered ns more a
      → gave known numbers a ≡ gathered text (known_of first)
  unchanged ns more a p q e =
      ap₂ (λ (x : Names) (y : List ℕ). gave x y a) (g.kept ∙ ap arrays_of (sym p)) (g.padded ∙ ap (pad 256) (sym (append-nil g.done) ∙ ap (λ (l : List ℕ). g.done ++ l) (sym q)))
      ∙ whole ns more a e

  pub going_end : n ≤ i → gave known numbers NamesAnswer.Enough ≡ gathered text (known_of first)
  unfolding names_after
  going_end h =
      unchanged g.names [] NamesAnswer.Enough refl refl
      (ap (names_after g.names) (at_end text every i (omega (arith, count_is))))

  module _ (h : i < n) where
    inside : i < length every
    inside = omega (arith, count_is)

    kind_is : get_or kinds i 0 ≡ code_of this.kind
    kind_is = ap (λ (t : Tokens). get_or t.kinds i 0) g.tokens ∙ kind_at_lem every i past inside

    start_is : get_or starts i 0 ≡ this.start
    start_is = ap (λ (t : Tokens). get_or t.starts i 0) g.tokens ∙ start_at every i past inside

    len_is : get_or lens i 0 ≡ this.len
    len_is = ap (λ (t : Tokens). get_or t.lens i 0) g.tokens ∙ len_at every i past inside

    pub token_inside : get_or starts i 0 + get_or lens i 0 ≤ length text
    token_inside = omega (arith, start_is, len_is, (token_within text i inside).0)

    pub token_short : get_or lens i 0 ≤ 16
    token_short = omega (arith, len_is, (token_within text i inside).1)

    -- a token that is no name
    pub going_other : (get_or kinds i 0 ≡ 18 → ⊥) → Going text kinds starts lens n first known numbers m (i + 1)
    going_other e =
        record {
          tokens = g.tokens;
          upto = omega arith;
          fewer = omega (arith, g.fewer);
          names = g.names;
          kept = g.kept;
          few = g.few;
          done = g.done;
          padded = g.padded;
          many = g.many;
          answer = ap (λ (xs : List NameAt). behind g.done (names_after g.names xs)) (sym (at_other text every i inside (λ k. e (kind_is ∙ k)))) ∙ g.answer;
        }

    module _ (w : Name) (start number : ℕ) (k : get_or kinds i 0 ≡ 18) (p : start ≡ get_or starts i 0) (e : w ≡ take (get_or lens i 0) (drop start text))
        (f : number ≡ place_in w (take known.count known.list)) where
      name_is : bytes_of text this ≡ w
      name_is = sym (e ∙ ap₂ (λ (l a : ℕ). take l (drop a text)) len_is (p ∙ start_is))

      number_is : number ≡ position same_name g.names w
      number_is = f ∙ ap (λ (x : Names). place_in w (take x.count x.list)) g.kept ∙ number_kept g.names w

      abbrev left : List NameAt
      left = places_of text (drop (i + 1) every)

      places : places_of text (drop i every) ≡ name_at start w ∷ left
      places = at_name text every i inside (sym kind_is ∙ k) ∙ ap₂ (λ (a : ℕ) (v : Name). name_at a v ∷ left) (sym (p ∙ start_is)) name_is

      abbrev next : Bool → Numbered
      next b = cond b (numbered g.names [] (NamesAnswer.TooManyNames start)) (behind (position same_name g.names w ∷ []) (names_after (with_name g.names w) left))

      turn : names_after g.names (places_of text (drop i every)) ≡ next (ltb most (length (with_name g.names w)))
      unfolding names_after
      turn = ap (names_after g.names) places

      -- a ninth name
      pub going_ninth : number ≡ most → gave known numbers (NamesAnswer.TooManyNames start) ≡ gathered text (known_of first)
      going_ninth z =
          unchanged g.names [] (NamesAnswer.TooManyNames start) refl refl (turn ∙ ap next (too_many g.names w g.few (sym number_is ∙ z)))

      -- a name that has a number
      pub going_name : (number ≡ most → ⊥) → (after : Names) → after ≡ with_kept known w number → Going text kinds starts lens n first after (set numbers m number) (m + 1) (i + 1)
      going_name z after a =
          let fits : length (with_name g.names w) ≤ most = not_too_many g.names w g.few (λ q. z (number_is ∙ q)) in
          let tests : ltb most (length (with_name g.names w)) ≡ false = le-ltb most (length (with_name g.names w)) fits in
          record {
            tokens = g.tokens;
            upto = omega arith;
            fewer = omega (arith, g.fewer);
            names = with_name g.names w;
            kept = a ∙ ap₂ (λ (x : Names) (y : ℕ). with_kept x w y) g.kept number_is ∙ with_kept_lem g.names w g.few (λ q. z (number_is ∙ q));
            few = fits;
            done = g.done ++ number ∷ [];
            padded = ap (λ (l : List ℕ). set l m number) g.padded ∙ pad_set 256 g.done m number g.many (omega (arith, g.fewer, few_tokens));
            many = omega (arith, length-append g.done (number ∷ []), g.many);
            answer =
                ap (λ (l : List ℕ). numbered (names_after (with_name g.names w) left).names l (names_after (with_name g.names w) left).answer)
                (append_assoc g.done (number ∷ []) (names_after (with_name g.names w) left).numbers
                ∙ ap (λ (x : ℕ). g.done ++ x ∷ (names_after (with_name g.names w) left).numbers) number_is)
                ∙ sym (ap (behind g.done) (turn ∙ ap next tests))
                ∙ g.answer;
          }
