-- The formula of a rule ends with its order, and its names with the tokens. Assumes nothing.
use mathlib.Core.Path.{◌≡◌, sym, ap, ◌∙◌}
use mathlib.Core.List.{List, []}
use Prim.Native.Nat.{ℕ}
use native.Mathlib.Omega.{arith}
use lib.ListN.{length}
use lib.Seq.{take_all}
use Rattle.formula.specs.Formula.{Formula, Name}
use Rattle.lexer.specs.Token.{Token}
use Rattle.lexer.specs.Cutting.{Cutting}
use Rattle.lexer.specs.Cutter.{cutting}
use Rattle.lexer.specs.Arrays.{tokens_of}
use Rattle.syntax.specs.Symbol.{Symbol}
use Rattle.syntax.specs.Postfix.{formula_after, postfix, formula_of, names_among}
use Rattle.syntax.specs.Rule.{meaning_of, tokens_in}
use Rattle.syntax.specs.RuleText.{symbols_of}
use Rattle.syntax.specs.declared.Rule.{Rule}
use Rattle.syntax.proofs.Claims as syntax
use Rattle.printing.specs.Text.{text_of}
use Rattle.printing.specs.Prints.{WasRead, printed_text}
use Rattle.printing.specs.Places.{order_to, formula_to, text_to, Ends}
use Rattle.printing.proofs.Lengths.{text_shorter}
use Rattle.printing.proofs.Walking.{is_rule, read_as, cut_as}

module _ (s : List ℕ) (rule : Rule) (w : WasRead s rule) where
  len_is : rule.len ≡ length (postfix (meaning_of s))
  len_is = ap (λ (r : Rule). r.len) (read_as s rule w)

  n_is : rule.tokens.n ≡ length (tokens_in (cutting s))
  unfolding tokens_of
  n_is = ap (λ (r : Rule). r.tokens.n) (read_as s rule w) ∙ ap (λ (c : Cutting). length (tokens_in c)) (sym (cut_as s rule w))

  order_is : order_to s rule.len ≡ postfix (meaning_of s)
  order_is = take_all rule.len (postfix (meaning_of s)) (omega (arith, len_is))

  formula_is : formula_to s rule.len ≡ meaning_of s
  formula_is = ap (λ (o : List (Symbol Name)). formula_of o) order_is ∙ syntax.order_back (meaning_of s)

  pub whole_text : text_to s rule.len ≡ printed_text s
  unfolding text_to printed_text
  whole_text = ap text_of formula_is

  pub whole_ends : Ends s (record { order = rule.len; tokens = rule.tokens.n })
  unfolding text_to
  whole_ends =
      record {
        before = [];
        order = order_is ∙ ap (λ (f : Formula Name). formula_after f []) (sym formula_is);
        names =
            ap (λ (l : List Token). names_among (symbols_of s l)) (take_all rule.tokens.n (tokens_in (cutting s)) (omega (arith, n_is)) ∙ ap tokens_in (cut_as s rule w))
            ∙ syntax.token_names (symbols_of s (is_rule s rule w).cut_tokens) (meaning_of s) (is_rule s rule w).derived ∙ sym (ap names_among order_is ∙ syntax.order_names (meaning_of s));
        within = omega (arith, len_is);
        tokens = omega (arith, n_is);
        fits = omega (arith, ap (λ (f : Formula Name). length (text_of f)) formula_is, text_shorter s (meaning_of s) (is_rule s rule w), (is_rule s rule w).short);
      }
