-- For proofs: where a formula ends in a rule's order, and what the private functions say of its text. Assumes nothing.
use Rattle.std.specs.Prelude.{◌≡◌, Bool, true, cond, List, ℕ, ◌+◌, ◌-◌, ◌≤◌, ◌<◌, eqb, length, take, drop}
use Rattle.lists.specs.Search.{keep}
use Rattle.formula.specs.Formula.{Formula, Name}
use Rattle.lexer.specs.Token.{Token}
use Rattle.lexer.specs.Cutter.{cutting}
use Rattle.syntax.specs.Symbol.{Symbol}
use Rattle.syntax.specs.Postfix.{formula_after, postfix, formula_of, names_among}
use Rattle.syntax.specs.Rule.{meaning_of, tokens_in}
use Rattle.syntax.specs.RuleText.{symbols_of}
use Rattle.printing.specs.Text.{text_of}
use Rattle.printing.specs.declared.Place.{Place}

-- the first k symbols of a rule's order
abbrev pub order_to : List ℕ → ℕ → List (Symbol Name)
order_to s k = take k (postfix (meaning_of s))

-- the names of its first j tokens
abbrev pub names_to : List ℕ → List Token → ℕ → List Name
names_to s ts j = names_among (symbols_of s (take j ts))

-- the formula that the first k symbols end with, and its text
abbrev pub formula_to : List ℕ → ℕ → Formula Name
formula_to s k = formula_of (order_to s k)

unfoldable pub text_to : List ℕ → ℕ → List ℕ
text_to s k = text_of (formula_to s k)

-- the symbols and the tokens that lead up to a place end with one formula, of at most 256 bytes
pub record Ends (s : List ℕ) (p : Place) : Type 0 where
  pub before : List (Symbol Name)
  pub order : order_to s p.order ≡ formula_after (formula_to s p.order) before
  pub names : names_to s (tokens_in (cutting s)) p.tokens ≡ names_among (order_to s p.order)
  pub within : p.order ≤ length (postfix (meaning_of s))
  pub tokens : p.tokens ≤ length (tokens_in (cutting s))
  pub fits : length (text_to s p.order) ≤ 256

-- a text stands at the end of 256 bytes, from the place r on
pub record Filled (ws made : List ℕ) (r : ℕ) : Type 0 where
  pub within : r ≤ 256
  pub whole : length made ≡ 256
  pub text : drop r made ≡ ws

-- ---- where an atom ends

-- a token makes an atom: =0, C or <=
unfoldable pub makes_atom : ℕ → Bool
makes_atom c = cond (eqb c 10) true (cond (eqb c 14) true (eqb c 15))

abbrev pub is_name : ℕ → Bool
is_name c = eqb c 18

-- how many of these kinds pass
unfoldable pub counted : (ℕ → Bool) → List ℕ → ℕ
counted p cs = length (keep p cs)

-- an order in 256 numbers has an atom with this number, and as many names as the tokens
pub record Seekable (order kinds : List ℕ) (which : ℕ) : Type 0 where
  pub atoms : which < counted makes_atom order
  pub names : counted is_name order ≡ counted is_name kinds
  pub room : length order ≡ 256
  pub wide : length kinds ≡ 256

-- so many atoms are still to be passed, up to the end of the one with this number; the tokens up to the place have the names of the order
-- up to it, and none is past the last name
pub record Seeking (order kinds : List ℕ) (which left : ℕ) (p : Place) : Type 0 where
  pub atoms : counted makes_atom (take p.order order) + left ≡ which + 1
  pub last : counted makes_atom (take (p.order - 1) order) ≤ which
  pub names : counted is_name (take p.tokens kinds) ≡ counted is_name (take p.order order)
  pub tokens : (n : ℕ) → counted is_name (take n kinds) ≡ counted is_name kinds → p.tokens ≤ n
