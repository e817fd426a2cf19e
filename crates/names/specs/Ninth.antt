-- What is meant: the names of a text at their places, and refusal 7 of the table of calls, "7 at the ninth name" (document 02, T-08),
-- carrying "that name's first byte". Assumes nothing.
use Rattle.std.specs.Prelude.{◌≡◌, List, [], ◌∷◌, ◌++◌, map, ℕ, length}
use Rattle.formula.specs.Formula.{Name}
use Rattle.lexer.specs.Token.{Token, bytes_of}
use Rattle.syntax.specs.Symbol.{symbol_of, symbol_names}
use Rattle.lists.specs.Search.{In}
use Rattle.evalset.specs.Most.{most}
use Rattle.contact.specs.Numbering.{distinct, same_name}

-- a name and the place of its first byte
pub record NameAt : Type 0 where
  pub name : Name
  pub place : ℕ

abbrev pub name_at : ℕ → Name → NameAt
name_at p w = record { name = w; place = p }

-- the tokens of a text that are names, left to right, each by its bytes and the place of its first byte
unfoldable pub places_of : List ℕ → List Token → List NameAt
places_of s [] = []
places_of s (t ∷ ts) = map (name_at t.start) (symbol_names (symbol_of t.kind (bytes_of s t))) ++ places_of s ts

-- names without their places
abbrev pub names_at : List NameAt → List Name
names_at xs = map (λ (x : NameAt). x.name) xs

-- behind the names of the earlier texts, one at place p is the ninth different one, at its first place
pub record NinthAt (earlier : List Name) (xs : List NameAt) (p : ℕ) : Type 0 where
  pub before : List NameAt
  pub name : Name
  pub after : List NameAt
  pub split : xs ≡ before ++ name_at p name ∷ after
  -- there are eight different names before it
  pub eight : length (distinct same_name (earlier ++ names_at before)) ≡ most
  -- and it is none of them
  pub new : In name (earlier ++ names_at before) → ⊥
