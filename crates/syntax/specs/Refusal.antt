-- What is meant: where the tokens are refused: "tokens up to here begin no formula, or text ends early | token's first byte, or the text's
-- length". A place is a count of tokens here; what the first byte of a token is, the cut of the text says. Assumes nothing.
use Rattle.std.specs.Prelude.{◌≡◌, List, [], ◌∷◌, ◌++◌, ℕ, length}
use Rattle.formula.specs.Formula.{Formula}
use Rattle.syntax.specs.Symbol.{Symbol}
use Rattle.syntax.specs.Grammar.{Derives, Begins}

-- the tokens pre cannot be read on with what stands after them: nothing does, and they are no formula ("text ends early"),
-- or a token does, and with it they begin none ("tokens up to here begin no formula")
abbrev pub Stops : {N : Type 0} → List (Symbol N) → List (Symbol N) → Type 0
Stops {N} pre [] = (f : Formula N) → Derives pre f → ⊥
Stops pre (x ∷ rest) = Begins (pre ++ x ∷ []) → ⊥

-- the tokens xs are refused at the place j: those before it begin a formula, and cannot be read on with what stands there
pub record Refusal {N : Type 0} (xs : List (Symbol N)) (j : ℕ) : Type 0 where
  pub pre : List (Symbol N)
  pub post : List (Symbol N)
  pub parts : pre ++ post ≡ xs
  pub place : j ≡ length pre
  pub begins : Begins pre
  pub stops : Stops pre post
