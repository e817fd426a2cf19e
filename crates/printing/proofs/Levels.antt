-- The pairs of parentheses are those that the levels of the grammar ask for: an operand gets one exactly if its own sign is of a looser
-- level than its position asks for. Assumes nothing.
use mathlib.Core.Path.{◌≡◌, refl, sym, ap}
use mathlib.Core.Bool.{Bool, cond}
use mathlib.Core.List.{List, [], ◌∷◌, ◌++◌}
use Prim.Native.Nat.{ℕ, suc, ◌≤◌, ◌<◌}
use native.Mathlib.Omega.{arith}
use lib.Dec.{ltb, leb-suc-suc}
use borrow.Author.Tests.{lt-ltb, le-ltb}
use Rattle.formula.specs.declared.Sign.{Sign}
use Rattle.formula.specs.declared.Sign.TheVariants.{Implies, Iff, Or, And, Plus, Times}
use Rattle.formula.specs.Sign.{level_of, tightest}
use Rattle.syntax.specs.Symbol.{Symbol, opening, closing}
use Rattle.printing.specs.Tokens.{OwnSign, own, none, Position, left_of, right_of, after_prefix, paired, operand}

-- the level of an own sign; what has none binds tightest
abbrev pub own_level : OwnSign → ℕ
own_level (own b) = level_of b
own_level none = tightest

-- the level that a position asks for
abbrev pub asked : Position → ℕ
asked (left_of b) = level_of b
asked (right_of b) = suc (level_of b)
asked after_prefix = tightest

level_most : (b : Sign) → level_of b < tightest
level_most Implies = omega arith
level_most Iff = omega arith
level_most Or = omega arith
level_most And = omega arith
level_most Plus = omega arith
level_most Times = omega arith

pub asked_most : (p : Position) → asked p ≤ tightest
asked_most (left_of b) = omega (arith, level_most b)
asked_most (right_of b) = level_most b
asked_most after_prefix = omega arith

paired_level : (o : OwnSign) (p : Position) → paired o p ≡ ltb (own_level o) (asked p)
paired_level (own c) (left_of b) = refl
paired_level (own c) (right_of b) = sym (leb-suc-suc (level_of c) (level_of b))
paired_level (own c) after_prefix = sym (lt-ltb (level_of c) tightest (level_most c))
paired_level none p = sym (le-ltb tightest (asked p) (asked_most p))

module _ {N : Type 0} where
  -- the tokens ts of an operand where level l is asked for
  abbrev pub at_level : ℕ → OwnSign → List (Symbol N) → List (Symbol N)
  at_level l o ts = cond (ltb (own_level o) l) (opening ∷ ts ++ closing ∷ []) ts

  pub by_level : (p : Position) (o : OwnSign) (ts : List (Symbol N)) → operand p o ts ≡ at_level (asked p) o ts
  by_level p o ts = ap (λ (t : Bool). cond t (opening ∷ ts ++ closing ∷ []) ts) (paired_level o p)

  -- what binds as tightly as is asked for gets no pair
  pub no_pair : (l : ℕ) (o : OwnSign) (ts : List (Symbol N)) → l ≤ own_level o → at_level l o ts ≡ ts
  no_pair l o ts h = ap (λ (t : Bool). cond t (opening ∷ ts ++ closing ∷ []) ts) (le-ltb (own_level o) l h)
