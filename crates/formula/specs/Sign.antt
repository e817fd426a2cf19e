-- What is meant: "Binding, loosest first: "->" and "<->" on one level, then | and +, then & and *, then ~ and -." Only the reader needs
-- `joins_terms`. Assumes nothing.
use Rattle.std.specs.Prelude.{Bool, true, false, ℕ}
use Rattle.formula.specs.declared.Sign.{Sign}
use Rattle.formula.specs.declared.Sign.TheVariants.{Implies, Iff, Or, And, Plus, Times}

-- the level of each binary sign
abbrev pub level_of : Sign → ℕ
level_of Implies = 0
level_of Iff = 0
level_of Or = 1
level_of And = 2
level_of Plus = 1
level_of Times = 2

-- the level of ~ and -, and of all that has no binary sign outside its parentheses
abbrev pub tightest : ℕ
tightest = 3

-- + and * join terms, the others formulas
abbrev pub joins_terms : Sign → Bool
joins_terms Implies = false
joins_terms Iff = false
joins_terms Or = false
joins_terms And = false
joins_terms Plus = true
joins_terms Times = true
