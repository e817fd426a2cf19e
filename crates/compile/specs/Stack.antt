-- For proofs: the stack of sets, in words that are lent. Assumes nothing.
use Rattle.std.specs.Prelude.{Bool, ◌≡◌, List, [], ◌∷◌, ℕ, ◌+◌, ◌-◌, ◌*◌, ◌≤◌, ◌<◌, length, get_or, set}
use Rattle.evalset.specs.declared.EvalSet.{EvalSet}
use Rattle.evalset.specs.Most.{most}
use Rattle.evalset.specs.Sets.{mem, mem_at}
use Rattle.compile.specs.Kinds.{taken_by, names_by, set_by, symbol_by}

-- the sets that words hold, four words to a set
unfoldable pub sets_in : List ℕ → List EvalSet
sets_in [] = []
sets_in (a ∷ []) = []
sets_in (a ∷ (b ∷ [])) = []
sets_in (a ∷ (b ∷ (c ∷ []))) = []
sets_in (a ∷ (b ∷ (c ∷ (d ∷ ws)))) = record { words = a ∷ b ∷ c ∷ d ∷ [] } ∷ sets_in ws

-- a set with the members x is put at place h
pub record Puts (ws : List ℕ) (h : ℕ) (x : ℕ → Bool) (ws' : List ℕ) : Type 0 where
  pub written : EvalSet
  pub members : mem written ≡ x
  pub stored : sets_in ws' ≡ set (sets_in ws) h written
  pub long : length ws' ≡ length ws

-- a symbol puts at most one set on the stack and takes at most two away, and none is left in the end: the stack is never higher than two
-- thirds of the order, and there is room for two sets more. Of 32 symbols 24 sets are enough, of 256 symbols 172
abbrev pub Roomy : List ℕ → List EvalSet → Type 0
Roomy order stack = 2 * length order + 4 ≤ 3 * length stack

-- a term's symbol finds the sets that it takes, and there is room for its own set and for two more, and for its symbol
pub record TermAsked (kind : ℕ) (numbers : List ℕ) (words height len used : ℕ) : Type 0 where
  pub enough : taken_by kind ≤ height
  pub room : 4 * height + 8 ≤ words
  pub short : len < 256
  pub few : used < 256
  pub small : get_or numbers used 0 < most

-- its set is put for those that it takes, and its symbol is put into the row
pub record TermPassed (kind : ℕ) (numbers ws row : List ℕ) (height len used : ℕ) (ws' row' : List ℕ) (height' len' used' : ℕ) : Type 0 where
  pub puts : Puts ws (height - taken_by kind) (set_by kind (get_or numbers used 0) (mem_at (sets_in ws) (height - taken_by kind)) (mem_at (sets_in ws) (height - taken_by kind + 1))) ws'
  pub shown : row' ≡ set row len (symbol_by kind (get_or numbers used 0))
  pub higher : height' ≡ height - taken_by kind + 1
  pub longer : len' ≡ len + 1
  pub further : used' ≡ used + names_by kind
