-- For proofs: what the private functions answer, of a row of symbols and of those that are kept. Assumes nothing.
use Rattle.std.specs.Prelude.{Bool, true, cond, ◌≡◌, ◌⊎◌, List, ◌++◌, ℕ, ◌+◌, ◌-◌, ◌≤◌, ◌<◌, eqb, ltb, length, get_or, take}
use Rattle.formula.specs.Formula.{Term}
use Rattle.spelling.specs.Symbols.{spelled}
use Rattle.spelling.specs.Kept.{symbol_at}

-- ---- where the second term of a row starts

-- how many terms end before a symbol, where so many end with it: - stands behind one, * and + behind two, the others behind none
unfoldable pub wanted_before : ℕ → ℕ → ℕ
wanted_before symbol wanted = cond (eqb symbol 2) wanted (cond (eqb symbol 3) (wanted + 1) (cond (eqb symbol 4) (wanted + 1) (wanted - 1)))

-- a row of two terms has its second there; a row of none has 0
pub record Starts (row : List ℕ) (len at : ℕ) : Type 0 where
  pub within : at ≤ len
  pub none : len ≡ 0 → at ≡ 0
  pub second : (s t : Term ℕ) → take len row ≡ spelled s ++ spelled t → at ≡ length (spelled s)

-- ---- whether symbols agree

-- the row's symbols from a place up to another are those of atom j from a place on
unfoldable pub Agree : List ℕ → ℕ → ℕ → List ℕ → ℕ → ℕ → Type 0
Agree kept j at row start end = (i : ℕ) → start ≤ i → i < end → get_or row i 0 ≡ symbol_at kept j (at + (i - start))

-- the row's two parts, of which the second starts there, stand in atom j with the second first
pub record Turned (kept : List ℕ) (j : ℕ) (row : List ℕ) (len second : ℕ) : Type 0 where
  pub some : 0 < second
  pub before : Agree kept j (len - second) row 0 second
  pub behind : Agree kept j 0 row second len

-- the row is that of atom j, or that with its parts exchanged
abbrev pub Matches : List ℕ → ℕ → List ℕ → ℕ → ℕ → Type 0
Matches kept j row len second = Agree kept j 0 row 0 len ⊎ Turned kept j row len second

-- the answer is whether it is so
pub record Tells (P : Type 0) (answer : Bool) : Type 0 where
  pub yes_is : answer ≡ true → P
  pub is_yes : P → answer ≡ true

-- ---- one atom more

-- the symbol at a place of a row; 0 past its end
unfoldable pub symbol_in : List ℕ → ℕ → ℕ → ℕ
symbol_in row len i = cond (ltb i len) (get_or row i 0) 0
