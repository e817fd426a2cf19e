-- For proofs: what the private functions compute. A job is a byte to write, an operand at a level (0 to 3), or a name (4). Assumes nothing.
use Rattle.std.specs.Prelude.{cond, List, [], ◌∷◌, ◌++◌, map, ℕ, suc, ◌+◌, ◌*◌, ltb, length, take, drop, get_or}
use Rattle.lists.specs.Search.{collect}
use Rattle.formula.specs.declared.Sign.{Sign}
use Rattle.formula.specs.declared.Sign.TheVariants.{Implies, Iff, Or, And, Plus, Times}
use Rattle.formula.specs.Sign.{level_of, tightest}
use Rattle.lexer.specs.Text.{bytes}
use Rattle.syntax.specs.Symbol.{binary}
use Rattle.printing.specs.Text.{spelling}

-- a binary sign between its operands
abbrev pub sign_jobs : Sign → List ℕ
sign_jobs b = level_of b ∷ spelling (binary b) ++ suc (level_of b) ∷ []

abbrev binaries : List (List ℕ)
binaries = map sign_jobs (Implies ∷ Iff ∷ Or ∷ And ∷ Plus ∷ Times ∷ [])

-- the kinds of tokens from - on, in the order of their numbers
abbrev others : List (List ℕ)
others =
    (bytes "-" ++ tightest ∷ [])
    ∷ (bytes "~" ++ tightest ∷ [])
    ∷ bytes "("
    ∷ bytes ")"
    ∷ (0 ∷ bytes "=0")
    ∷ bytes ","
    ∷ bytes "T"
    ∷ bytes "F"
    ∷ (bytes "C(" ++ 0 ∷ bytes "," ++ 0 ∷ bytes ")")
    ∷ (bytes "<=(" ++ 0 ∷ bytes "," ++ 0 ∷ bytes ")")
    ∷ bytes "0"
    ∷ bytes "1"
    ∷ (4 ∷ [])
    ∷ []

-- a row of the table: how many jobs there are, the jobs, and dots up to eight numbers
abbrev row : List ℕ → List ℕ
row js = length js ∷ (js ++ drop (length js) (bytes "......."))

-- the last six rows are the binary signs in a pair of parentheses
unfoldable pub table : List ℕ
table = collect row (binaries ++ others ++ map (λ (js : List ℕ). bytes "(" ++ js ++ bytes ")") binaries)

-- the jobs of a row
unfoldable pub jobs_at : ℕ → List ℕ
unfolding table
jobs_at r = take (get_or table (r * 8) 0) (drop (r * 8 + 1) table)

-- the row of the kind c where level l is asked for: the left operand of a binary sign has the sign's own level
unfoldable pub row_of : ℕ → ℕ → ℕ
unfolding table
row_of c l = cond (ltb c 6) (cond (ltb (get_or table (c * 8 + 1) 0) l) (c + 19) c) c
