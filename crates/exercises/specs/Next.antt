-- For proofs: which tokens may come behind a string, as far as its last token and whether another is to come tell. Assumes nothing.
use Rattle.std.specs.Prelude.{Bool, true, false, not, ◌&&◌, ◌||◌, List, [], ◌∷◌, ℕ}
use Rattle.std.specs.Bool.{beq}
use Rattle.lists.specs.Search.{keep, below}
use Rattle.syntax.specs.Symbol.{leaf, minus, tilde, opening, closing, comma, is_zero, binary, constant, relation}
use Rattle.syntax.specs.Machine.{Sym}
use Rattle.exercises.specs.Tokens.{count, token_at}

-- a value begins with the token
abbrev pub begins : Sym → Bool
begins (leaf x) = true
begins minus = true
begins tilde = true
begins opening = true
begins closing = false
begins comma = false
begins is_zero = false
begins (binary b) = false
begins (constant c) = true
begins (relation c) = true

-- behind the token a value comes
abbrev pub awaits : Sym → Bool
awaits (leaf x) = false
awaits minus = true
awaits tilde = true
awaits opening = true
awaits closing = false
awaits comma = true
awaits is_zero = false
awaits (binary b) = true
awaits (constant c) = false
awaits (relation c) = true

-- a formula may end with the token
abbrev pub ends : Sym → Bool
ends (leaf x) = false
ends minus = false
ends tilde = false
ends opening = false
ends closing = true
ends comma = false
ends is_zero = true
ends (binary b) = false
ends (constant c) = true
ends (relation c) = false

-- behind the string a value comes; b where there is no string
abbrev pub awaiting : Bool → List ℕ → Bool
awaiting b [] = b
awaiting b (k ∷ ks) = awaiting (awaits (token_at k)) ks

-- the token may come where a value does or does not, as the last one or not
abbrev pub may : Bool → Bool → Sym → Bool
may awaited last x = beq awaited (begins x) && (not last || ends x)

-- the tokens that may
unfoldable pub nexts : Bool → Bool → List ℕ
nexts awaited last = keep (λ k. may awaited last (token_at k)) (below count)
