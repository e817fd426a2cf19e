-- The names that a rule text can have, and which tokens have them. Assumes nothing.
use mathlib.Core.Path.{◌≡◌, refl}
use mathlib.Core.Logic.{◌⊎◌, inl, inr}
use mathlib.Core.List.{List, [], ◌∷◌}
use Prim.Native.Nat.{◌≤◌}
use native.Mathlib.Omega.{arith}
use lib.ListN.{length}
use Rattle.lists.specs.Search.{In}
use Rattle.lists.proofs.Search.{in_left, in_right}
use Rattle.formula.specs.Formula.{Name}
use Rattle.lexer.specs.Spelling.{run_kind}
use Rattle.lexer.specs.Cutting.{AllAlphanumeric}
use Rattle.lexer.specs.Arrays.{code_of}
use Rattle.lexer.specs.declared.Kind.{Kind}
use Rattle.syntax.specs.Symbol.{Symbol, symbol_of, symbol_names}
use Rattle.syntax.specs.Postfix.{names_among}

-- 1 to 16 letters and digits that are no constant and not the contact sign
pub record IsName (w : Name) : Type 0 where
  pub some : 1 ≤ length w
  pub short : length w ≤ 16
  pub letters : AllAlphanumeric w
  pub other : run_kind w ≡ Kind.Name

-- each of these is one
abbrev pub AreNames : List Name → Type 0
AreNames ws = (w : Name) → In w ws → IsName w

-- the names of a token, and those of the tokens after it
pub named_parts : (x : Symbol Name) (xs : List (Symbol Name)) → AreNames (names_among (x ∷ xs)) → AreNames (symbol_names x) × AreNames (names_among xs)
unfolding names_among
named_parts x xs h = (λ w i. h w (in_left (names_among xs) i), λ w i. h w (in_right (symbol_names x) i))

-- a token of the kind k with the bytes w: a name has itself, another none
abbrev pub NamesOf : Kind → Name → Type 0
NamesOf k w = ((k ≡ Kind.Name) × (symbol_names (symbol_of k w) ≡ w ∷ [])) ⊎ ((code_of k ≡ 18 → ⊥) × (symbol_names (symbol_of k w) ≡ []))

pub names_of_lem : (k : Kind) (w : Name) → NamesOf k w
names_of_lem Kind.Implies w = inr (λ e. omega arith, refl)
names_of_lem Kind.Iff w = inr (λ e. omega arith, refl)
names_of_lem Kind.Or w = inr (λ e. omega arith, refl)
names_of_lem Kind.And w = inr (λ e. omega arith, refl)
names_of_lem Kind.Plus w = inr (λ e. omega arith, refl)
names_of_lem Kind.Times w = inr (λ e. omega arith, refl)
names_of_lem Kind.Minus w = inr (λ e. omega arith, refl)
names_of_lem Kind.Not w = inr (λ e. omega arith, refl)
names_of_lem Kind.Open w = inr (λ e. omega arith, refl)
names_of_lem Kind.Close w = inr (λ e. omega arith, refl)
names_of_lem Kind.IsZero w = inr (λ e. omega arith, refl)
names_of_lem Kind.Comma w = inr (λ e. omega arith, refl)
names_of_lem Kind.Truth w = inr (λ e. omega arith, refl)
names_of_lem Kind.Falsity w = inr (λ e. omega arith, refl)
names_of_lem Kind.Contact w = inr (λ e. omega arith, refl)
names_of_lem Kind.Part w = inr (λ e. omega arith, refl)
names_of_lem Kind.Zero w = inr (λ e. omega arith, refl)
names_of_lem Kind.One w = inr (λ e. omega arith, refl)
names_of_lem Kind.Name w = inl (refl, refl)
