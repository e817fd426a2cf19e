-- How many bytes tokens take, one after the other. Assumes nothing.
use mathlib.Core.Path.{◌≡◌, refl, ap, ◌∙◌}
use mathlib.Core.List.{List, [], ◌∷◌, ◌++◌}
use Prim.Native.Nat.{ℕ, suc, ◌+◌, ◌≤◌, ◌<◌}
use native.Mathlib.Omega.{arith}
use lib.Dec.{ltb}
use lib.ListN.{length, length-append}
use borrow.Author.Tests.{ltb-true, lt-ltb}
use Rattle.lists.specs.Search.{collect}
use Rattle.lists.proofs.Truth.{cases, cond_holds}
use Rattle.formula.specs.Formula.{Name}
use Rattle.syntax.specs.Symbol.{Symbol, opening, closing}
use Rattle.printing.specs.Tokens.{OwnSign}
use Rattle.printing.specs.Text.{spelling, written}
use Rattle.printing.proofs.Levels.{own_level, at_level}

unfoldable pub size : List (Symbol Name) → ℕ
size [] = 0
size (x ∷ xs) = length (spelling x) + size xs

pub size_written : (xs : List (Symbol Name)) → length (written xs) ≡ size xs
unfolding written size
size_written [] = refl
size_written (x ∷ xs) = length-append (spelling x) (collect spelling xs) ∙ ap (λ (n : ℕ). length (spelling x) + n) (size_written xs)

pub size_append : (xs ys : List (Symbol Name)) → size (xs ++ ys) ≡ size xs + size ys
unfolding size
size_append [] ys = omega arith
size_append (x ∷ xs) ys = omega (arith, size_append xs ys)

-- a pair of parentheses takes two bytes
pub size_pair : (xs : List (Symbol Name)) → size (opening ∷ xs ++ closing ∷ []) ≡ size xs + 2
unfolding size
size_pair xs = omega (arith, size_append xs (closing ∷ []))

-- two lists round a token
pub size_between : (x : Symbol Name) (a b c d : List (Symbol Name)) → size a ≤ size c → size b ≤ size d → size (a ++ x ∷ b) ≤ size (c ++ x ∷ d)
unfolding size
size_between x a b c d g h = omega (arith, size_append a (x ∷ b), size_append c (x ∷ d))

-- ---- an operand at a level

-- is at most two bytes longer than its tokens, and never shorter
pub operand_size : (l : ℕ) (o : OwnSign) (ts : List (Symbol Name)) → (size ts ≤ size (at_level l o ts)) × (size (at_level l o ts) ≤ size ts + 2)
operand_size l o ts =
    cond_holds (λ (us : List (Symbol Name)). (size ts ≤ size us) × (size us ≤ size ts + 2)) (ltb (own_level o) l) (opening ∷ ts ++ closing ∷ []) ts
    (omega (arith, size_pair ts), omega (arith, size_pair ts))
    (omega arith, omega arith)

-- is no longer where a looser level is asked for
pub operand_looser : (l : ℕ) (o : OwnSign) (ts : List (Symbol Name)) → size (at_level l o ts) ≤ size (at_level (suc l) o ts)
operand_looser l o ts =
    cases (ltb (own_level o) l)
    (λ e. let h : own_level o < suc l = omega (arith, ltb-true (own_level o) l e) in rw (e, lt-ltb (own_level o) (suc l) h) (omega arith))
    (λ e. rw e (operand_size (suc l) o ts).0)
