-- The names of a formula's order are counted token by token: a token is a name exactly if its symbol is one. Assumes nothing.
use mathlib.Core.Path.{◌≡◌, refl, sym, ap, ap₂, ◌∙◌}
use mathlib.Core.List.{List, [], ◌∷◌}
use Prim.Native.Nat.{ℕ, ◌+◌, ◌≤◌, ◌<◌}
use native.Mathlib.Omega.{arith}
use lib.ListN.{length, get_or, drop, length-append, drop_of_length-le}
use Rattle.lists.proofs.Lists.{rest}
use Rattle.formula.specs.Formula.{Formula, Name}
use Rattle.formula.specs.Names.{formula_names}
use Rattle.syntax.specs.Postfix.{postfix, symbol_names, names_among}
use Rattle.syntax.specs.Machine.{Sym}
use Rattle.syntax.specs.Reader.{codes}
use Rattle.syntax.proofs.Claims.{order_names}
use Rattle.compile.specs.Kinds.{names_by}
use Rattle.compile.proofs.Steps.{names_by_lem, one_at_most}
use Rattle.ruleset.specs.Counted.{name_count}

-- at most one name a token
pub count_few : (kinds : List ℕ) → name_count kinds ≤ length kinds
unfolding name_count
count_few [] = omega arith
count_few (k ∷ ks) = omega (arith, one_at_most k, count_few ks)

-- the token at a place, and those after it
pub count_step : (kinds : List ℕ) (i : ℕ) → i < length kinds → name_count (drop i kinds) ≡ names_by (get_or kinds i 0) + name_count (drop (i + 1) kinds)
unfolding name_count
count_step kinds i l = ap name_count (rest kinds i 0 l)

-- none after the last
pub count_end : (kinds : List ℕ) (i : ℕ) → length kinds ≤ i → name_count (drop i kinds) ≡ 0
unfolding name_count
count_end kinds i l = ap name_count (drop_of_length-le kinds l)

symbols_counted : (xs : List Sym) → name_count (codes xs) ≡ length (names_among xs)
unfolding name_count names_among codes
symbols_counted [] = refl
symbols_counted (x ∷ xs) = ap₂ ◌+◌ (sym (names_by_lem x)) (symbols_counted xs) ∙ sym (length-append (symbol_names x) (names_among xs))

pub names_counted : (f : Formula Name) → name_count (codes (postfix f)) ≡ length (formula_names f)
names_counted f = symbols_counted (postfix f) ∙ ap length (order_names f)
