-- Kinds are counted one by one, and more kinds are never fewer. The names of symbols are counted by their kinds. Assumes nothing.
use mathlib.Core.Path.{◌≡◌, refl, sym, ap, ap₂, ◌∙◌}
use mathlib.Core.Bool.{Bool, true, false, cond}
use mathlib.Core.List.{List, [], ◌∷◌, ◌++◌, map}
use Prim.Native.Nat.{ℕ, ◌+◌, ◌≤◌, ◌<◌}
use native.Mathlib.Omega.{arith}
use lib.ListN.{length, take, drop, get_or, length-append, take-append-drop}
use lib.Seq.{take-take}
use Rattle.lists.specs.Search.{keep}
use Rattle.lists.proofs.Search.{keep_shorter, keep_append}
use Rattle.lists.proofs.Lists.{take_next}
use Rattle.formula.specs.declared.Sign.TheVariants.{Implies, Iff, Or, And, Plus, Times}
use Rattle.syntax.specs.Symbol.{Leaf, leaf, minus, tilde, opening, closing, comma, is_zero, binary, constant, relation, contact, part, symbol_names}
use Rattle.syntax.specs.Postfix.{names_among}
use Rattle.syntax.specs.Machine.{Sym}
use Rattle.syntax.specs.Reader.{code}
use Rattle.printing.specs.Places.{is_name, counted}

abbrev pub one_if : Bool → ℕ
one_if b = cond b 1 0

module _ (p : ℕ → Bool) where
  pub counted_append : (xs ys : List ℕ) → counted p (xs ++ ys) ≡ counted p xs + counted p ys
  unfolding counted
  counted_append xs ys = ap length (keep_append p xs ys) ∙ length-append (keep p xs) (keep p ys)

  pub counted_one : (x : ℕ) → counted p (x ∷ []) ≡ one_if (p x)
  unfolding counted
  counted_one x = go (p x)
    where
      go : (b : Bool) → length (cond b (x ∷ []) []) ≡ one_if b
      go true = refl
      go false = refl

  pub counted_few : (xs : List ℕ) → counted p xs ≤ length xs
  unfolding counted
  counted_few xs = keep_shorter p xs

  -- one more
  pub counted_next : (xs : List ℕ) (i : ℕ) → i < length xs → counted p (take (i + 1) xs) ≡ counted p (take i xs) + one_if (p (get_or xs i 0))
  counted_next xs i h = ap (counted p) (take_next xs i 0 h) ∙ counted_append (take i xs) (get_or xs i 0 ∷ []) ∙ ap (λ (n : ℕ). counted p (take i xs) + n) (counted_one (get_or xs i 0))

  pub counted_most : (xs : List ℕ) (i j : ℕ) → i ≤ j → counted p (take i xs) ≤ counted p (take j xs)
  counted_most xs i j h =
      omega (arith, ap (counted p) (take-take i j xs h), ap (counted p) (take-append-drop i (take j xs)), counted_append (take i (take j xs)) (drop i (take j xs)))

-- a symbol is as many names as its kind says
symbol_counted : (x : Sym) → one_if (is_name (code x)) ≡ length (symbol_names x)
symbol_counted (leaf Leaf.zero) = refl
symbol_counted (leaf Leaf.one) = refl
symbol_counted (leaf (Leaf.name y)) = refl
symbol_counted minus = refl
symbol_counted tilde = refl
symbol_counted opening = refl
symbol_counted closing = refl
symbol_counted comma = refl
symbol_counted is_zero = refl
symbol_counted (binary Implies) = refl
symbol_counted (binary Iff) = refl
symbol_counted (binary Or) = refl
symbol_counted (binary And) = refl
symbol_counted (binary Plus) = refl
symbol_counted (binary Times) = refl
symbol_counted (constant true) = refl
symbol_counted (constant false) = refl
symbol_counted (relation contact) = refl
symbol_counted (relation part) = refl

pub names_counted : (xs : List Sym) → counted is_name (map code xs) ≡ length (names_among xs)
unfolding counted names_among
names_counted [] = refl
names_counted (x ∷ xs) =
    counted_append is_name (code x ∷ []) (map code xs) ∙ ap₂ ◌+◌ (counted_one is_name (code x) ∙ symbol_counted x) (names_counted xs) ∙ sym (length-append (symbol_names x) (names_among xs))
