-- The code of a formula leaves the formula's value on the stack, whatever lies below: by recursion on the formula, each part's
-- code one after the other. A value on the stack is from a leaf that was read, so no stack is higher than there are leaves, and
-- those are at most half of the signs, rounded up. Assumes nothing.
use mathlib.Core.Path.{◌≡◌, refl, sym, ap, ◌∙◌, subst}
use mathlib.Core.List.{List, [], ◌∷◌, ◌++◌, append_assoc, append-nil}
use Prim.Native.Nat.{ℕ, suc, ◌+◌, ◌-◌, ◌≤◌, ◌<◌}
use native.Mathlib.Omega.{arith}
use lib.ListN.{length, length-append}
use Rattle.formula.specs.Formula.{Form}
use Rattle.formula.specs.Atoms.{atoms_of}
use Rattle.lists.specs.Search.{In, here}
use Rattle.lists.proofs.Search.{in_left, in_right}
use Rattle.kleene.specs.Code.{postfix, Class, class_of, joins, after, Takes, Safe}
use Rattle.kleene.specs.Rails.{Duo, value_d, step, exec}

-- ---- the value

module _ (v : ℕ → Duo) where
  exec_append : (xs ys : List ℕ) (st : List Duo) → exec v (xs ++ ys) st ≡ exec v ys (exec v xs st)
  unfolding exec
  exec_append [] ys st = refl
  exec_append (c ∷ xs) ys st = exec_append xs ys (step v c st)

  -- the code of one part, then the code `rest`
  exec_then : (xs rest : List ℕ) (a : Duo) (st : List Duo) → exec v xs st ≡ a ∷ st → exec v (xs ++ rest) st ≡ exec v rest (a ∷ st)
  exec_then xs rest a st h = exec_append xs rest st ∙ ap (exec v rest) h

  pub exec_postfix : (f : Form ℕ) (st : List Duo) → exec v (postfix f) st ≡ value_d v f ∷ st
  unfolding exec postfix value_d
  exec_postfix Form.truth st = refl
  exec_postfix Form.falsity st = refl
  exec_postfix (Form.atom i) st = refl
  exec_postfix (Form.negation f) st = exec_then (postfix f) (0 ∷ []) (value_d v f) st (exec_postfix f st)
  exec_postfix (Form.conjunction f g) st =
      exec_then (postfix f) (postfix g ++ 1 ∷ []) (value_d v f) st (exec_postfix f st)
      ∙ exec_then (postfix g) (1 ∷ []) (value_d v g) (value_d v f ∷ st) (exec_postfix g (value_d v f ∷ st))
  exec_postfix (Form.disjunction f g) st =
      exec_then (postfix f) (postfix g ++ 2 ∷ []) (value_d v f) st (exec_postfix f st)
      ∙ exec_then (postfix g) (2 ∷ []) (value_d v g) (value_d v f ∷ st) (exec_postfix g (value_d v f ∷ st))
  exec_postfix (Form.implication f g) st =
      exec_then (postfix f) (postfix g ++ 3 ∷ []) (value_d v f) st (exec_postfix f st)
      ∙ exec_then (postfix g) (3 ∷ []) (value_d v g) (value_d v f ∷ st) (exec_postfix g (value_d v f ∷ st))
  exec_postfix (Form.equivalence f g) st =
      exec_then (postfix f) (postfix g ++ 4 ∷ []) (value_d v f) st (exec_postfix f st)
      ∙ exec_then (postfix g) (4 ∷ []) (value_d v g) (value_d v f ∷ st) (exec_postfix g (value_d v f ∷ st))

-- ---- safety

-- the numbers in a list are below `many`
abbrev Under : ℕ → List ℕ → Type 0
Under many xs = (i : ℕ) → In i xs → i < many

-- the places of atoms and constants in a formula
abbrev leaves : Form ℕ → ℕ
leaves Form.truth = 1
leaves Form.falsity = 1
leaves (Form.atom i) = 1
leaves (Form.negation f) = leaves f
leaves (Form.conjunction f g) = leaves f + leaves g
leaves (Form.disjunction f g) = leaves f + leaves g
leaves (Form.implication f g) = leaves f + leaves g
leaves (Form.equivalence f g) = leaves f + leaves g

some_leaf : (f : Form ℕ) → 1 ≤ leaves f
some_leaf Form.truth = omega arith
some_leaf Form.falsity = omega arith
some_leaf (Form.atom i) = omega arith
some_leaf (Form.negation f) = some_leaf f
some_leaf (Form.conjunction f g) = omega (arith, some_leaf f)
some_leaf (Form.disjunction f g) = omega (arith, some_leaf f)
some_leaf (Form.implication f g) = omega (arith, some_leaf f)
some_leaf (Form.equivalence f g) = omega (arith, some_leaf f)

-- a sign that joins two parts
length_join : (c : ℕ) (xs ys : List ℕ) → length (xs ++ (ys ++ c ∷ [])) ≡ length xs + (length ys + 1)
length_join c xs ys = length-append xs (ys ++ c ∷ []) ∙ ap (λ (k : ℕ). length xs + k) (length-append ys (c ∷ []))

-- the leaves are at most half of the signs, rounded up: each but one has a sign that joins it to the others
leaves_half : (f : Form ℕ) → leaves f + leaves f ≤ suc (length (postfix f))
unfolding postfix
leaves_half Form.truth = omega arith
leaves_half Form.falsity = omega arith
leaves_half (Form.atom i) = omega arith
leaves_half (Form.negation f) = omega (arith, length-append (postfix f) (0 ∷ []), leaves_half f)
leaves_half (Form.conjunction f g) = omega (arith, length_join 1 (postfix f) (postfix g), leaves_half f, leaves_half g)
leaves_half (Form.disjunction f g) = omega (arith, length_join 2 (postfix f) (postfix g), leaves_half f, leaves_half g)
leaves_half (Form.implication f g) = omega (arith, length_join 3 (postfix f) (postfix g), leaves_half f, leaves_half g)
leaves_half (Form.equivalence f g) = omega (arith, length_join 4 (postfix f) (postfix g), leaves_half f, leaves_half g)

module _ (deep many : ℕ) where
  -- with room for m values more, the code is safe before any code that is safe with one value more
  abbrev Fits : List ℕ → ℕ → Type 0
  Fits xs m = (n : ℕ) (rest : List ℕ) → n + m ≤ deep → Safe deep many rest (suc n) → Safe deep many (xs ++ rest) n

  fits_not : (xs : List ℕ) (m : ℕ) → Fits xs m → Fits (xs ++ 0 ∷ []) m
  unfolding Safe
  fits_not xs m h n rest l s =
      subst (λ (k : List ℕ). Safe deep many k n) (sym (append_assoc xs (0 ∷ []) rest)) (h n (0 ∷ rest) l (omega arith, s))

  safe_join : (c : ℕ) → class_of c ≡ joins → (rest : List ℕ) (n : ℕ) → Safe deep many rest (suc n) → Safe deep many (c ∷ rest) (suc (suc n))
  unfolding Safe
  safe_join c q rest n s =
      let z : suc n ≡ suc (suc n) - 1 = omega arith in
      subst (λ (k : Class). Takes deep many k c (suc (suc n)) × Safe deep many rest (after k (suc (suc n)))) (sym q)
      (omega arith, subst (Safe deep many rest) z s)

  fits_join : (c : ℕ) → class_of c ≡ joins → (f g : Form ℕ) → Fits (postfix f) (leaves f) → Fits (postfix g) (leaves g)
      → Fits (postfix f ++ (postfix g ++ c ∷ [])) (leaves f + leaves g)
  fits_join c q f g h k n rest l s =
      let b = postfix g ++ c ∷ [] in
      subst (λ (j : List ℕ). Safe deep many j n) (sym (append_assoc (postfix f) b rest))
      (h n (b ++ rest) (omega arith)
      (subst (λ (j : List ℕ). Safe deep many j (suc n)) (sym (append_assoc (postfix g) (c ∷ []) rest))
      (k (suc n) (c ∷ rest) (omega (arith, some_leaf f)) (safe_join c q rest n s))))

  fits_postfix : (f : Form ℕ) → Under many (atoms_of f) → Fits (postfix f) (leaves f)
  unfolding Safe postfix
  fits_postfix Form.truth u = λ n rest l s. ((omega arith, omega arith), s)
  fits_postfix Form.falsity u = λ n rest l s. ((omega arith, omega arith), s)
  fits_postfix (Form.atom i) u = λ n rest l s. ((omega arith, omega (arith, u i here)), s)
  fits_postfix (Form.negation f) u = fits_not (postfix f) (leaves f) (fits_postfix f u)
  fits_postfix (Form.conjunction f g) u =
      fits_join 1 refl f g (fits_postfix f (λ i j. u i (in_left (atoms_of g) j))) (fits_postfix g (λ i j. u i (in_right (atoms_of f) j)))
  fits_postfix (Form.disjunction f g) u =
      fits_join 2 refl f g (fits_postfix f (λ i j. u i (in_left (atoms_of g) j))) (fits_postfix g (λ i j. u i (in_right (atoms_of f) j)))
  fits_postfix (Form.implication f g) u =
      fits_join 3 refl f g (fits_postfix f (λ i j. u i (in_left (atoms_of g) j))) (fits_postfix g (λ i j. u i (in_right (atoms_of f) j)))
  fits_postfix (Form.equivalence f g) u =
      fits_join 4 refl f g (fits_postfix f (λ i j. u i (in_left (atoms_of g) j))) (fits_postfix g (λ i j. u i (in_right (atoms_of f) j)))

  safe_within : (f : Form ℕ) → Under many (atoms_of f) → leaves f ≤ deep → Safe deep many (postfix f) 0
  unfolding Safe
  safe_within f u l =
      subst (λ (k : List ℕ). Safe deep many k 0) (append-nil (postfix f)) (fits_postfix f u 0 [] (omega arith) refl)

pub safe_postfix : (f : Form ℕ) → Under 16 (atoms_of f) → length (postfix f) ≤ 256 → Safe 128 16 (postfix f) 0
safe_postfix f u l = safe_within 128 16 f u (omega (arith, leaves_half f))
