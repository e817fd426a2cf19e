-- A row against the symbols that are kept of an atom, as lists: the row agrees with them exactly if it is their list, and its two parts
-- exchanged agree exactly if the second part, and the first behind it, are their list. Assumes nothing.
use mathlib.Core.Bool.{Bool, true, false}
use mathlib.Core.Path.{◌≡◌, refl, sym, ap, subst, ◌∙◌}
use mathlib.Core.Logic.{◌⊎◌, inl, inr, ⊎_elim}
use mathlib.Core.List.{List, ◌++◌}
use Prim.Native.Nat.{ℕ, ◌+◌, ◌-◌, ◌≤◌, ◌<◌}
use native.Mathlib.Omega.{arith}
use lib.ListN.{length, get_or, take, length-append, get_or-append}
use lib.Seq.{get_or-take, get_or-append-add, length-take-le, ext_get_or}
use Rattle.lists.proofs.Truth.{clash, side}
use Rattle.spelling.specs.Kept.{symbol_at}
use Rattle.spelling.specs.Comparing.{Agree, Turned, Tells}

-- ---- the answer on the one or the other

module _ {P Q : Type 0} where
  pub tells_one : P → Tells (P ⊎ Q) true
  tells_one p = record { yes_is = λ t. inl p; is_yes = λ m. refl }

  pub tells_other : {answer : Bool} → (P → ⊥) → Tells Q answer → Tells (P ⊎ Q) answer
  tells_other n q = record { yes_is = λ t. inr (q.yes_is t); is_yes = λ m. ⊎_elim (λ p. absurd (n p)) q.is_yes m }

-- it is not so
pub tells_not : {P : Type 0} → (P → ⊥) → Tells P false
tells_not n = record { yes_is = λ t. clash t refl; is_yes = λ p. absurd (n p) }

-- ---- the symbols one after the other

module _ (kept : List ℕ) (j at : ℕ) (row : List ℕ) (start : ℕ) where
  pub agree_none : Agree kept j at row start start
  unfolding Agree
  agree_none i l r = absurd (omega arith)

  pub agree_more : (n : ℕ) → Agree kept j at row start n → get_or row n 0 ≡ symbol_at kept j (at + (n - start)) → Agree kept j at row start (n + 1)
  unfolding Agree
  agree_more n h e i l r = ⊎_elim (λ q. h i l q) (λ q. let z : i ≡ n = omega arith in ap (λ (m : ℕ). get_or row m 0) z ∙ e ∙ sym (ap (λ (m : ℕ). symbol_at kept j (at + (m - start))) z)) (side i n)

  module _ (end n : ℕ) where
    -- all agree
    pub agree_whole : n ≡ end → Agree kept j at row start n → Tells (Agree kept j at row start end) true
    agree_whole e h = record { yes_is = λ t. subst (λ (m : ℕ). Agree kept j at row start m) e h; is_yes = λ g. refl }

    -- one does not
    pub agree_not : start ≤ n → n < end → (get_or row n 0 ≡ symbol_at kept j (at + (n - start)) → ⊥) → Tells (Agree kept j at row start end) false
    unfolding Agree
    agree_not l r e = tells_not (λ h. e (h n l r))

-- ---- the lists

module _ (kept : List ℕ) (j : ℕ) (row : List ℕ) (len : ℕ) (within : len ≤ length row) (symbols : List ℕ) (long : length symbols ≡ len)
    (there : (i : ℕ) → i < length symbols → symbol_at kept j i ≡ get_or symbols i 0) where
  -- the row as it is

  pub agree_list : Agree kept j 0 row 0 len → take len row ≡ symbols
  unfolding Agree
  agree_list h =
      let n : length (take len row) ≡ len = length-take-le len row within in
      ext_get_or 0 (take len row) symbols (n ∙ sym long) (λ i l. let e : 0 + (i - 0) ≡ i = omega arith in
      get_or-take len row i 0 (omega arith) ∙ h i (omega arith) (omega arith) ∙ ap (symbol_at kept j) e ∙ there i (omega arith))

  pub list_agree : take len row ≡ symbols → Agree kept j 0 row 0 len
  unfolding Agree
  list_agree h i l r =
      let e : 0 + (i - 0) ≡ i = omega arith in
      sym (get_or-take len row i 0 r) ∙ ap (λ (xs : List ℕ). get_or xs i 0) h ∙ sym (ap (symbol_at kept j) e ∙ there i (omega arith))

  -- its parts exchanged

  module _ (p q : List ℕ) (parts : take len row ≡ p ++ q) (second : ℕ) (starts : second ≡ length p) where
    sizes : len ≡ length p + length q
    sizes = sym (length-take-le len row within) ∙ ap length parts ∙ length-append p q

    first_at : (i : ℕ) → i < length p → get_or row i 0 ≡ get_or p i 0
    first_at i l =
        sym (get_or-take len row i 0 (omega (arith, sizes))) ∙ ap (λ (xs : List ℕ). get_or xs i 0) parts ∙ get_or-append p q 0 i l

    second_at : (i : ℕ) → i < length q → get_or row (length p + i) 0 ≡ get_or q i 0
    second_at i l =
        sym (get_or-take len row (length p + i) 0 (omega (arith, sizes))) ∙ ap (λ (xs : List ℕ). get_or xs (length p + i) 0) parts ∙ get_or-append-add p q i 0

    pub turned_list : Turned kept j row len second → q ++ p ≡ symbols
    unfolding Agree
    turned_list h = ext_get_or 0 (q ++ p) symbols (length-append q p ∙ (omega (arith, sizes))) (λ i l. ⊎_elim (low i) (high i (omega (arith, length-append q p))) (side i (length q)))
      where
        low : (i : ℕ) → i < length q → get_or (q ++ p) i 0 ≡ get_or symbols i 0
        low i l =
            let e : 0 + (length p + i - second) ≡ i = omega arith in
            get_or-append q p 0 i l ∙ sym (second_at i l) ∙ h.behind (length p + i) (omega arith) (omega (arith, sizes))
            ∙ ap (symbol_at kept j) e ∙ there i (omega (arith, sizes))

        high : (i : ℕ) → i < length q + length p → length q ≤ i → get_or (q ++ p) i 0 ≡ get_or symbols i 0
        high i m l =
            let e : i ≡ length q + (i - length q) = omega arith in
            let f : len - second + (i - length q - 0) ≡ i = omega (arith, sizes) in
            ap (λ (n : ℕ). get_or (q ++ p) n 0) e ∙ get_or-append-add q p (i - length q) 0 ∙ sym (first_at (i - length q) (omega arith))
            ∙ h.before (i - length q) (omega arith) (omega arith) ∙ ap (symbol_at kept j) f ∙ there i (omega (arith, sizes))

    pub list_turned : 0 < length p → q ++ p ≡ symbols → Turned kept j row len second
    unfolding Agree
    list_turned s h = record { some = omega arith; before = before; behind = behind }
      where
        before : (i : ℕ) → 0 ≤ i → i < second → get_or row i 0 ≡ symbol_at kept j (len - second + (i - 0))
        before i l r =
            let e : len - second + (i - 0) ≡ length q + i = omega (arith, sizes) in
            first_at i (omega arith) ∙ sym (ap (symbol_at kept j) e ∙ there (length q + i) (omega (arith, sizes))
            ∙ ap (λ (xs : List ℕ). get_or xs (length q + i) 0) (sym h) ∙ get_or-append-add q p i 0)

        behind : (i : ℕ) → second ≤ i → i < len → get_or row i 0 ≡ symbol_at kept j (0 + (i - second))
        behind i l r =
            let e : 0 + (i - second) ≡ i - second = omega arith in
            let f : i ≡ length p + (i - second) = omega arith in
            let m : i - second < length q = omega (arith, sizes) in
            ap (λ (n : ℕ). get_or row n 0) f ∙ second_at (i - second) m ∙ sym (ap (symbol_at kept j) e ∙ there (i - second) (omega (arith, sizes))
            ∙ ap (λ (xs : List ℕ). get_or xs (i - second) 0) (sym h) ∙ get_or-append q p 0 (i - second) m)
