-- A test on the numbers below n: some pass, the least that passes, and all that pass in rising order; and what is gathered from
-- these numbers. The numbers below m + n are those below m and the n from m up, and each search goes part by part. Assumes nothing.
use mathlib.Core.Path.{◌≡◌, refl, sym, ap, ap₂, ◌∙◌, subst}
use mathlib.Core.Bool.{Bool, true, false, ◌||◌, cond, or-false}
use mathlib.Core.List.{List, [], ◌∷◌, ◌++◌, append-nil}
use mathlib.Core.Logic.{⊎_elim}
use Prim.Native.Nat.{ℕ, zero, suc, ◌+◌, ◌-◌, ◌*◌, ◌≤◌, ◌<◌}
use native.Mathlib.Nat.{zero-add, eq-or-lt_of_le}
use native.Mathlib.Omega.{arith}
use lib.ListN.{length, length-append}
use Rattle.lists.specs.Search.{In, any, all, first, keep, or_else, collect, from, below}
use Rattle.lists.proofs.Truth.{clash}
use Rattle.lists.proofs.Search.{any_intro, none_intro, any_append, any_last, all_elim, first_none, first_append, keep_nothing, keep_append, collect_append, collect_last, collect_few, from_length, from_elim, from_append, below_intro}

-- ---- the numbers in two parts
below_add : (m n : ℕ) → below (m + n) ≡ below m ++ from m n
below_add m n = from_append 0 m n ∙ ap (λ (x : ℕ). below m ++ from x n) (zero-add m)

module _ (p : ℕ → Bool) where
  -- ---- numbers of which none passes
  none_from : (k n : ℕ) → ((d : ℕ) → k ≤ d → d < k + n → p d ≡ false) → (d : ℕ) → In d (from k n) → p d ≡ false
  none_from k n f d i = let r = from_elim k n d i in f d r.0 r.1

  any_none_from : (k n : ℕ) → ((d : ℕ) → k ≤ d → d < k + n → p d ≡ false) → any p (from k n) ≡ false
  any_none_from k n f = none_intro p (from k n) (λ d i t. clash t (none_from k n f d i))

  first_none_from : (k n : ℕ) → ((d : ℕ) → k ≤ d → d < k + n → p d ≡ false) → first p (from k n) ≡ []
  first_none_from k n f = first_none p (from k n) (any_none_from k n f)

  pub first_none_below : (n : ℕ) → ((d : ℕ) → d < n → p d ≡ false) → first p (below n) ≡ []
  first_none_below n f = first_none_from 0 n (λ d l h. f d (omega arith))

  pub any_none : (n : ℕ) → ((d : ℕ) → d < n → p d ≡ false) → any p (below n) ≡ false
  any_none n f = any_none_from 0 n (λ d l h. f d (omega arith))

  -- ---- what a loop that counts up by one meets
  pub any_more : (i : ℕ) → any p (below (i + 1)) ≡ (any p (below i) || p i)
  any_more i = ap (any p) (below_add i 1) ∙ any_last p (below i) i

  pub keep_more : (i : ℕ) → keep p (below (i + 1)) ≡ keep p (below i) ++ cond (p i) (i ∷ []) []
  keep_more i = ap (keep p) (below_add i 1) ∙ keep_append p (below i) (i ∷ [])

  -- ---- a test that passes nowhere from m up: the numbers below m are enough
  module _ (m n : ℕ) (l : m ≤ n) (f : (d : ℕ) → m ≤ d → d < n → p d ≡ false) where
    parts : below n ≡ below m ++ from m (n - m)
    parts = let z : n ≡ m + (n - m) = omega arith in ap below z ∙ below_add m (n - m)

    nowhere : (d : ℕ) → m ≤ d → d < m + (n - m) → p d ≡ false
    nowhere d a b = f d a (omega arith)

    pub any_cut : any p (below n) ≡ any p (below m)
    any_cut =
        ap (any p) parts ∙ any_append p (below m) (from m (n - m))
        ∙ ap (λ (b : Bool). any p (below m) || b) (any_none_from m (n - m) nowhere) ∙ or-false (any p (below m))

    pub first_cut : first p (below n) ≡ first p (below m)
    first_cut =
        ap (first p) parts ∙ first_append p (below m) (from m (n - m))
        ∙ ap (or_else (first p (below m))) (first_none_from m (n - m) nowhere) ∙ alone (first p (below m))
      where
        alone : (xs : List ℕ) → or_else xs [] ≡ xs
        alone [] = refl
        alone (x ∷ xs) = refl

    pub keep_cut : keep p (below n) ≡ keep p (below m)
    keep_cut =
        ap (keep p) parts ∙ keep_append p (below m) (from m (n - m))
        ∙ ap (λ (xs : List ℕ). keep p (below m) ++ xs) (keep_nothing p (from m (n - m)) (none_from m (n - m) nowhere)) ∙ append-nil (keep p (below m))

-- ---- the least number that passes
-- e is the least number below n that passes
pub record Least (n e : ℕ) (p : ℕ → Bool) : Type 0 where
  pub within : e < n
  pub passes : p e ≡ true
  pub before : (d : ℕ) → d < e → p d ≡ false

-- what the answer of a search among n numbers from k up says
abbrev pub FirstSays : (ℕ → Bool) → ℕ → ℕ → List ℕ → Type 0
FirstSays p k n [] = (d : ℕ) → k ≤ d → d < k + n → p d ≡ false
FirstSays p k n (e ∷ es) = (k ≤ e) × (e < k + n) × (p e ≡ true) × ((d : ℕ) → k ≤ d → d < e → p d ≡ false)

pub first_says : (p : ℕ → Bool) (k n : ℕ) → FirstSays p k n (first p (from k n))
first_says p k zero = λ d a b. absurd (omega arith)
first_says p k (suc n) = go (p k) refl (first p (from (suc k) n)) (first_says p (suc k) n)
  where
    go : (b : Bool) → p k ≡ b → (r : List ℕ) → FirstSays p (suc k) n r → FirstSays p k (suc n) (cond b (k ∷ []) r)
    go true q r s = (omega arith, omega arith, q, λ d a b. absurd (omega arith))
    go false q [] s = λ d a b. ⊎_elim (λ z. ap p (sym z) ∙ q) (λ l. s d l (omega arith)) (eq-or-lt_of_le a)
    go false q (e ∷ es) s =
        (omega (arith, s.0), omega (arith, s.1), s.2, λ d a b. ⊎_elim (λ z. ap p (sym z) ∙ q) (λ l. s.3 d l b) (eq-or-lt_of_le a))

pub first_says_least : (p : ℕ → Bool) (n e : ℕ) (es : List ℕ) → FirstSays p 0 n (e ∷ es) → Least n e p
first_says_least p n e es s = record { within = omega (arith, s.1); passes = s.2; before = λ d l. s.3 d (omega arith) l }

module _ (p : ℕ → Bool) (n : ℕ) where
  pub first_at : (e : ℕ) → Least n e p → first p (below n) ≡ e ∷ []
  first_at e h =
      let z : n ≡ e + suc (n - e - 1) = omega (arith, h.within) in
      ap (λ (x : ℕ). first p (below x)) z ∙ ap (first p) (below_add e (suc (n - e - 1)))
      ∙ first_append p (below e) (from e (suc (n - e - 1)))
      ∙ ap₂ (λ (xs : List ℕ) (b : Bool). or_else xs (cond b (e ∷ []) (first p (from (suc e) (n - e - 1)))))
      (first_none_below p e h.before) h.passes

  -- ---- some number passes, every number passes
  pub any_at : (e : ℕ) → e < n → p e ≡ true → any p (below n) ≡ true
  any_at e l h = any_intro p (below_intro n e l) h

  pub all_at : all p (below n) ≡ true → (d : ℕ) → d < n → p d ≡ true
  all_at h d l = all_elim p (below_intro n d l) h

  -- as many pass as there are numbers, at most
  pub keep_length : length (keep p (below n)) ≤ n
  keep_length = go 0 n
    where
      go : (k m : ℕ) → length (keep p (from k m)) ≤ m
      go k zero = omega arith
      go k (suc m) = pick (p k) (go (suc k) m)
        where
          pick : (b : Bool) → length (keep p (from (suc k) m)) ≤ m
              → length (cond b (k ∷ keep p (from (suc k) m)) (keep p (from (suc k) m))) ≤ suc m
          pick true ih = omega arith
          pick false ih = omega arith

-- ---- what is gathered from numbers in rising order
module _ (f : ℕ → List ℕ) where
  pub collect_more : (n : ℕ) → collect f (below n) ++ f n ≡ collect f (below (n + 1))
  collect_more n = sym (ap (collect f) (below_add n 1) ∙ collect_last f (below n) n)

  -- from fewer numbers no more is gathered
  pub collect_within : (m n : ℕ) → m ≤ n → length (collect f (below m)) ≤ length (collect f (below n))
  collect_within m n l =
      let z : n ≡ m + (n - m) = omega arith in
      let e : collect f (below n) ≡ collect f (below m) ++ collect f (from m (n - m)) =
      ap (λ (x : ℕ). collect f (below x)) z ∙ ap (collect f) (below_add m (n - m)) ∙ collect_append f (below m) (from m (n - m)) in
      omega (arith, ap length e, length-append (collect f (below m)) (collect f (from m (n - m))))

  pub collect_small : (c : ℕ) → ((x : ℕ) → length (f x) ≤ c) → (k n : ℕ) → length (collect f (from k n)) ≤ n * c
  collect_small c h k n =
      subst (λ (m : ℕ). length (collect f (from k n)) ≤ m * c) (from_length k n) (collect_few f c (from k n) (λ x i. h x))

-- ---- what the members met so far, and their number, grow by
module _ (i e : ℕ) (p : ℕ → Bool) (l : i ≤ e) (passes : p e ≡ true) (between : (d : ℕ) → i ≤ d → d < e → p d ≡ false) where
  pub keep_step : keep p (below (e + 1)) ≡ keep p (below i) ++ (e ∷ [])
  keep_step =
      keep_more p e ∙ ap₂ (λ (xs : List ℕ) (b : Bool). xs ++ cond b (e ∷ []) []) (keep_cut p i e l between) passes

  pub count_step : length (keep p (below (e + 1))) ≡ length (keep p (below i)) + 1
  count_step = ap length keep_step ∙ length-append (keep p (below i)) (e ∷ [])
