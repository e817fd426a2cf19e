-- The contacts that rows give are their pairs, one after the other. They rise strictly, whatever the rows are: row after row, and in
-- a row position after position. Assumes nothing.
use mathlib.Core.Path.{◌≡◌, refl, sym, ap, ap₂, ◌∙◌, subst}
use mathlib.Core.Bool.{Bool, true, false, ◌&&◌, cond, and-false, and-eq-true_iff}
use mathlib.Core.List.{List, [], ◌∷◌, ◌++◌, append_assoc, append-nil}
use Prim.Native.Nat.{ℕ, zero, suc, ◌+◌, ◌-◌, ◌*◌, ◌/◌, ◌%◌, ◌≤◌, ◌<◌}
use native.Mathlib.Omega.{arith}
use native.Mathlib.Numerals.{add-one}
use lib.Dec.{ltb}
use lib.ListN.{length}
use borrow.Author.Tests.{ltb-true, lt-ltb, le-ltb}
use Rattle.lists.proofs.Below.{collect_more, collect_within, collect_small}
use Rattle.lists.specs.Search.{collect, from, below}
use Rattle.lists.proofs.Search.{collect_same, below_elim}
use Rattle.plan.specs.Words.{Rises, most_points}
use Rattle.plan.specs.Links.{pair_of, row_to, links_to}
use Rattle.plan.specs.Private.{Next}

-- ---- the contacts that rows give
pub pair_early : (i j : ℕ) (t : ℕ → Bool) → j ≤ i → pair_of i j t ≡ []
unfolding pair_of
pair_early i j t h = rw (le-ltb i j h)

pub pair_there : (i j : ℕ) (t : ℕ → Bool) → i < j → t j ≡ true → pair_of i j t ≡ (i * 256 + j) ∷ []
unfolding pair_of
pair_there i j t h e = rw (lt-ltb i j h, e)

pair_absent : (i j : ℕ) (t : ℕ → Bool) → t j ≡ false → pair_of i j t ≡ []
unfolding pair_of
pair_absent i j t e =
    ap (λ (b : Bool). cond (ltb i j && b) ((i * 256 + j) ∷ []) []) e
    ∙ ap (λ (b : Bool). cond b ((i * 256 + j) ∷ []) []) (and-false (ltb i j))

pub pair_apart : (i j : ℕ) (t : ℕ → Bool) → i < j → t j ≡ false → pair_of i j t ≡ []
pair_apart i j t h e = pair_absent i j t e

pub pair_small : (i j : ℕ) (t : ℕ → Bool) → length (pair_of i j t) ≤ 1
unfolding pair_of
pair_small i j t = go (ltb i j && t j)
  where
    go : (b : Bool) → length (cond b ((i * 256 + j) ∷ []) []) ≤ 1
    go true = omega arith
    go false = omega arith

row_none : (i : ℕ) (t : ℕ → Bool) → row_to 0 i t ≡ []
unfolding row_to
row_none i t = refl

pub row_more : (j i : ℕ) (t : ℕ → Bool) → row_to j i t ++ pair_of i j t ≡ row_to (j + 1) i t
unfolding row_to
row_more j i t = collect_more (λ b. pair_of i b t) j

-- no pair with a position that is not later
row_early : (k i : ℕ) (t : ℕ → Bool) → k ≤ i + 1 → row_to k i t ≡ []
row_early zero i t h = row_none i t
row_early (suc k) i t h =
    ap (λ (x : ℕ). row_to x i t) (sym (add-one k)) ∙ sym (row_more k i t)
    ∙ ap₂ ◌++◌ (row_early k i t (omega arith)) (pair_early i k t (omega arith))

-- positions that are not in the row give no pair
pub row_skip : (j m i : ℕ) (t : ℕ → Bool) → ((d : ℕ) → j ≤ d → d < j + m → t d ≡ false) → row_to (j + m) i t ≡ row_to j i t
row_skip j zero i t h = let e : j + 0 ≡ j = omega arith in ap (λ (x : ℕ). row_to x i t) e
row_skip j (suc m) i t h =
    let e : j + suc m ≡ j + m + 1 = omega arith in
    ap (λ (x : ℕ). row_to x i t) e ∙ sym (row_more (j + m) i t)
    ∙ ap₂ ◌++◌ (row_skip j m i t (λ d a b. h d a (omega arith))) (pair_absent i (j + m) t (h (j + m) (omega arith) (omega arith)))
    ∙ append-nil (row_to j i t)

pub row_to_next : (low n r i : ℕ) (t : ℕ → Bool) → Next t low n r → row_to r i t ≡ row_to low i t
row_to_next low n r i t h =
    let l = h.least in
    let e : low + (r - low) ≡ r = omega arith in
    sym (ap (λ (x : ℕ). row_to x i t) e) ∙ row_skip low (r - low) i t (λ d a b. h.absent d a (omega arith))

-- the first position in the row, and the one after a position that is
pub row_first : (n r i : ℕ) (t : ℕ → Bool) → Next t (i + 1) n r → row_to r i t ≡ []
row_first n r i t h = row_to_next (i + 1) n r i t h ∙ row_early (i + 1) i t (omega arith)

pub row_one : (j i : ℕ) (t : ℕ → Bool) → i < j → t j ≡ true → row_to j i t ++ ((i * 256 + j) ∷ []) ≡ row_to (j + 1) i t
row_one j i t l e = ap (λ (ks : List ℕ). row_to j i t ++ ks) (sym (pair_there i j t l e)) ∙ row_more j i t

pub row_next : (j n r i : ℕ) (t : ℕ → Bool) → i < j → t j ≡ true → Next t (j + 1) n r
    → row_to j i t ++ ((i * 256 + j) ∷ []) ≡ row_to r i t
row_next j n r i t l e h = row_one j i t l e ∙ sym (row_to_next (j + 1) n r i t h)

pub row_small : (j i : ℕ) (t : ℕ → Bool) → length (row_to j i t) ≤ j
unfolding row_to
row_small j i t = omega (arith, collect_small (λ b. pair_of i b t) 1 (λ b. pair_small i b t) 0 j)

-- what is written by then fits, where the whole does
pub row_within : (j n i : ℕ) (t : ℕ → Bool) → j ≤ n → length (row_to j i t) ≤ length (row_to n i t)
unfolding row_to
row_within j n i t h = collect_within (λ b. pair_of i b t) j n h

pub links_none : (n : ℕ) (t : ℕ → ℕ → Bool) → links_to 0 n t ≡ []
unfolding links_to
links_none n t = refl

pub links_more : (i n : ℕ) (t : ℕ → ℕ → Bool) → links_to i n t ++ row_to n i (t i) ≡ links_to (i + 1) n t
unfolding links_to
links_more i n t = collect_more (λ a. row_to n a (t a)) i

pub links_within : (i m n : ℕ) (t : ℕ → ℕ → Bool) → i ≤ m → length (links_to i n t) ≤ length (links_to m n t)
unfolding links_to
links_within i m n t h = collect_within (λ a. row_to n a (t a)) i m h

pub links_small : (i n : ℕ) (t : ℕ → ℕ → Bool) → n ≤ most_points → length (links_to i n t) ≤ i * most_points
unfolding links_to
links_small i n t h = collect_small (λ a. row_to n a (t a)) most_points (λ a. omega (arith, row_small n a (t a))) 0 i

-- rows that agree on the positions below n have the same contacts
pub links_same : (n : ℕ) (s t : ℕ → ℕ → Bool) → ((i j : ℕ) → i < n → j < n → s i j ≡ t i j) → links_to n n s ≡ links_to n n t
unfolding links_to row_to pair_of
links_same n s t h =
    collect_same (λ i. row_to n i (s i)) (λ i. row_to n i (t i)) (below n)
    (λ i x. collect_same (λ j. pair_of i j (s i)) (λ j. pair_of i j (t i)) (below n)
    (λ j y. ap (λ (b : Bool). cond (ltb i j && b) ((i * 256 + j) ∷ []) []) (h i j (below_elim n i x) (below_elim n j y))))

-- ---- they rise
rises_from : (low low' n : ℕ) (ks : List ℕ) → low ≤ low' → Rises low' n ks → Rises low n ks
rises_from low low' n [] h r = tt
rises_from low low' n (k ∷ ks) h r = (omega (arith, r.0), r.1, r.2, r.3)

pair_rises : (i j n : ℕ) (t : ℕ → Bool) (js : List ℕ) → j < n → n ≤ 256 → Rises (i * 256 + suc j) n js
    → Rises (i * 256 + j) n (pair_of i j t ++ js)
unfolding pair_of
pair_rises i j n t js h f r = go (ltb i j && t j) refl
  where
    go : (b : Bool) → (ltb i j && t j) ≡ b → Rises (i * 256 + j) n (cond b ((i * 256 + j) ∷ []) [] ++ js)
    go true e =
        let l : i < j = ltb-true i j ((and-eq-true_iff (ltb i j) (t j)).0 e).0 in
        let q : (i * 256 + j) / 256 ≡ i = omega arith in
        let s : (i * 256 + j) % 256 ≡ j = omega arith in
        let z : suc (i * 256 + j) ≡ i * 256 + suc j = omega arith in
        (omega arith, omega arith, omega arith, subst (λ (x : ℕ). Rises x n js) (sym z) r)
    go false e = rises_from (i * 256 + j) (i * 256 + suc j) n js (omega arith) r

row_rises : (m j i n : ℕ) (t : ℕ → Bool) (js : List ℕ) → j + m ≤ n → n ≤ 256 → Rises (i * 256 + n) n js
    → Rises (i * 256 + j) n (collect (λ b. pair_of i b t) (from j m) ++ js)
row_rises zero j i n t js h f r = rises_from (i * 256 + j) (i * 256 + n) n js (omega arith) r
row_rises (suc m) j i n t js h f r =
    subst (Rises (i * 256 + j) n) (sym (append_assoc (pair_of i j t) (collect (λ b. pair_of i b t) (from (suc j) m)) js))
    (pair_rises i j n t (collect (λ b. pair_of i b t) (from (suc j) m) ++ js) (omega arith) f
    (row_rises m (suc j) i n t js (omega arith) f r))

rows_rise : (m i n : ℕ) (t : ℕ → ℕ → Bool) → n ≤ 256 → Rises (i * 256 + 0) n (collect (λ a. row_to n a (t a)) (from i m))
unfolding row_to
rows_rise zero i n t f = tt
rows_rise (suc m) i n t f =
    row_rises n 0 i n (t i) (collect (λ a. row_to n a (t a)) (from (suc i) m)) (omega arith) f
    (rises_from (i * 256 + n) (suc i * 256 + 0) n (collect (λ a. row_to n a (t a)) (from (suc i) m)) (omega arith)
    (rows_rise m (suc i) n t f))

pub links_rise : (m n : ℕ) (t : ℕ → ℕ → Bool) → n ≤ 256 → Rises 0 n (links_to m n t)
unfolding links_to
links_rise m n t f = rows_rise m 0 n t f
