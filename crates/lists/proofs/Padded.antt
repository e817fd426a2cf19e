-- A list in an array: an element stored behind the last one makes the list longer, and its own elements are read back.
-- Assumes nothing.
use mathlib.Core.Path.{◌≡◌, sym, ap, ◌∙◌}
use mathlib.Core.List.{List, [], ◌∷◌, ◌++◌}
use Prim.Native.Nat.{ℕ, ◌+◌, ◌-◌, ◌≤◌, ◌<◌}
use native.Mathlib.Omega.{arith}
use lib.ListN.{length, take, get_or, set, replicate, length-append, get_or-append}
use lib.Seq.{take_at, length-take-le}
use Rattle.lists.specs.Padded.{pad}
use Rattle.lists.proofs.Lists.{take_next, set_behind}

pub pad_none : (n : ℕ) → replicate n 0 ≡ pad n []
unfolding pad
pad_none n = let e : n ≡ n - 0 = omega arith in ap (λ (k : ℕ). replicate k 0) e

pub pad_set : (n : ℕ) (xs : List ℕ) (i x : ℕ) → length xs ≡ i → i < n → set (pad n xs) i x ≡ pad n (xs ++ x ∷ [])
unfolding pad
pad_set n xs i x e h =
    let m : n - length xs - 1 ≡ n - length (xs ++ x ∷ []) = omega (arith, length-append xs (x ∷ [])) in
    set_behind xs 0 x (n - length xs) i e (omega arith) ∙ ap (λ (k : ℕ). xs ++ x ∷ [] ++ replicate k 0) m

-- the first i elements copied, and one more
pub copy_next : (n : ℕ) (s : List ℕ) (i : ℕ) → i < length s → i < n
    → set (pad n (take i s)) i (get_or s i 0) ≡ pad n (take (i + 1) s)
copy_next n s i h k = pad_set n (take i s) i (get_or s i 0) (length-take-le i s (omega arith)) k ∙ ap (pad n) (sym (take_next s i 0 h))

pub pad_at : (n : ℕ) (xs : List ℕ) (i : ℕ) → i < length xs → get_or (pad n xs) i 0 ≡ get_or xs i 0
unfolding pad
pad_at n xs i l = get_or-append xs (replicate (n - length xs) 0) 0 i l

pub pad_taken : (n : ℕ) (xs : List ℕ) (i : ℕ) → length xs ≡ i → take i (pad n xs) ≡ xs
unfolding pad
pad_taken n xs i e = take_at xs (replicate (n - length xs) 0) i e

pub pad_within : (n : ℕ) (xs : List ℕ) → length xs ≤ length (pad n xs)
unfolding pad
pad_within n xs = omega (arith, length-append xs (replicate (n - length xs) 0))
