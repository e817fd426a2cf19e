-- A number's digits are the last one, and before it those of a tenth, so they are few for a small number. Assumes nothing.
use mathlib.Core.Path.{◌≡◌, sym, ap, ◌∙◌}
use mathlib.Core.List.{List, [], ◌∷◌, ◌++◌}
use mathlib.Core.Logic.{⊎_elim}
use Prim.Native.Nat.{ℕ, zero, suc, ◌+◌, ◌/◌, ◌%◌, ◌^◌, ◌≤◌, ◌<◌}
use native.Mathlib.Omega.{arith}
use lib.ListN.{length, length-append}
use borrow.Author.Tests.{lt-ltb, le-ltb}
use Rattle.lists.proofs.Truth.{side}
use Rattle.lexer.specs.Text.{byte}
use Rattle.report.specs.Lines.{digits, decimal}

digits_small : (k n : ℕ) → n < 10 → digits (suc k) n ≡ (byte "0" + n % 10) ∷ []
unfolding digits
digits_small k n h = rw (lt-ltb n 10 h)

digits_more : (k n : ℕ) → 10 ≤ n → digits (suc k) n ≡ digits k (n / 10) ++ (byte "0" + n % 10) ∷ []
unfolding digits
digits_more k n h = rw (le-ltb n 10 h)

-- there are no more digits than that
enough : (k j n : ℕ) → n < k → n < j → digits k n ≡ digits j n
enough zero j n h i = absurd (omega arith)
enough (suc k) zero n h i = absurd (omega arith)
enough (suc k) (suc j) n h i =
    ⊎_elim
    (λ l. digits_small k n l ∙ sym (digits_small j n l))
    (λ l. digits_more k n l ∙ ap (λ (d : List ℕ). d ++ (byte "0" + n % 10) ∷ []) (enough k j (n / 10) (omega arith) (omega arith)) ∙ sym (digits_more j n l))
    (side n 10)

pub decimal_small : (n : ℕ) → n < 10 → decimal n ≡ (byte "0" + n % 10) ∷ []
unfolding decimal
decimal_small n h = digits_small n n h

pub decimal_more : (n : ℕ) → 10 ≤ n → decimal n ≡ decimal (n / 10) ++ (byte "0" + n % 10) ∷ []
unfolding decimal
decimal_more n h =
    digits_more n n h ∙ ap (λ (d : List ℕ). d ++ (byte "0" + n % 10) ∷ []) (enough n (suc (n / 10)) (n / 10) (omega arith) (omega arith))

-- a number below 10 ^ k has at most k digits
digits_few : (f k n : ℕ) → n < 10 ^ suc k → length (digits f n) ≤ suc k
unfolding digits
digits_few zero k n h = omega arith
digits_few (suc f) zero n h = rw (digits_small f n (omega arith)) (omega arith)
digits_few (suc f) (suc k) n h =
    ⊎_elim
    (λ l. rw (digits_small f n l) (omega arith))
    (λ l. let m : n / 10 < 10 ^ suc k = omega arith in
    rw (digits_more f n l) (omega (arith, length-append (digits f (n / 10)) ((byte "0" + n % 10) ∷ []), digits_few f k (n / 10) m)))
    (side n 10)

pub decimal_few : (k n : ℕ) → n < 10 ^ suc k → length (decimal n) ≤ suc k
unfolding decimal
decimal_few k n h = digits_few (suc n) k n h
