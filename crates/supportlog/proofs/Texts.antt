-- The text of an answer, part by part. Assumes nothing.
use mathlib.Core.Path.{◌≡◌, refl, sym, ap, ap₂, ◌∙◌}
use mathlib.Core.Bool.{Bool, cond}
use mathlib.Core.List.{List, [], ◌∷◌, ◌++◌}
use Prim.Native.Nat.{ℕ, ◌+◌, ◌-◌, ◌^◌, ◌≤◌, ◌<◌}
use native.Mathlib.Omega.{arith}
use lib.ListN.{length, get_or, take, set}
use lib.Seq.{take_all}
use borrow.Author.Tests.{lt-ltb, le-ltb}
use Rattle.lists.specs.Search.{collect}
use Rattle.lists.proofs.Search.{collect_append}
use Rattle.lists.proofs.Lists.{take_next}
use Rattle.report.specs.Lines.{decimal, ended}
use Rattle.lists.specs.Putting.{Puts}
use Rattle.report.proofs.Digits.{decimal_few}
use Rattle.lists.proofs.Putting.{puts_text, puts_four}
use Rattle.supportlog.specs.declared.LineAnswer.{LineAnswer}
use Rattle.supportlog.specs.Answers.{hex_digit, hex_word, answer_text}
use Rattle.supportlog.specs.Steps.{answer_for}

pub digits_few : (n : ℕ) → n < 2 ^ 64 → length (decimal n) ≤ 20
digits_few n h = decimal_few 19 n (omega arith)

pub hex_low : (d : ℕ) → d < 10 → 48 + d ≡ hex_digit d
hex_low d h = sym (ap (λ (b : Bool). cond b (48 + d) (65 + (d - 10))) (lt-ltb d 10 h))

pub hex_high : (d : ℕ) → 10 ≤ d → 65 + (d - 10) ≡ hex_digit d
hex_high d h = sym (ap (λ (b : Bool). cond b (48 + d) (65 + (d - 10))) (le-ltb d 10 h))

pub puts_these : (at a b c d : ℕ) (buffer : List ℕ) → at + 4 ≤ length buffer → (w x y z : ℕ) → a ≡ w → b ≡ x → c ≡ y → d ≡ z
    → Puts at (w ∷ x ∷ y ∷ z ∷ []) buffer (set (set (set (set buffer at a) (at + 1) b) (at + 2) c) (at + 3) d) (at + 4)
puts_these at a b c d buffer h w x y z e f g i =
    puts_text (ap₂ (λ (p : ℕ) (l : List ℕ). p ∷ l) e (ap₂ (λ (p : ℕ) (l : List ℕ). p ∷ l) f (ap₂ (λ (p q : ℕ). p ∷ q ∷ []) g i))) (puts_four at a b c d buffer h)

-- ---- words, one after the other

pub hexes_start : (ws : List ℕ) → [] ≡ collect hex_word (take 0 ws)
hexes_start [] = refl
hexes_start (w ∷ ws) = refl

pub hexes_more : (ws : List ℕ) (i : ℕ) → i < length ws → collect hex_word (take i ws) ++ hex_word (get_or ws i 0) ≡ collect hex_word (take (i + 1) ws)
hexes_more ws i h = sym (ap (collect hex_word) (take_next ws i 0 h) ∙ collect_append hex_word (take i ws) (get_or ws i 0 ∷ []))

pub hexes_all : (ws : List ℕ) (i n : ℕ) → i ≡ length ws → i ≤ n → collect hex_word (take i ws) ≡ collect hex_word (take n ws)
hexes_all ws i n e h = ap (collect hex_word) (take_all i ws (omega arith) ∙ sym (take_all n ws (omega arith)))

-- the text of an answer that is known
pub told : {a b : LineAnswer} (words : List ℕ) {buffer exit : List ℕ} {end : ℕ} → a ≡ b → Puts 0 (ended (answer_text (answer_for b words))) buffer exit end
    → Puts 0 (ended (answer_text (answer_for a words))) buffer exit end
told words e h = puts_text (ap (λ (x : LineAnswer). ended (answer_text (answer_for x words))) (sym e)) h
