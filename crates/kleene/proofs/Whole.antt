-- Where every atom is decided one word has a value for each row: a sign's table, on values that are sure, is an operation on bits.
-- The top of the stack is kept apart, and the values below lie from place 1 on, so that a sign that pushes stores the old top.
-- Assumes nothing.
use mathlib.Core.Bool.{Bool, true, false, not, ◌&&◌, ◌||◌, beq, cond}
use mathlib.Core.List.{List, [], ◌∷◌}
use mathlib.Core.Path.{◌≡◌, refl, sym, ap, ap₂, ◌∙◌}
use Prim.Native.Nat.{ℕ, suc, ◌+◌, ◌-◌, ◌≤◌, ◌<◌}
use native.Mathlib.Decide.{ℕ_discrete as dec_eq}
use native.Mathlib.Numerals.{add-one}
use native.Mathlib.Omega.{arith}
use lib.Bits.{bit_and, bit_or, bit_xor}
use lib.Dec.{eqb}
use lib.ListN.{length, get_or, set, length-set}
use lib.Seq.{get_or-set_same, get_or-set_other}
use borrow.Author.Tests.{eq-eqb, ne_eqb}
use Rattle.evalset.specs.Bit.{bit}
use Rattle.evalset.proofs.Bits.{bit_and_lem, bit_or_lem, bit_xor_lem}
use Rattle.kleene.specs.Code.{turns, joins, pushes, class_of, Safe}
use Rattle.kleene.specs.Rails.{Duo, sure, not_d, and_d, or_d, implies_d, iff_d, table_of, push_of, exec, word_rows, whole_at}
use Rattle.kleene.proofs.Turns.{Puts, Running, class_turns, class_pushes, takes, turn_again, join_again, push_again, begins, one_left, ends}

-- ---- the tables on values that are sure

not_sure : (x : Bool) → sure (not x) ≡ not_d (sure x)
not_sure true = refl
not_sure false = refl

and_sure : (x y : Bool) → sure (x && y) ≡ and_d (sure x) (sure y)
and_sure true y = refl
and_sure false y = refl

or_sure : (x y : Bool) → sure (x || y) ≡ or_d (sure x) (sure y)
or_sure true y = refl
or_sure false y = refl

implies_sure : (x y : Bool) → sure (not x || y) ≡ implies_d (sure x) (sure y)
implies_sure true y = refl
implies_sure false y = refl

iff_sure : (x y : Bool) → sure (not (not (beq x y))) ≡ iff_d (sure x) (sure y)
iff_sure true true = refl
iff_sure true false = refl
iff_sure false true = refl
iff_sure false false = refl

-- ---- the same of words

-- a word's value in row e
abbrev pub value_at : ℕ → ℕ → Duo
value_at w e = sure (bit w e)

module _ (a b e : ℕ) where
  pub and_word : value_at (bit_and a b) e ≡ and_d (value_at a e) (value_at b e)
  and_word = ap sure (bit_and_lem a b e) ∙ and_sure (bit a e) (bit b e)

  pub or_word : value_at (bit_or a b) e ≡ or_d (value_at a e) (value_at b e)
  or_word = ap sure (bit_or_lem a b e) ∙ or_sure (bit a e) (bit b e)

  -- where n has the bit turned round
  pub not_word : (n : ℕ) → bit n e ≡ not (bit a e) → value_at n e ≡ not_d (value_at a e)
  not_word n h = ap sure h ∙ not_sure (bit a e)

  pub implies_word : (n : ℕ) → bit n e ≡ not (bit a e) → value_at (bit_or n b) e ≡ implies_d (value_at a e) (value_at b e)
  implies_word n h = ap sure (bit_or_lem n b e ∙ ap (λ (x : Bool). x || bit b e) h) ∙ implies_sure (bit a e) (bit b e)

  pub iff_word : (n : ℕ) → bit n e ≡ not (bit (bit_xor a b) e) → value_at n e ≡ iff_d (value_at a e) (value_at b e)
  iff_word n h = ap sure (h ∙ ap not (bit_xor_lem a b e)) ∙ iff_sure (bit a e) (bit b e)

-- ---- the stack

-- the word at place k of a stack of so many words
unfoldable pub word_of : List ℕ → ℕ → ℕ → ℕ → ℕ
word_of stack top height k = cond (eqb (suc k) height) top (get_or stack (suc k) 0)

-- its value in row e
abbrev pub place_at : List ℕ → ℕ → ℕ → ℕ → ℕ → Duo
place_at stack top height e k = value_at (word_of stack top height k) e

module _ (stack : List ℕ) (top height k : ℕ) where
  pub word_top : height ≡ suc k → word_of stack top height k ≡ top
  unfolding word_of
  word_top h = ap (λ (b : Bool). cond b top (get_or stack (suc k) 0)) (eq-eqb (suc k) height (sym h))

  pub word_under : suc k < height → word_of stack top height k ≡ get_or stack (suc k) 0
  unfolding word_of
  word_under h = ap (λ (b : Bool). cond b top (get_or stack (suc k) 0)) (ne_eqb (suc k) height (λ q. omega arith))

module _ (stack : List ℕ) (top height w : ℕ) where
  -- under a new top lies what was there
  pub word_kept : height < length stack → (k : ℕ) → k < height → word_of (set stack height top) w (height + 1) k ≡ word_of stack top height k
  word_kept l k m = word_under (set stack height top) w (height + 1) k (omega arith) ∙ go (dec_eq (suc k) height)
    where
      go : Dec (suc k ≡ height) → get_or (set stack height top) (suc k) 0 ≡ word_of stack top height k
      go (yes q) =
          ap (λ (j : ℕ). get_or (set stack height top) j 0) q ∙ get_or-set_same stack height top 0 l
          ∙ sym (word_top stack top height k (sym q))
      go (no q) = get_or-set_other stack height (suc k) top 0 q ∙ sym (word_under stack top height k (omega (arith, q)))

  module _ {x : ℕ → Duo} (is : (e : ℕ) → e < word_rows → value_at w e ≡ x e) where
    -- a new top, with no more below it than there was
    lower_puts : (n h : ℕ) → h ≡ suc n → h ≤ height → Puts word_rows n (place_at stack top height) (place_at stack w h) x
    lower_puts n h z l = record {
      top = λ e b. ap (λ (t : ℕ). value_at t e) (word_top stack w h n z) ∙ is e b;
      under = λ e b k m.
          ap (λ (t : ℕ). value_at t e)
          (word_under stack w h k (omega arith) ∙ sym (word_under stack top height k (omega arith)));
    }

    -- a new top on the old one, which is stored
    upper_puts : height < length stack
        → Puts word_rows height (place_at stack top height) (place_at (set stack height top) w (height + 1)) x
    upper_puts l = record {
      top = λ e b. ap (λ (t : ℕ). value_at t e) (word_top (set stack height top) w (height + 1) height (add-one height)) ∙ is e b;
      under = λ e b k m. ap (λ (t : ℕ). value_at t e) (word_kept l k m);
    }

-- ---- a turn

-- the state of the run, with i signs read and height values on the stack
pub record Whole (code leaves stack : List ℕ) (top height i : ℕ) : Type 0 where
  pub running : Running 128 word_rows code (whole_at leaves) (place_at stack top height) height i
  pub size : length stack ≡ 128

module _ {code leaves stack : List ℕ} {top height i : ℕ} (inv : Whole code leaves stack top height i) (l : i < length code) where
  abbrev c : ℕ
  c = get_or code i 0

  -- a sign that joins finds two values
  pub two_there : (k : ℕ) → c ≡ k → class_of k ≡ joins → (2 ≤ height) × (height ≤ 128)
  two_there k q h = (takes inv.running l joins (ap class_of q ∙ h), inv.running.high)

  -- one that pushes finds room, and an atom's number is small
  pub room_there : 5 ≤ c → (height < 128) × (c < 23)
  room_there h = takes inv.running l pushes (class_pushes c h)

  pub whole_turn : (w : ℕ) → c ≡ 0 → ((e : ℕ) → e < word_rows → value_at w e ≡ not_d (value_at top e)) → Whole code leaves stack w height (i + 1)
  whole_turn w q f =
      let one : 1 ≤ height = takes inv.running l turns (class_turns c q) in
      let z : height ≡ suc (height - 1) = omega arith in
      record {
        running = turn_again inv.running l (height - 1) (place_at stack w height) (class_turns c q) z
            (lower_puts stack top height w
            (λ e b. f e b ∙ sym (ap (λ (x : ℕ). not_d (value_at x e)) (word_top stack top height (height - 1) z)))
            (height - 1) height z (omega arith));
        size = inv.size;
      }

  pub whole_join : (k w : ℕ) → c ≡ k → class_of k ≡ joins
      → ((e : ℕ) → e < word_rows → value_at w e ≡ table_of k (value_at (get_or stack (height - 1) 0) e) (value_at top e))
      → Whole code leaves stack w (height - 1) (i + 1)
  whole_join k w q h f =
      let two = (two_there k q h).0 in
      let z : height ≡ suc (suc (height - 2)) = omega arith in
      let y : height - 1 ≡ suc (height - 2) = omega arith in
      record {
        running = join_again inv.running l (height - 2) (place_at stack w (height - 1)) (ap class_of q ∙ h) z
            (lower_puts stack top height w
            (λ e b. f e b
            ∙ ap (λ (j : ℕ). table_of j (value_at (get_or stack (height - 1) 0) e) (value_at top e)) (sym q)
            ∙ ap₂ (λ (a d : ℕ). table_of c (value_at a e) (value_at d e))
            (ap (λ (j : ℕ). get_or stack j 0) y ∙ sym (word_under stack top height (height - 2) (omega arith)))
            (sym (word_top stack top height (suc (height - 2)) z)))
            (height - 2) (height - 1) y (omega arith));
        size = inv.size;
      }

  pub whole_push : (w : ℕ) → 5 ≤ c → ((e : ℕ) → e < word_rows → value_at w e ≡ push_of (whole_at leaves e) c)
      → Whole code leaves (set stack height top) w (height + 1) (i + 1)
  whole_push w h f = record {
    running = push_again inv.running l (place_at (set stack height top) w (height + 1)) (class_pushes c h)
        (upper_puts stack top height w f (omega (arith, room_there h, inv.size)));
    size = length-set stack height top ∙ inv.size;
  }

pub whole_begins : (code leaves stack : List ℕ) (top : ℕ) → Safe 128 16 code 0 → length stack ≡ 128 → Whole code leaves stack top 0 0
whole_begins code leaves stack top s h =
    record { running = begins 128 word_rows code (whole_at leaves) (place_at stack top 0) s; size = h }

-- at the end the top is the value
pub whole_ends : {code leaves stack : List ℕ} {top height i : ℕ} → Whole code leaves stack top height i → length code ≤ i
    → (e : ℕ) → e < word_rows → exec (whole_at leaves e) code [] ≡ value_at top e ∷ []
whole_ends {code} {leaves} {stack} {top} {height} {i} inv l e b =
    ends inv.running l e b
    ∙ ap (λ (t : ℕ). value_at t e ∷ []) (word_top stack top height 0 (one_left inv.running l))
