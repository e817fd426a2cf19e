-- On two rails a sign's table is an operation on the bits of its operands' two words. The tops are kept apart as in Whole.antt, whose
-- laws of places serve each stack. Assumes nothing.
use mathlib.Core.Bool.{◌&&◌, ◌||◌}
use mathlib.Core.List.{List, [], ◌∷◌}
use mathlib.Core.Path.{◌≡◌, refl, sym, ap, ap₂, ◌∙◌}
use Prim.Native.Nat.{ℕ, zero, suc, ◌+◌, ◌-◌, ◌≤◌, ◌<◌}
use native.Mathlib.Numerals.{add-one}
use native.Mathlib.Omega.{arith}
use lib.Bits.{bit_and, bit_or}
use lib.ListN.{length, get_or, set, length-set}
use Rattle.evalset.specs.Bit.{bit}
use Rattle.evalset.proofs.Bits.{bit_and_lem, bit_or_lem}
use Rattle.kleene.specs.Code.{turns, joins, pushes, class_of, Safe}
use Rattle.kleene.specs.Rails.{Duo, duo, yes_of, no_of, sure, not_d, and_d, or_d, implies_d, iff_d, table_of, push_of, exec, word_rows, whole_at, rails_at}
use Rattle.kleene.proofs.Turns.{Puts, Running, class_turns, class_pushes, takes, turn_again, join_again, push_again, begins, one_left, ends}
use Rattle.kleene.proofs.Whole.{word_of, word_top, word_under, word_kept}

-- the value that two words have in row e
abbrev pub pair_at : ℕ → ℕ → ℕ → Duo
pair_at y n e = duo (bit y e) (bit n e)

-- ---- the tables on words

module _ (y n z m e : ℕ) where
  pub and_rails : pair_at (bit_and y z) (bit_or n m) e ≡ and_d (pair_at y n e) (pair_at z m e)
  and_rails = ap₂ duo (bit_and_lem y z e) (bit_or_lem n m e)

  pub or_rails : pair_at (bit_or y z) (bit_and n m) e ≡ or_d (pair_at y n e) (pair_at z m e)
  or_rails = ap₂ duo (bit_or_lem y z e) (bit_and_lem n m e)

  pub implies_rails : pair_at (bit_or n z) (bit_and y m) e ≡ implies_d (pair_at y n e) (pair_at z m e)
  implies_rails = ap₂ duo (bit_or_lem n z e) (bit_and_lem y m e)

  both : (a b c d : ℕ) → bit (bit_or (bit_and a b) (bit_and c d)) e ≡ ((bit a e && bit b e) || (bit c e && bit d e))
  both a b c d = bit_or_lem (bit_and a b) (bit_and c d) e ∙ ap₂ ◌||◌ (bit_and_lem a b e) (bit_and_lem c d e)

  pub iff_rails : pair_at (bit_or (bit_and y z) (bit_and n m)) (bit_or (bit_and y m) (bit_and n z)) e ≡ iff_d (pair_at y n e) (pair_at z m e)
  iff_rails = ap₂ duo (both y z n m) (both y m n z)

-- ---- what is pushed

-- on the first rail the same as where every atom is decided
pub push_yes : (ts fs : List ℕ) (e c : ℕ) → yes_of (push_of (whole_at ts e) c) ≡ yes_of (push_of (rails_at ts fs e) c)
push_yes ts fs e zero = refl
push_yes ts fs e (suc zero) = refl
push_yes ts fs e (suc (suc zero)) = refl
push_yes ts fs e (suc (suc (suc zero))) = refl
push_yes ts fs e (suc (suc (suc (suc zero)))) = refl
push_yes ts fs e (suc (suc (suc (suc (suc zero))))) = refl
push_yes ts fs e (suc (suc (suc (suc (suc (suc zero)))))) = refl
push_yes ts fs e (suc (suc (suc (suc (suc (suc (suc i))))))) = refl

whole : (d : Duo) → duo (yes_of d) (no_of d) ≡ d
whole (duo y n) = refl

pub push_rails : (ts fs : List ℕ) (e c y n : ℕ) → sure (bit y e) ≡ push_of (whole_at ts e) c → bit n e ≡ no_of (push_of (rails_at ts fs e) c)
    → pair_at y n e ≡ push_of (rails_at ts fs e) c
push_rails ts fs e c y n h k = ap₂ duo (ap yes_of h ∙ push_yes ts fs e c) k ∙ whole (push_of (rails_at ts fs e) c)

-- ---- the stacks

-- the value at place k of stacks of so many words, in row e
abbrev pub pair_of : List ℕ → List ℕ → ℕ → ℕ → ℕ → ℕ → ℕ → Duo
pair_of ys ns y n height e k = pair_at (word_of ys y height k) (word_of ns n height k) e

module _ (ys ns : List ℕ) (y n height : ℕ) where
  pair_top : (e k : ℕ) → height ≡ suc k → pair_of ys ns y n height e k ≡ pair_at y n e
  pair_top e k z = ap₂ (λ (a b : ℕ). pair_at a b e) (word_top ys y height k z) (word_top ns n height k z)

  pair_under : (e k : ℕ) → suc k < height → pair_of ys ns y n height e k ≡ pair_at (get_or ys (suc k) 0) (get_or ns (suc k) 0) e
  pair_under e k l = ap₂ (λ (a b : ℕ). pair_at a b e) (word_under ys y height k l) (word_under ns n height k l)

module _ (ys ns : List ℕ) (y n height z m : ℕ) {x : ℕ → Duo} (is : (e : ℕ) → e < word_rows → pair_at z m e ≡ x e) where
  -- a new top, with no more below it than there was
  lower_puts : (k h : ℕ) → h ≡ suc k → h ≤ height → Puts word_rows k (pair_of ys ns y n height) (pair_of ys ns z m h) x
  lower_puts k h q l = record {
    top = λ e b. pair_top ys ns z m h e k q ∙ is e b;
    under = λ e b j i. pair_under ys ns z m h e j (omega arith) ∙ sym (pair_under ys ns y n height e j (omega arith));
  }

  -- a new top on the old one, which is stored
  upper_puts : height < length ys → height < length ns
      → Puts word_rows height (pair_of ys ns y n height) (pair_of (set ys height y) (set ns height n) z m (height + 1)) x
  upper_puts k l = record {
    top = λ e b. pair_top (set ys height y) (set ns height n) z m (height + 1) e height (add-one height) ∙ is e b;
    under = λ e b j i. ap₂ (λ (a d : ℕ). pair_at a d e) (word_kept ys y height z k j i) (word_kept ns n height m l j i);
  }

-- ---- a turn

-- the state of the run, with i signs read and height values on the stacks
pub record Railed (code ts fs ys ns : List ℕ) (y n height i : ℕ) : Type 0 where
  pub running : Running 128 word_rows code (rails_at ts fs) (pair_of ys ns y n height) height i
  pub size_yes : length ys ≡ 128
  pub size_no : length ns ≡ 128

module _ {code ts fs ys ns : List ℕ} {y n height i : ℕ} (inv : Railed code ts fs ys ns y n height i) (l : i < length code) where
  abbrev c : ℕ
  c = get_or code i 0

  -- a sign that joins finds two values
  pub two_there : (k : ℕ) → c ≡ k → class_of k ≡ joins → (2 ≤ height) × (height ≤ 128)
  two_there k q h = (takes inv.running l joins (ap class_of q ∙ h), inv.running.high)

  -- one that pushes finds room, and an atom's number is small
  pub room_there : 5 ≤ c → (height < 128) × (c < 23)
  room_there h = takes inv.running l pushes (class_pushes c h)

  pub rails_turn : c ≡ 0 → Railed code ts fs ys ns n y height (i + 1)
  rails_turn q =
      let one : 1 ≤ height = takes inv.running l turns (class_turns c q) in
      let z : height ≡ suc (height - 1) = omega arith in
      record {
        running = turn_again inv.running l (height - 1) (pair_of ys ns n y height) (class_turns c q) z
            (lower_puts ys ns y n height n y (λ e b. ap not_d (sym (pair_top ys ns y n height e (height - 1) z))) (height - 1) height z (omega arith));
        size_yes = inv.size_yes;
        size_no = inv.size_no;
      }

  pub rails_join : (k z m : ℕ) → c ≡ k → class_of k ≡ joins
      → ((e : ℕ) → pair_at z m e ≡ table_of k (pair_at (get_or ys (height - 1) 0) (get_or ns (height - 1) 0) e) (pair_at y n e))
      → Railed code ts fs ys ns z m (height - 1) (i + 1)
  rails_join k z m q h f =
      let two = (two_there k q h).0 in
      let a : height ≡ suc (suc (height - 2)) = omega arith in
      let d : height - 1 ≡ suc (height - 2) = omega arith in
      record {
        running = join_again inv.running l (height - 2) (pair_of ys ns z m (height - 1)) (ap class_of q ∙ h) a
            (lower_puts ys ns y n height z m
            (λ e b. f e
            ∙ ap (λ (j : ℕ). table_of j (pair_at (get_or ys (height - 1) 0) (get_or ns (height - 1) 0) e) (pair_at y n e)) (sym q)
            ∙ ap₂ (table_of c)
            (ap (λ (j : ℕ). pair_at (get_or ys j 0) (get_or ns j 0) e) d ∙ sym (pair_under ys ns y n height e (height - 2) (omega arith)))
            (sym (pair_top ys ns y n height e (suc (height - 2)) a)))
            (height - 2) (height - 1) d (omega arith));
        size_yes = inv.size_yes;
        size_no = inv.size_no;
      }

  pub rails_push : (z m : ℕ) → 5 ≤ c → ((e : ℕ) → e < word_rows → pair_at z m e ≡ push_of (rails_at ts fs e) c)
      → Railed code ts fs (set ys height y) (set ns height n) z m (height + 1) (i + 1)
  rails_push z m h f = record {
    running = push_again inv.running l (pair_of (set ys height y) (set ns height n) z m (height + 1)) (class_pushes c h)
        (upper_puts ys ns y n height z m f (omega (arith, room_there h, inv.size_yes)) (omega (arith, room_there h, inv.size_no)));
    size_yes = length-set ys height y ∙ inv.size_yes;
    size_no = length-set ns height n ∙ inv.size_no;
  }

pub rails_begin : (code ts fs ys ns : List ℕ) (y n : ℕ) → Safe 128 16 code 0 → length ys ≡ 128 → length ns ≡ 128
    → Railed code ts fs ys ns y n 0 0
rails_begin code ts fs ys ns y n s h k = record {
  running = begins 128 word_rows code (rails_at ts fs) (pair_of ys ns y n 0) s;
  size_yes = h;
  size_no = k;
}

-- at the end the tops are the value
pub rails_end : {code ts fs ys ns : List ℕ} {y n height i : ℕ} → Railed code ts fs ys ns y n height i → length code ≤ i
    → (e : ℕ) → e < word_rows → exec (rails_at ts fs e) code [] ≡ pair_at y n e ∷ []
rails_end {ys = ys} {ns = ns} {y} {n} {height} inv l e b =
    ends inv.running l e b ∙ ap (λ (d : Duo). d ∷ []) (pair_top ys ns y n height e 0 (one_left inv.running l))
