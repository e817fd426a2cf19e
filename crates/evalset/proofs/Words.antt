-- The members of a set by the bits of its words, each law for any word. Assumes nothing.
use mathlib.Core.Path.{◌≡◌, refl, sym, ap, ap₂, ◌∙◌, fun_ext}
use mathlib.Core.Bool.{Bool, false, ◌&&◌}
use mathlib.Core.List.{List, [], ◌∷◌}
use mathlib.Core.Logic.{⊎_elim}
use mathlib.Mathlib.Logic.Function.Defs.{congr_fun}
use Prim.Native.Nat.{ℕ, zero, suc, ◌+◌, ◌-◌, ◌*◌, ◌/◌, ◌%◌, ◌^◌, ◌≤◌, ◌<◌}
use native.Mathlib.Omega.{arith}
use native.Mathlib.Decide.{ℕ_discrete as dec_eq}
use lib.Dec.{ltb, eqb}
use lib.ListN.{length, get_or, set}
use lib.Seq.{get_or-set_same, get_or-set_other, ext_get_or}
use lib.Pow.{pow_mono}
use borrow.Author.Tests.{lt-ltb, le-ltb, eq-eqb, ne_eqb}
use Rattle.lists.specs.Search.{first, below}
use Rattle.lists.proofs.Below.{Least, first_at, first_none_below}
use Rattle.lists.proofs.Truth.{side}
use Rattle.evalset.specs.declared.EvalSet.{EvalSet}
use Rattle.evalset.specs.Bit.{word_bits, word_levels, bit}
use Rattle.evalset.specs.Sets.{room, mem, none_of, below_of}
use Rattle.evalset.proofs.Bits.{bit_none, bit_under, bit_shr, same_bits}
use Rattle.evalset.proofs.Members.{mem_above}

-- word k of a set
abbrev pub word : EvalSet → ℕ → ℕ
word s k = get_or s.words k 0

-- a fact of each word
pub four : (P : ℕ → Type 0) → P 0 → P 1 → P 2 → P 3 → (k : ℕ) → k < 4 → P k
four P a b c d zero l = a
four P a b c d (suc zero) l = b
four P a b c d (suc (suc zero)) l = c
four P a b c d (suc (suc (suc zero))) l = d
four P a b c d (suc (suc (suc (suc k)))) l = absurd (omega arith)

-- ---- bit e of word k is the member word_bits * k + e
module _ (s : EvalSet) where
  pub mem_bit : (e : ℕ) → e < room → mem s e ≡ bit (word s (e / word_bits)) (e % word_bits)
  unfolding mem
  mem_bit e l = ap (λ (b : Bool). b && bit (word s (e / word_bits)) (e % word_bits)) (lt-ltb e room l)

  pub mem_word : (k e : ℕ) → k < 4 → e < word_bits → mem s (word_bits * k + e) ≡ bit (word s k) e
  unfolding room
  mem_word k e l m =
      let q : (word_bits * k + e) / word_bits ≡ k = omega arith in
      let r : (word_bits * k + e) % word_bits ≡ e = omega arith in
      mem_bit (word_bits * k + e) (omega arith) ∙ ap₂ (λ (i j : ℕ). bit (word s i) j) q r

-- a bit of that number: the low ones are those of the place in the word, the others those of the word's place
pub low_bit : (k e i : ℕ) → i < word_levels → bit (word_bits * k + e) i ≡ bit e i
low_bit zero e i l =
    let z : word_bits * 0 + e ≡ e = omega arith in
    ap (λ (x : ℕ). bit x i) z
low_bit (suc k) e i l =
    let z : word_bits * suc k + e ≡ 2 ^ word_levels + (word_bits * k + e) = omega arith in
    ap (λ (x : ℕ). bit x i) z ∙ bit_under word_levels (word_bits * k + e) i l ∙ low_bit k e i l

pub high_bit : (k e i : ℕ) → e < word_bits → bit (word_bits * k + e) (word_levels + i) ≡ bit k i
high_bit k e i l =
    let q : (word_bits * k + e) / 2 ^ word_levels ≡ k = omega arith in
    sym (bit_shr (word_bits * k + e) word_levels i) ∙ ap (λ (x : ℕ). bit x i) q

-- a set is known by its words
module _ (s : EvalSet) (p : ℕ → Bool) where
  pub by_word : ((k e : ℕ) → k < 4 → e < word_bits → bit (word s k) e ≡ p (word_bits * k + e)) → ((e : ℕ) → room ≤ e → p e ≡ false)
      → mem s ≡ p
  unfolding room
  by_word h g = fun_ext (λ e. ⊎_elim (low e) (λ l. mem_above s e l ∙ sym (g e l)) (side e room))
    where
      low : (e : ℕ) → e < room → mem s e ≡ p e
      low e l =
          let q : word_bits * (e / word_bits) + e % word_bits ≡ e = omega arith in
          mem_bit s e l ∙ h (e / word_bits) (e % word_bits) (omega arith) (omega arith) ∙ ap p q

pub no_words : mem (record { words = [] }) ≡ none_of
no_words = by_word (record { words = [] }) none_of (λ k e l m. bit_none e) (λ e l. refl)

-- the bits of x are those of p from word k on
abbrev pub Bits : (ℕ → Bool) → ℕ → ℕ → Type 0
Bits p k x = (e : ℕ) → e < word_bits → bit x e ≡ p (word_bits * k + e)

-- ---- a set made of four words
pub made : (p : ℕ → Bool) (x y z w : ℕ) → Bits p 0 x → Bits p 1 y → Bits p 2 z → Bits p 3 w → ((e : ℕ) → room ≤ e → p e ≡ false)
    → mem (record { words = x ∷ y ∷ z ∷ w ∷ [] }) ≡ p
made p x y z w a b c d above =
    by_word (record { words = x ∷ y ∷ z ∷ w ∷ [] }) p
    (λ k e l. four (λ i. e < word_bits → bit (get_or (x ∷ y ∷ z ∷ w ∷ []) i 0) e ≡ p (word_bits * i + e)) (a e) (b e) (c e) (d e) k l)
    above

-- an operation on each word of two sets
module _ (g : Bool → Bool → Bool) (zeros : g false false ≡ false) (a b : EvalSet) where
  abbrev pub OfBoth : ℕ → ℕ → Type 0
  OfBoth k x = (e : ℕ) → bit x e ≡ g (bit (word a k) e) (bit (word b k) e)

  pub paired : (s : EvalSet) → ((k : ℕ) → k < 4 → OfBoth k (word s k)) → mem s ≡ (λ e. g (mem a e) (mem b e))
  paired s h =
      by_word s (λ e. g (mem a e) (mem b e)) (λ k e l m. h k l e ∙ sym (ap₂ g (mem_word a k e l m) (mem_word b k e l m)))
      (λ e l. ap₂ g (mem_above a e l) (mem_above b e l) ∙ zeros)

-- ---- a bit of one word changed
module _ (h : Bool → Bool → Bool) (keeps : (b : Bool) → h b false ≡ b) (s : EvalSet) (long : length s.words ≡ 4) (i : ℕ)
    (small : i < room) where
  pub changed : (v : ℕ) → ((e : ℕ) → bit v e ≡ h (bit (word s (i / word_bits)) e) (eqb e (i % word_bits)))
      → mem (record { words = set s.words (i / word_bits) v }) ≡ (λ e. h (mem s e) (eqb e i))
  unfolding room
  changed v bits =
      by_word (record { words = set s.words (i / word_bits) v }) (λ e. h (mem s e) (eqb e i)) (λ k e l m. at k e l m (dec_eq k (i / word_bits)))
      (λ e l. ap₂ h (mem_above s e l) (ne_eqb e i (λ z. omega arith)) ∙ keeps false)
    where
      place : (e : ℕ) → e < word_bits → Dec (e ≡ i % word_bits) → eqb e (i % word_bits) ≡ eqb (word_bits * (i / word_bits) + e) i
      place e m (yes q) = eq-eqb e (i % word_bits) q ∙ sym (eq-eqb (word_bits * (i / word_bits) + e) i (omega arith))
      place e m (no ne) = ne_eqb e (i % word_bits) ne ∙ sym (ne_eqb (word_bits * (i / word_bits) + e) i (λ z. ne (omega arith)))

      at : (k e : ℕ) → k < 4 → e < word_bits → Dec (k ≡ i / word_bits)
          → bit (get_or (set s.words (i / word_bits) v) k 0) e ≡ h (mem s (word_bits * k + e)) (eqb (word_bits * k + e) i)
      at k e l m (yes q) =
          let t : i / word_bits < 4 = omega arith in
          ap (λ (x : ℕ). bit x e)
          (ap (λ (x : ℕ). get_or (set s.words (i / word_bits) v) x 0) q ∙ get_or-set_same s.words (i / word_bits) v 0 (omega (arith, long)))
          ∙ bits e ∙ ap₂ h (sym (mem_word s (i / word_bits) e t m)) (place e m (dec_eq e (i % word_bits)))
          ∙ ap (λ (x : ℕ). h (mem s (word_bits * x + e)) (eqb (word_bits * x + e) i)) (sym q)
      at k e l m (no ne) =
          ap (λ (x : ℕ). bit x e) (get_or-set_other s.words (i / word_bits) k v 0 ne) ∙ sym (mem_word s k e l m)
          ∙ sym (keeps (mem s (word_bits * k + e)))
          ∙ ap (h (mem s (word_bits * k + e))) (sym (ne_eqb (word_bits * k + e) i (λ z. ne (omega arith))))

-- ---- the least member, word by word

-- no word before word k has a bit
abbrev pub Clear : EvalSet → ℕ → Type 0
Clear s k = (d : ℕ) → d < word_bits * k → mem s d ≡ false

module _ (s : EvalSet) (k : ℕ) (l : k < 4) (clear : Clear s k) where
  pub clear_more : ((e : ℕ) → e < word_bits → bit (word s k) e ≡ false) → Clear s (k + 1)
  clear_more none d m = ⊎_elim (clear d) here (side d (word_bits * k))
    where
      here : word_bits * k ≤ d → mem s d ≡ false
      here n =
          let z : d ≡ word_bits * k + (d - word_bits * k) = omega arith in
          ap (mem s) z ∙ mem_word s k (d - word_bits * k) l (omega arith) ∙ none (d - word_bits * k) (omega arith)

  pub least_at : (e : ℕ) → Least word_bits e (bit (word s k)) → first (mem s) (below room) ≡ (word_bits * k + e) ∷ []
  unfolding room
  least_at e h =
      first_at (mem s) room (word_bits * k + e)
      (record {
        within = omega (arith, h.within);
        passes = mem_word s k e l h.within ∙ h.passes;
        before = λ d m. ⊎_elim (clear d) (here d m) (side d (word_bits * k));
      })
    where
      here : (d : ℕ) → d < word_bits * k + e → word_bits * k ≤ d → mem s d ≡ false
      here d m n =
          let z : d ≡ word_bits * k + (d - word_bits * k) = omega arith in
          ap (mem s) z ∙ mem_word s k (d - word_bits * k) l (omega (arith, h.within)) ∙ h.before (d - word_bits * k) (omega arith)

pub clear_all : (s : EvalSet) → Clear s 4 → first (mem s) (below room) ≡ []
unfolding room
clear_all s clear = first_none_below (mem s) room (λ d l. clear d (omega arith))

-- ---- the evaluations below 2 ^ names, from 64 up
module _ (names j d : ℕ) (low : 2 ^ j ≤ d) (high : d < 2 ^ suc j) (small : d < room) where
  pub above_word : below_of names d ≡ ltb j names
  above_word = ap (λ (b : Bool). b && ltb d (2 ^ names)) (lt-ltb d room small) ∙ ⊎_elim some none (side j names)
    where
      some : j < names → ltb d (2 ^ names) ≡ ltb j names
      some l = lt-ltb d (2 ^ names) (omega (arith, pow_mono {i = suc j} {j = names} l)) ∙ sym (lt-ltb j names l)

      none : names ≤ j → ltb d (2 ^ names) ≡ ltb j names
      none l = le-ltb d (2 ^ names) (omega (arith, pow_mono {i = names} {j = j} l)) ∙ sym (le-ltb j names l)

-- ---- sets of four words, each below 2 ^ 64, are equal where their members are
pub record Whole (s : EvalSet) : Type 0 where
  pub long : length s.words ≡ 4
  pub small : (k : ℕ) → word s k < 2 ^ word_bits

pub same_members : (s t : EvalSet) → Whole s → Whole t → mem s ≡ mem t → s ≡ t
same_members s t v w h =
    ap (λ (x : List ℕ). record { words = x })
    (ext_get_or 0 s.words t.words (v.long ∙ sym w.long)
    (λ k l. same_bits word_bits (word s k) (word t k) (v.small k) (w.small k)
    (λ e m. sym (mem_word s k e (omega (arith, v.long)) m) ∙ congr_fun h (word_bits * k + e) ∙ mem_word t k e (omega (arith, v.long)) m)))
