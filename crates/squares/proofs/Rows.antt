-- A row of a square is a set. Assumes nothing.
use mathlib.Core.Path.{◌≡◌, refl, sym, ap, ap₂, ◌∙◌, subst, fun_ext}
use mathlib.Core.Bool.{Bool, true, false, ◌&&◌, ◌||◌, cond, and-false}
use mathlib.Core.List.{List, [], ◌∷◌}
use mathlib.Core.Logic.{◌⊎◌, inl, inr, ⊎_elim}
use Prim.Native.Nat.{ℕ, zero, suc, ◌+◌, ◌*◌, ◌/◌, ◌%◌, ◌^◌, ◌≤◌, ◌<◌}
use native.Mathlib.Omega.{arith}
use lib.Dec.{ltb, eqb}
use native.Mathlib.Decide.{ℕ_discrete as dec_eq}
use native.Mathlib.Nat.{mul-le-mul_left, mul-suc}
use lib.Bits.{bit_or}
use lib.Pow.{pow_mono}
use lib.ListN.{length, get_or, set, replicate, length-set}
use lib.Seq.{get_or-set_same, get_or-set_other}
use borrow.Author.Tests.{lt-ltb, le-ltb, eq-eqb, ne_eqb}
use Rattle.lists.proofs.Truth.{side}
use Rattle.evalset.specs.Bit.{word_bits, bit}
use Rattle.lists.proofs.Lists.{repeated_at}
use Rattle.evalset.specs.Sets.{room, mem, none_of}
use Rattle.evalset.specs.Most.{most}
use Rattle.evalset.proofs.Bits.{bit_none, bit_or_lem}
use Rattle.evalset.proofs.Members.{names_room}
use Rattle.evalset.proofs.Words.{Bits, made}
use Rattle.squares.specs.Square.{wide, Square, square_at, reach, Clear, Joined, JoinedIn}

-- the words of other rows are other words
lower : (i p w k : ℕ) → i < p → k < w → w * i + k < w * p
lower i p w k l m =
    let d : w * suc i ≤ w * p = mul-le-mul_left w l in
    omega (arith, d, mul-suc w i, m)

higher : (i p w k : ℕ) → p < i → w * p + w ≤ w * i + k
higher i p w k l =
    let d : w * suc p ≤ w * i = mul-le-mul_left w l in
    omega (arith, d, mul-suc w p)

module _ (ws : List ℕ) where
  pub narrow_is : length ws ≡ 64 → wide ws ≡ 1
  unfolding wide
  narrow_is z = ap (λ (b : Bool). cond b 1 4) (eq-eqb (length ws) word_bits z)

  pub wide_is : (length ws ≡ 64 → ⊥) → wide ws ≡ 4
  unfolding wide
  wide_is z = ap (λ (b : Bool). cond b 1 4) (ne_eqb (length ws) word_bits z)

  module _ (w p : ℕ) (is : wide ws ≡ w) where
    shape : (q : ℕ) → square_at ws p q ≡ (ltb q (word_bits * w) && bit (get_or ws (w * p + q / word_bits) 0) (q % word_bits))
    unfolding square_at
    shape q = ap (λ (x : ℕ). ltb q (word_bits * x) && bit (get_or ws (x * p + q / word_bits) 0) (q % word_bits)) is

    -- its words
    pub word_in : (k : ℕ) → k < w → Bits (square_at ws p) k (get_or ws (w * p + k) 0)
    word_in k l e m =
        let y : (word_bits * k + e) / word_bits ≡ k = omega arith in
        let z : (word_bits * k + e) % word_bits ≡ e = omega arith in
        sym (shape (word_bits * k + e)
        ∙ ap₂ (λ (b : Bool) (i : ℕ). b && bit (get_or ws (w * p + i) 0) ((word_bits * k + e) % word_bits)) (lt-ltb (word_bits * k + e) (word_bits * w) (omega (arith, l))) y
        ∙ ap (bit (get_or ws (w * p + k) 0)) z)

    -- and none past them
    pub word_out : (k : ℕ) → w ≤ k → Bits (square_at ws p) k 0
    word_out k l e m =
        bit_none e
        ∙ sym (shape (word_bits * k + e)
        ∙ ap (λ (b : Bool). b && bit (get_or ws (w * p + (word_bits * k + e) / word_bits) 0) ((word_bits * k + e) % word_bits))
        (le-ltb (word_bits * k + e) (word_bits * w) (omega (arith, l))))

    pub past_none : w ≤ 4 → (q : ℕ) → room ≤ q → square_at ws p q ≡ false
    unfolding room
    past_none l q m =
        shape q ∙ ap (λ (b : Bool). b && bit (get_or ws (w * p + q / word_bits) 0) (q % word_bits)) (le-ltb q (word_bits * w) (omega (arith, l, m)))

  pub narrow_row : (p : ℕ) → wide ws ≡ 1 → mem (record { words = get_or ws (1 * p + 0) 0 ∷ 0 ∷ 0 ∷ 0 ∷ [] }) ≡ square_at ws p
  narrow_row p z =
      made (square_at ws p) _ _ _ _ (word_in 1 p z 0 (omega arith)) (word_out 1 p z 1 (omega arith)) (word_out 1 p z 2 (omega arith))
      (word_out 1 p z 3 (omega arith)) (past_none 1 p z (omega arith))

  pub wide_row : (p : ℕ) → wide ws ≡ 4
      → mem (record { words = get_or ws (4 * p + 0) 0 ∷ get_or ws (4 * p + 1) 0 ∷ get_or ws (4 * p + 2) 0 ∷ get_or ws (4 * p + 3) 0 ∷ [] }) ≡ square_at ws p
  wide_row p z =
      made (square_at ws p) _ _ _ _ (word_in 4 p z 0 (omega arith)) (word_in 4 p z 1 (omega arith)) (word_in 4 p z 2 (omega arith))
      (word_in 4 p z 3 (omega arith)) (past_none 4 p z (omega arith))

as_wide : (us ws : List ℕ) → length us ≡ length ws → wide us ≡ wide ws
unfolding wide
as_wide us ws z = ap (λ (n : ℕ). cond (eqb n word_bits) 1 4) z

-- a row that is in the square
pub within : (ws : List ℕ) (p w : ℕ) → wide ws ≡ w → wide ws * p + wide ws ≤ length ws → w * p + w ≤ length ws
within ws p w z h = subst (λ (x : ℕ). x * p + x ≤ length ws) z h

pub short : (ws : List ℕ) → Square ws → length ws ≤ 1024
short ws = ⊎_elim (λ z. omega arith) (λ z. omega arith)

-- ---- a row joined, word by word

-- the first k words of row p have the members of x too; the other words are as they were
pub record JoinedTo (w p : ℕ) (x : ℕ → Bool) (k : ℕ) (ws ws' : List ℕ) : Type 0 where
  pub long : length ws' ≡ length ws
  pub done : (j : ℕ) → j < k → (e : ℕ) → e < word_bits → bit (get_or ws' (w * p + j) 0) e ≡ (bit (get_or ws (w * p + j) 0) e || x (word_bits * j + e))
  pub before : (i : ℕ) → i < w * p → get_or ws' i 0 ≡ get_or ws i 0
  pub behind : (i : ℕ) → w * p + k ≤ i → get_or ws' i 0 ≡ get_or ws i 0

module _ (w p : ℕ) (x : ℕ → Bool) (ws : List ℕ) where
  pub joined_none : JoinedTo w p x 0 ws ws
  joined_none = record { long = refl; done = λ j l. absurd (omega arith); before = λ i l. refl; behind = λ i l. refl }

  pub joined_next : (k v : ℕ) (ws' : List ℕ) → w * p + k < length ws → Bits x k v → JoinedTo w p x k ws ws'
      → JoinedTo w p x (k + 1) ws (set ws' (w * p + k) (bit_or (get_or ws' (w * p + k) 0) v))
  joined_next k v ws' l b h =
      record {
        long = length-set ws' (w * p + k) _ ∙ h.long;
        done = λ j m e n. go j m e n (dec_eq j k);
        before = λ i m. get_or-set_other ws' (w * p + k) i _ 0 (λ z. omega arith) ∙ h.before i m;
        behind = λ i m. get_or-set_other ws' (w * p + k) i _ 0 (λ z. omega arith) ∙ h.behind i (omega arith);
      }
    where
      go : (j : ℕ) → j < k + 1 → (e : ℕ) → e < word_bits → Dec (j ≡ k)
          → bit (get_or (set ws' (w * p + k) (bit_or (get_or ws' (w * p + k) 0) v)) (w * p + j) 0) e ≡ (bit (get_or ws (w * p + j) 0) e || x (word_bits * j + e))
      go j m e n (yes z) =
          ap (λ (i : ℕ). bit (get_or (set ws' (w * p + k) (bit_or (get_or ws' (w * p + k) 0) v)) (w * p + i) 0) e) z
          ∙ ap (λ (y : ℕ). bit y e) (get_or-set_same ws' (w * p + k) (bit_or (get_or ws' (w * p + k) 0) v) 0 (omega (arith, h.long)))
          ∙ bit_or_lem (get_or ws' (w * p + k) 0) v e
          ∙ ap₂ (λ (y : ℕ) (t : Bool). bit y e || t) (h.behind (w * p + k) (omega arith)) (b e n)
          ∙ ap (λ (i : ℕ). bit (get_or ws (w * p + i) 0) e || x (word_bits * i + e)) (sym z)
      go j m e n (no ne) =
          ap (λ (y : ℕ). bit y e) (get_or-set_other ws' (w * p + k) (w * p + j) (bit_or (get_or ws' (w * p + k) 0) v) 0 (λ z. ne (omega arith)))
          ∙ h.done j (omega (arith, ne)) e n

  pub joined_row : (ws' : List ℕ) → wide ws ≡ w → 0 < w → JoinedTo w p x w ws ws' → Joined p x ws ws'
  joined_row ws' z some h =
      record { long = h.long; here = here; others = others }
    where
      same : wide ws' ≡ w
      same = as_wide ws' ws h.long ∙ z

      here : (q : ℕ) → q < word_bits * wide ws → square_at ws' p q ≡ (square_at ws p q || x q)
      here q l =
          let m : q / word_bits < w = omega (arith, l, z) in
          let u : word_bits * (q / word_bits) + q % word_bits ≡ q = omega arith in
          let v : q < word_bits * w = omega (arith, l, z) in
          let t : ltb q (word_bits * w) ≡ true = lt-ltb q (word_bits * w) v in
          shape ws' w p same q ∙ ap (λ (b : Bool). b && bit (get_or ws' (w * p + q / word_bits) 0) (q % word_bits)) t
          ∙ h.done (q / word_bits) m (q % word_bits) (omega arith)
          ∙ ap₂ ◌||◌ (sym (shape ws w p z q ∙ ap (λ (b : Bool). b && bit (get_or ws (w * p + q / word_bits) 0) (q % word_bits)) t)) (ap x u)

      others : (i q : ℕ) → (i ≡ p → ⊥) → square_at ws' i q ≡ square_at ws i q
      others i q ne =
          shape ws' w i same q ∙ ⊎_elim inside outside (side q (word_bits * w)) ∙ sym (shape ws w i z q)
        where
          inside : q < word_bits * w → (ltb q (word_bits * w) && bit (get_or ws' (w * i + q / word_bits) 0) (q % word_bits)) ≡ (ltb q (word_bits * w) && bit (get_or ws (w * i + q / word_bits) 0) (q % word_bits))
          inside l =
              ap (λ (n : ℕ). ltb q (word_bits * w) && bit n (q % word_bits))
              (⊎_elim (λ m. h.before (w * i + q / word_bits) (lower i p w (q / word_bits) m (omega (arith, l))))
              (λ m. h.behind (w * i + q / word_bits) (higher i p w (q / word_bits) (omega (arith, m, ne)))) (side i p))

          outside : word_bits * w ≤ q → (ltb q (word_bits * w) && bit (get_or ws' (w * i + q / word_bits) 0) (q % word_bits)) ≡ (ltb q (word_bits * w) && bit (get_or ws (w * i + q / word_bits) 0) (q % word_bits))
          outside l =
              ap (λ (b : Bool). b && bit (get_or ws' (w * i + q / word_bits) 0) (q % word_bits)) (le-ltb q (word_bits * w) l)
              ∙ sym (ap (λ (b : Bool). b && bit (get_or ws (w * i + q / word_bits) 0) (q % word_bits)) (le-ltb q (word_bits * w) l))

-- ---- a row that may be outside the square

past_words : (ws : List ℕ) (i : ℕ) → length ws ≤ i → get_or ws i 0 ≡ 0
past_words [] i l = refl
past_words (x ∷ ws) zero l = absurd (omega arith)
past_words (x ∷ ws) (suc i) l = past_words ws i (omega arith)

module _ (ws : List ℕ) where
  abbrev Inside : ℕ → Type 0
  Inside p = wide ws * p + wide ws ≤ length ws

  pub narrow_inside : length ws ≡ 64 → (p : ℕ) → p < 64 → Inside p
  narrow_inside z p l = subst (λ (x : ℕ). x * p + x ≤ length ws) (sym (narrow_is ws z)) (omega (arith, z))

  -- a square that is not the smaller
  pub larger : Square ws → (length ws ≡ 64 → ⊥) → length ws ≡ 1024
  larger h ne = ⊎_elim (λ z. absurd (ne z)) (λ z. z) h

  pub wide_inside : Square ws → (length ws ≡ 64 → ⊥) → (p : ℕ) → p < 256 → Inside p
  wide_inside h ne p l = subst (λ (x : ℕ). x * p + x ≤ length ws) (sym (wide_is ws ne)) (omega (arith, larger h ne))

  beyond : (w p : ℕ) → wide ws ≡ w → length ws ≤ w * p → square_at ws p ≡ none_of
  beyond w p z l =
      fun_ext (λ q. shape ws w p z q
      ∙ ap (λ (x : ℕ). ltb q (word_bits * w) && bit x (q % word_bits)) (past_words ws (w * p + q / word_bits) (omega arith))
      ∙ ap (λ (b : Bool). ltb q (word_bits * w) && b) (bit_none (q % word_bits)) ∙ and-false (ltb q (word_bits * w)))

  pub narrow_beyond : length ws ≡ 64 → (p : ℕ) → 64 ≤ p → square_at ws p ≡ none_of
  narrow_beyond z p l = beyond 1 p (narrow_is ws z) (omega (arith, z))

  pub wide_beyond : Square ws → (length ws ≡ 64 → ⊥) → (p : ℕ) → 256 ≤ p → square_at ws p ≡ none_of
  wide_beyond h ne p l = beyond 4 p (wide_is ws ne) (omega (arith, larger h ne))

  pub narrow_reach : length ws ≡ 64 → reach ws ≡ 64
  narrow_reach z = ap (λ (x : ℕ). word_bits * x) (narrow_is ws z)

  pub wide_reach : (length ws ≡ 64 → ⊥) → reach ws ≡ 256
  wide_reach ne = ap (λ (x : ℕ). word_bits * x) (wide_is ws ne)

-- of a square: a row that it has, and one that it has not
module _ (ws : List ℕ) (h : Square ws) (p : ℕ) where
  pub inside : p < reach ws → wide ws * p + wide ws ≤ length ws
  inside l = ⊎_elim (λ z. narrow_inside ws z p (omega (arith, l, narrow_reach ws z))) large h
    where
      large : length ws ≡ 1024 → wide ws * p + wide ws ≤ length ws
      large z =
          let ne : length ws ≡ 64 → ⊥ = λ y. omega arith in
          wide_inside ws h ne p (omega (arith, l, wide_reach ws ne))

  pub outside : reach ws ≤ p → square_at ws p ≡ none_of
  outside l = ⊎_elim (λ z. narrow_beyond ws z p (omega (arith, l, narrow_reach ws z))) large h
    where
      large : length ws ≡ 1024 → square_at ws p ≡ none_of
      large z =
          let ne : length ws ≡ 64 → ⊥ = λ y. omega arith in
          wide_beyond ws h ne p (omega (arith, l, wide_reach ws ne))

-- the reach is that of the length
pub same_reach : (us ws : List ℕ) → length us ≡ length ws → reach us ≡ reach ws
same_reach us ws z = ap (λ (x : ℕ). word_bits * x) (as_wide us ws z)

pub same_square : (us ws : List ℕ) → length us ≡ length ws → Square ws → Square us
same_square us ws z h = subst (λ (n : ℕ). (n ≡ 64) ⊎ (n ≡ 1024)) (sym z) h

-- and of a square at most all evaluations
pub reach_room : (ws : List ℕ) → reach ws ≤ room
unfolding wide room
reach_room ws = go (eqb (length ws) word_bits)
  where
    go : (b : Bool) → word_bits * cond b 1 4 ≤ 256
    go true = omega arith
    go false = omega arith

-- a row has a word
pub some_word : (ws : List ℕ) → 0 < wide ws
unfolding wide
some_word ws = go (eqb (length ws) word_bits)
  where
    go : (b : Bool) → 0 < cond b 1 4
    go true = omega arith
    go false = omega arith

module _ (p : ℕ) (x : ℕ → Bool) (ws : List ℕ) where
  pub joined_in : (ws' : List ℕ) → Joined p x ws ws' → JoinedIn p x ws ws'
  joined_in ws' h = record { long = h.long; here = λ q l m. h.here q m; others = h.others }

  pub joined_beyond : reach ws ≤ p → JoinedIn p x ws ws
  joined_beyond l = record { long = refl; here = λ q a b. absurd (omega arith); others = λ i q ne. refl }

-- ---- a square of words that are 0

pub clear_words : (n : ℕ) → Clear (replicate n 0)
unfolding square_at
clear_words n p q =
    ap (λ (b : Bool). ltb q (word_bits * wide (replicate n 0)) && b)
    (repeated_at (λ (x : ℕ). bit x (q % word_bits) ≡ false) (bit_none (q % word_bits)) (bit_none (q % word_bits)) n (wide (replicate n 0) * p + q / word_bits))
    ∙ and-false (ltb q (word_bits * wide (replicate n 0)))

-- the smaller square has room for six names, the larger for all
pub few_square : Square (replicate 64 0)
few_square = inl refl

pub many_square : Square (replicate 1024 0)
many_square = inr refl

pub few_reach : (n : ℕ) → n ≤ 6 → 2 ^ n ≤ reach (replicate 64 0)
few_reach n l = omega (arith, pow_mono {i = n} {j = 6} l, narrow_reach (replicate 64 0) refl)

pub many_reach : (n : ℕ) → n ≤ most → 2 ^ n ≤ reach (replicate 1024 0)
unfolding room
many_reach n l = omega (arith, names_room n l, wide_reach (replicate 1024 0) (λ z. omega (arith, z)))
