-- Texts put one after the other are their list put at once, and so are those that a loop puts turn by turn. Assumes nothing.
use mathlib.Core.Path.{◌≡◌, refl, sym, ap, ap₂, ◌∙◌, subst}
use mathlib.Core.List.{List, [], ◌∷◌, ◌++◌, append-nil}
use Prim.Native.Nat.{ℕ, ◌+◌, ◌-◌, ◌≤◌, ◌<◌}
use native.Mathlib.Omega.{arith}
use native.Mathlib.Nat.{add-zero}
use lib.ListN.{length, take, drop, set, length-append, length-drop}
use lib.Seq.{take_all, drop-length, drop-drop}
use borrow.Rule.Slice.PartMut.{put_mid, mid_of, Post-is}
use Rattle.lists.specs.Search.{collect, below}
use Rattle.lists.specs.Buffer.{over}
use Rattle.lists.specs.Putting.{written, Puts}
use Rattle.lists.proofs.Below.{collect_more, collect_within}
use Rattle.lists.proofs.Buffer.{written_none, written_set, written_more, written_length}

pub puts_none : (at : ℕ) (buffer : List ℕ) → at ≤ length buffer → Puts at [] buffer buffer at
puts_none at buffer h = record { fits = omega arith; place = sym (add-zero at); bytes = written_none at buffer }

-- the same text, said in another way
pub puts_text : {at : ℕ} {xs ys buffer exit : List ℕ} {end : ℕ} → xs ≡ ys → Puts at xs buffer exit end → Puts at ys buffer exit end
puts_text {at} {xs} {ys} {buffer} {exit} {end} e h = subst (λ (l : List ℕ). Puts at l buffer exit end) e h

module _ {at : ℕ} {xs buffer mid : List ℕ} {end : ℕ} (first : Puts at xs buffer mid end) where
  pub puts_length : length mid ≡ length buffer
  puts_length = ap length first.bytes ∙ written_length at xs buffer first.fits

  -- where it and n bytes fit, the n bytes fit behind it
  pub fits_next : (n : ℕ) → at + length xs + n ≤ length buffer → end + n ≤ length mid
  fits_next n h = omega (arith, first.place, puts_length)

  -- one byte more
  pub puts_byte : (b : ℕ) → at + length (xs ++ b ∷ []) ≤ length buffer → Puts at (xs ++ b ∷ []) buffer (set mid end b) (end + 1)
  puts_byte b h = record {
    fits = h;
    place = omega (arith, first.place, length-append xs (b ∷ []));
    bytes = ap₂ (λ (l : List ℕ) (x : ℕ). set l x b) first.bytes first.place
        ∙ written_set at xs buffer b (omega (arith, length-append xs (b ∷ [])));
  }

  -- a text more
  pub puts_more : {ys exit : List ℕ} {last : ℕ} → Puts end ys mid exit last → Puts at (xs ++ ys) buffer exit last
  puts_more {ys} second = record {
    fits = omega (arith, first.place, second.fits, puts_length, length-append xs ys);
    place = omega (arith, first.place, second.place, length-append xs ys);
    bytes = second.bytes ∙ ap₂ (λ (x : ℕ) (l : List ℕ). written x ys l) first.place first.bytes
        ∙ written_more at xs ys buffer first.fits;
  }

-- a byte put at a place, which is where what is put ends
pub put_at : {at : ℕ} {xs buffer mid : List ℕ} {end : ℕ} → Puts at xs buffer mid end → (place b : ℕ) → end ≡ place → at + length (xs ++ b ∷ []) ≤ length buffer
    → Puts at (xs ++ b ∷ []) buffer (set mid place b) (place + 1)
put_at {at} {xs} {buffer} {mid} {end} first place b e h =
    subst (λ (x : ℕ). Puts at (xs ++ b ∷ []) buffer (set mid x b) (x + 1)) e (puts_byte first b h)

-- four bytes put
pub puts_four : (at a b c d : ℕ) (buffer : List ℕ) → at + 4 ≤ length buffer
    → Puts at (a ∷ b ∷ c ∷ d ∷ []) buffer (set (set (set (set buffer at a) (at + 1) b) (at + 2) c) (at + 3) d) (at + 4)
puts_four at a b c d buffer h =
    let one = put_at (puts_none at buffer (omega arith)) at a refl (omega arith) in
    let two = put_at one (at + 1) b refl (omega arith) in
    let three = put_at two (at + 2) c (omega arith) (omega arith) in
    let four = put_at three (at + 3) d (omega arith) (omega arith) in
    let e : at + 3 + 1 ≡ at + 4 = omega arith in
    subst (λ (x : ℕ). Puts at (a ∷ b ∷ c ∷ d ∷ []) buffer (set (set (set (set buffer at a) (at + 1) b) (at + 2) c) (at + 3) d) x) e four

-- a text over the first bytes of the part from a place on
module _ (at : ℕ) (buffer : List ℕ) where
  abbrev pub part_from : List ℕ
  part_from = mid_of at (length buffer - at) buffer

  pub part_is : part_from ≡ drop at buffer
  part_is = take_all (length buffer - at) (drop at buffer) (omega (arith, length-drop at buffer))

  pub puts_part : {text part : List ℕ} {end : ℕ} → at + length text ≤ length buffer → end ≡ at + length text → part ≡ over text part_from
      → Puts at text buffer (put_mid at (length buffer - at) buffer part) end
  unfolding written over
  puts_part {text} {part} h e p = record {
    fits = h;
    place = e;
    bytes = ap₂ (λ (a b : List ℕ). take at buffer ++ (a ++ b)) (p ∙ ap (over text) part_is) (Post-is at (length buffer) buffer (omega arith) ∙ drop-length buffer)
        ∙ ap (λ (l : List ℕ). take at buffer ++ l) (append-nil (text ++ drop (length text) (drop at buffer)) ∙ ap (λ (l : List ℕ). text ++ l) (drop-drop (length text) at buffer));
  }

-- a loop that puts the text f i in turn i, before that turn
module _ (f : ℕ → List ℕ) (i : ℕ) {at : ℕ} {buffer mid : List ℕ} {end : ℕ} (before : Puts at (collect f (below i)) buffer mid end) where
  -- where the text of all turns fits, that of this one does
  pub turn_fits : (n : ℕ) → i < n → at + length (collect f (below n)) ≤ length buffer → end + length (f i) ≤ length mid
  turn_fits n l h =
      fits_next before (length (f i))
      (omega (arith, ap length (collect_more f i), length-append (collect f (below i)) (f i), collect_within f (i + 1) n (omega arith)))

  pub turn_puts : {exit : List ℕ} {last : ℕ} → Puts end (f i) mid exit last → Puts at (collect f (below (i + 1))) buffer exit last
  turn_puts this = puts_text (collect_more f i) (puts_more before this)

  pub turns_put : (n : ℕ) {text : List ℕ} → i ≡ n → text ≡ collect f (below n) → Puts at text buffer mid end
  turns_put n e t = puts_text (ap (λ (k : ℕ). collect f (below k)) e ∙ sym t) before
