-- The first word, the points, the contacts and the last word, one after the other, are the plan's words over the buffer.
-- Assumes nothing.
use mathlib.Core.Path.{◌≡◌, refl, sym, ap, ap₂, ◌∙◌}
use mathlib.Core.Bool.{Bool, true, false, not, ◌&&◌, cond}
use mathlib.Core.List.{List, [], ◌∷◌, ◌++◌, map}
use mathlib.Core.Logic.{⊎_elim}
use Prim.Native.Nat.{ℕ, zero, suc, ◌+◌, ◌-◌, ◌*◌, ◌/◌, ◌≤◌, ◌<◌}
use native.Mathlib.Omega.{arith}
use native.Mathlib.Nat.{zero-add, mul-suc}
use lib.Dec.{leb}
use lib.ListN.{length, get_or, take, set, length-append, length-map, length-set}
use borrow.Author.Tests.{le-leb, lt-leb}
use Rattle.std.specs.Prelude.{Result, Ok, Err}
use Rattle.lists.specs.Padded.{pad}
use Rattle.lists.specs.Search.{keep, collect, below}
use Rattle.lists.proofs.Below.{keep_length}
use Rattle.lists.proofs.Padded.{pad_at, pad_taken}
use Rattle.lists.proofs.Search.{placed, keep_elim}
use Rattle.lists.proofs.Truth.{side}
use Rattle.lists.specs.Buffer.{over}
use Rattle.lists.specs.Putting.{written}
use Rattle.lists.proofs.Buffer.{written_none, written_length, written_set, written_more, written_over}
use Rattle.evalset.specs.Sets.{room, minus_of}
use Rattle.evalset.proofs.Arrays.{inside}
use Rattle.lists.specs.declared.ShortBuffer.{ShortBuffer}
use Rattle.plan.specs.Words.{Plan, first_word, point_word, contact_word, last_word, before, words_of, most_points}
use Rattle.plan.specs.Arrays.{in_contact, points_plan, Writes}
use Rattle.plan.specs.Links.{row_to, links_to}
use Rattle.plan.specs.Private.{rows_by, room_of, Wrote}
use Rattle.plan.proofs.Complete.{before_length}
use Rattle.plan.proofs.Contacts.{row_one, row_within, links_small, links_same}
use Rattle.plan.proofs.Given.{links_count}
use Rattle.plan.proofs.Buffer.{wrote_length}

-- the next contact of a row fits, where the whole row does
pub row_fits : (at end n j i : ℕ) (t : ℕ → Bool) (buf mid : List ℕ) → i < j → j < n → t j ≡ true
    → at + length (row_to n i t) ≤ length buf → Wrote at (row_to j i t) buf mid end
    → (end < length mid) × (end < length buf)
row_fits at end n j i t buf mid l m e h w =
    let one : length (row_to j i t) + 1 ≡ length (row_to (j + 1) i t) =
    sym (length-append (row_to j i t) ((i * 256 + j) ∷ [])) ∙ ap length (row_one j i t l e) in
    let whole : length (row_to (j + 1) i t) ≤ length (row_to n i t) = row_within (j + 1) n i t (omega arith) in
    let same : length mid ≡ length buf = wrote_length at (row_to j i t) buf mid end (omega arith) w in
    (omega (arith, w.place), omega (arith, w.place))

all_room : room ≡ most_points
unfolding room
all_room = refl

-- how many points and contacts the plan of a set can have
pub sizes : (given : ℕ → Bool) (n : ℕ) (t : ℕ → ℕ → Bool) → n ≡ length (keep given (below room))
    → (n ≤ most_points) × (length (links_to n n t) ≤ n * most_points)
sizes given n t e = let few : n ≤ most_points = omega (arith, e, keep_length given room, all_room) in (few, links_small n n t few)

-- n points have at most n * (n - 1) / 2 contacts, and so 2 + n * (n + 1) / 2 words
pub links_most : (n : ℕ) (t : ℕ → ℕ → Bool) → 2 + n + length (links_to n n t) ≤ 2 + n * (n + 1) / 2
unfolding links_to
links_most n t =
    let pairs : 2 * length (collect (λ i. row_to n i (t i)) (below n)) ≤ n * (n - 1) = links_count t n 0 n (omega arith) in
    let sum : n * (n + 1) ≡ n * (n - 1) + 2 * n = squares n in
    omega arith
  where
    squares : (n : ℕ) → n * (n + 1) ≡ n * (n - 1) + 2 * n
    squares zero = omega arith
    squares (suc m) =
        let y : suc m - 1 ≡ m = omega arith in
        let z : suc m + 1 ≡ suc (suc m) = omega arith in
        rw (y, z) (omega (arith, mul-suc (suc m) (suc m), mul-suc (suc m) m))

-- ---- whether the words fit
pub room_enough : (size len : ℕ) → size ≤ len → Ok tt ≡ room_of size len
room_enough size len h = sym (rw (le-leb size len h))

pub room_short : (size len : ℕ) → len < size → Err (record { needed = size }) ≡ room_of size len
room_short size len h = sym (rw (lt-leb size len h))

-- the answer says which it is
pub fits_by : (size len : ℕ) → Ok tt ≡ room_of size len → size ≤ len
fits_by size len e =
    ⊎_elim (λ l. absurd (let q : ◌≡◌ {A = Result Unit ShortBuffer} (Ok tt) (Err (record { needed = size })) = e ∙ sym (room_short size len l) in let z : ◌≡◌ {A = ℕ} 0 1 = cc in omega arith))
    (λ l. l) (side len size)

pub lacks_by : (size len : ℕ) (x : ShortBuffer) → Err x ≡ room_of size len → (len < size) × (x ≡ record { needed = size })
lacks_by size len x e =
    ⊎_elim (λ l. (l, let q : ◌≡◌ {A = Result Unit ShortBuffer} (Err x) (Err (record { needed = size })) = e ∙ sym (room_short size len l) in (cc)))
    (λ l. absurd (let q : ◌≡◌ {A = Result Unit ShortBuffer} (Err x) (Ok tt) = e ∙ sym (room_enough size len l) in let z : ◌≡◌ {A = ℕ} 0 1 = cc in omega arith))
    (side len size)

-- ---- the pieces of a plan, as they are found: its names, the number of points, the points, the contacts
pub record Pieces (p : Plan) (names n : ℕ) (pts ks : List ℕ) : Type 0 where
  pub named : names ≡ p.names
  pub counted : n ≡ length p.points
  pub points : pts ≡ p.points
  pub contacts : ks ≡ p.contacts

-- those of a set of points in an array: each is given, so two are in contact unless they are apart
module _ (names : ℕ) (given : ℕ → Bool) (apart : ℕ → ℕ → Bool) (n : ℕ) (points : List ℕ) (counted : n ≡ length (keep given (below room)))
    (listed : points ≡ pad room (keep given (below room))) where
  point_is : (i : ℕ) → i < n → get_or points i 0 ≡ get_or (keep given (below room)) i 0
  point_is i l = ap (λ (xs : List ℕ). get_or xs i 0) listed ∙ pad_at room (keep given (below room)) i (omega (arith, counted))

  row_is : (i j : ℕ) → i < n → j < n → rows_by n points given apart i j ≡ in_contact (keep given (below room)) apart i j
  unfolding rows_by
  row_is i j l m =
      inside n points (minus_of given (apart (get_or points i 0))) j m
      ∙ ap₂ (λ (e f : ℕ). given f && not (apart e f)) (point_is i l) (point_is j m)
      ∙ ap (λ (b : Bool). b && in_contact (keep given (below room)) apart i j)
      (keep_elim given (below room) (placed 0 (keep given (below room)) j (omega (arith, counted)))).1

  pub pieces : Pieces (points_plan names given apart) names n (take n points) (links_to n n (rows_by n points given apart))
  unfolding points_plan
  pieces =
      record {
        named = refl;
        counted = counted;
        points = ap (take n) listed ∙ pad_taken room (keep given (below room)) n (sym counted);
        contacts = links_same n _ _ row_is ∙ ap (λ (k : ℕ). links_to k k (in_contact (keep given (below room)) apart)) counted;
      }

module _ (p : Plan) (names n : ℕ) (pts ks : List ℕ) (h : Pieces p names n pts ks) where
  points_size : length pts ≡ n
  points_size = ap length h.points ∙ sym h.counted

  before_is : first_word names n ∷ (map point_word pts ++ map contact_word ks) ≡ before p
  unfolding before
  before_is =
      ap₂ (λ (x y : ℕ). first_word x y ∷ (map point_word pts ++ map contact_word ks)) h.named h.counted
      ∙ ap₂ (λ (xs ys : List ℕ). first_word p.names (length p.points) ∷ (map point_word xs ++ map contact_word ys)) h.points h.contacts

  before_size : length (before p) ≡ 1 + n + length ks
  before_size = before_length p ∙ omega (arith, h.counted, ap length h.contacts)

  size_is : 2 + n + length ks ≡ length (words_of p)
  unfolding words_of
  size_is = omega (arith, before_size, length-append (before p) (last_word (length (before p)) ∷ []))

  pub needs_more : (buf : List ℕ) → length buf < 2 + n + length ks → Writes p buf (Err (record { needed = 2 + n + length ks })) buf
  needs_more buf l =
      let z : leb (length (words_of p)) (length buf) ≡ false = lt-leb (length (words_of p)) (length buf) (omega (arith, size_is)) in
      record {
        answer = ap (λ (x : ℕ). Err (record { needed = x })) size_is ∙ sym (rw z);
        words = sym (ap (λ (b : Bool). cond b (over (words_of p) buf) buf) z);
      }

  -- the buffer after each piece
  module _ (buf mid late : List ℕ) (end w : ℕ) (l : 2 + n + length ks ≤ length buf) (first : w ≡ first_word names n)
      (a : mid ≡ written 1 (map point_word pts) (set buf 0 w)) where
    pts_size : length (map point_word pts) ≡ n
    pts_size = length-map pts point_word ∙ points_size

    first_set : set buf 0 w ≡ written 0 (first_word names n ∷ []) buf
    first_set = ap₂ (λ (l : List ℕ) (x : ℕ). set l 0 x) (written_none 0 buf) first ∙ written_set 0 [] buf (first_word names n) (omega arith)

    mid_is : mid ≡ written 0 (first_word names n ∷ map point_word pts) buf
    mid_is = a ∙ ap (written 1 (map point_word pts)) first_set ∙ written_more 0 (first_word names n ∷ []) (map point_word pts) buf (omega arith)

    pub mid_length : length mid ≡ length buf
    mid_length = ap length a ∙ written_length 1 (map point_word pts) (set buf 0 w) (omega (arith, pts_size, length-set buf 0 w)) ∙ length-set buf 0 w

    module _ (b : Wrote (1 + n) ks mid late end) where
      pub late_length : length late ≡ length buf
      late_length = wrote_length (1 + n) ks mid late end (omega (arith, mid_length)) b ∙ mid_length

      end_is : end ≡ length (before p)
      end_is = b.place ∙ sym before_size

      late_is : late ≡ written 0 (before p) buf
      late_is =
          let front = first_word names n ∷ map point_word pts in
          let size : 1 + n ≡ 0 + length front = omega (arith, pts_size) in
          b.words
          ∙ ap₂ (λ (x : ℕ) (l : List ℕ). written x (map contact_word ks) l) size mid_is
          ∙ written_more 0 front (map contact_word ks) buf (omega (arith, pts_size))
          ∙ ap (λ (l : List ℕ). written 0 l buf) before_is

      all_is : set late end (last_word end) ≡ over (words_of p) buf
      unfolding words_of
      all_is =
          let ws = before p in
          let q : end ≡ 0 + length ws = end_is ∙ sym (zero-add (length ws)) in
          ap₂ (λ (l : List ℕ) (x : ℕ). set l x (last_word end)) late_is q
          ∙ ap (λ (x : ℕ). set (written 0 ws buf) (0 + length ws) (last_word x)) end_is
          ∙ written_set 0 ws buf (last_word (length ws)) (omega (arith, before_size))
          ∙ written_over (ws ++ (last_word (length ws) ∷ [])) buf

      pub writes_all : Writes p buf (Ok (end + 1)) (set late end (last_word end))
      writes_all =
          let z : leb (length (words_of p)) (length buf) ≡ true = le-leb (length (words_of p)) (length buf) (omega (arith, size_is)) in
          let size : end + 1 ≡ length (words_of p) = omega (arith, size_is, b.place) in
          record {
            answer = ap Ok size ∙ sym (rw z);
            words = all_is ∙ sym (ap (λ (b : Bool). cond b (over (words_of p) buf) buf) z);
          }
