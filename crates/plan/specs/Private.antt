-- For proofs: what the private functions' values hold: what a word says where it stands, what has been read when the points and when the
-- contacts are, what has been written over a buffer so far, and what has been found of a row. Assumes nothing.
use Rattle.std.specs.Prelude.{◌≡◌, Bool, true, false, ◌&&◌, ◌||◌, cond, List, [], map, ℕ, zero, suc, ◌+◌, ◌-◌, ◌*◌, ◌^◌, ◌≤◌, ◌<◌, eqb, ltb, leb, length, get_or, drop, Option, Some, None, Result, Ok, Err}
use Rattle.lists.specs.declared.ShortBuffer.{ShortBuffer}
use Rattle.lists.specs.Padded.{pad}
use Rattle.lists.specs.Search.{any, below}
use Rattle.lists.specs.Putting.{written}
use Rattle.evalset.specs.Sets.{room, meet_of, minus_of}
use Rattle.evalset.specs.Arrays.{positions_of}
use Rattle.evalset.specs.Most.{most}
use Rattle.squares.specs.Square.{square_at}
use Rattle.plan.specs.declared.NotAPlan.{NotAPlan}
use Rattle.plan.specs.declared.Word.{Word}
use Rattle.plan.specs.declared.Word.TheVariants.{First, Point, Contact, Last, Other}
use Rattle.plan.specs.declared.Opening.{Opening}
use Rattle.plan.specs.declared.Pair.{Pair}
use Rattle.plan.specs.Words.{Plan, most_points, contact_word}
use Rattle.plan.specs.Reader.{State, pointing, linking, dead, opened, plan, refused, read_from, read_of}
use Rattle.plan.specs.Stored.{square}

-- ---- reading
abbrev pub plan_of : ℕ → List ℕ → List ℕ → Plan
plan_of n pts ks = record { names = n; points = pts; contacts = ks }

-- one position more in one row
abbrev pub add_at : (ℕ → ℕ → Bool) → ℕ → ℕ → ℕ → ℕ → Bool
add_at t i j a b = t a b || (eqb a i && eqb b j)

-- one contact more, both ways round
unfoldable pub joined_of : (ℕ → ℕ → Bool) → ℕ → ℕ → ℕ → ℕ → Bool
joined_of t i j = add_at (add_at t i j) j i

-- each position below n is in contact with itself
unfoldable pub self_of : ℕ → ℕ → ℕ → Bool
self_of n a b = ltb a n && eqb a b

-- the words of a square have these rows now, and are as many
pub record Grown (t : ℕ → ℕ → Bool) (ws ws' : List ℕ) : Type 0 where
  pub long : length ws' ≡ length ws
  pub rows : square_at ws' ≡ t

-- so many points are wanted; then the contacts
abbrev pub wanting : ℕ → ℕ → List ℕ → ℕ → State
wanting n zero pts low = linking n pts [] 0
wanting n (suc m) pts low = pointing n m pts low

-- what the first word leads to; it stands at index 0
abbrev pub OpensTo : Word → Result Opening NotAPlan → Type 0
OpensTo w (Ok r) = (r.names ≤ most) × (0 < r.count) × (r.count ≤ 2 ^ r.names) × (opened w ≡ wanting r.names r.count [] 0)
OpensTo w (Err e) = (opened w ≡ dead) × (e.at ≡ 0)

pub record Opens (w : Word) (r : Result Opening NotAPlan) : Type 0 where
  pub to : OpensTo w r

-- refusal 13 at this index
abbrev pub not_at : {A : Type 0} → ℕ → Result A NotAPlan
not_at at = Err (record { at = at })

-- what a word says where a point is wanted
abbrev pub pointing_of : ℕ → ℕ → ℕ → ℕ → Word → Result ℕ NotAPlan
pointing_of low left top at (First n c) = not_at at
pointing_of low left top at (Point e) = cond (leb low e && ltb (e + left) top) (Ok e) (not_at at)
pointing_of low left top at (Contact i j) = not_at at
pointing_of low left top at (Last c) = not_at at
pointing_of low left top at Other = not_at at

-- the first word has been read, and the points come
pub record PointsCome (ws : List ℕ) (n c : ℕ) : Type 0 where
  pub few : n ≤ most
  pub some : 0 < c
  pub room : c ≤ 2 ^ n
  pub within : 1 ≤ length ws
  pub rest : read_from 1 (wanting n c [] 0) (drop 1 ws) ≡ read_of ws

-- i of c points have been read
pub record PointsHeld (ws : List ℕ) (n c i low : ℕ) (points : List ℕ) : Type 0 where
  pub done : i ≤ c
  pub within : 1 + i ≤ length ws
  pub lowest : low ≤ 256
  pub pts : List ℕ
  pub size : length pts ≡ i
  pub stored : points ≡ pad most_points pts
  pub rest : read_from (1 + i) (wanting n (c - i) pts low) (drop (1 + i) ws) ≡ read_of ws

-- all points have been read, or the words are refused
abbrev pub PointsSay : List ℕ → ℕ → ℕ → Result (List ℕ) NotAPlan → Type 0
PointsSay ws n c (Ok points) = (low : ℕ) × PointsHeld ws n c c low points
PointsSay ws n c (Err e) = read_of ws ≡ refused e.at

-- what all words are by one of kind 4
abbrev pub last_of : ℕ → ℕ → ℕ → Result Unit NotAPlan
last_of before at len = cond (eqb before at) (cond (eqb (at + 1) len) (Ok tt) (not_at (at + 1))) (not_at at)

-- no contact more, where the words are a plan
abbrev pub over_by : Result Unit NotAPlan → Result (Option Pair) NotAPlan
over_by (Ok u) = Ok None
over_by (Err e) = Err e

-- one contact more
abbrev pub pair_at : ℕ → ℕ → Result (Option Pair) NotAPlan
pair_at i j = Ok (Some (record { smaller = i; larger = j }))

-- what a word says after the points: a contact more, or none
abbrev pub linking_of : ℕ → ℕ → ℕ → ℕ → Word → Result (Option Pair) NotAPlan
linking_of count low at len (First n c) = not_at at
linking_of count low at len (Point e) = not_at at
linking_of count low at len (Contact i j) =
    cond (leb low (i * 256 + j) && (ltb i j && ltb j count)) (pair_at i j) (not_at at)
linking_of count low at len (Last c) = over_by (last_of c at len)
linking_of count low at len Other = not_at at

-- the points have been read, and the contacts come
pub record LinksCome (ws : List ℕ) (count : ℕ) (words : List ℕ) (n : ℕ) (pts : List ℕ) : Type 0 where
  pub size : length pts ≡ count
  pub alone : square_at words ≡ square (plan_of n pts [])
  pub rest : read_from (1 + count) (linking n pts [] 0) (drop (1 + count) ws) ≡ read_of ws

-- the words before `at` have been read
pub record LinksHeld (ws : List ℕ) (n : ℕ) (pts : List ℕ) (at low : ℕ) (words : List ℕ) : Type 0 where
  pub ks : List ℕ
  pub before : at ≡ 1 + (length pts + length ks)
  pub joined : square_at words ≡ square (plan_of n pts ks)
  pub rest : read_from at (linking n pts ks low) (drop at ws) ≡ read_of ws

-- the words are a plan of these points, or refused
abbrev pub LinksSay : List ℕ → ℕ → List ℕ → Result Unit NotAPlan → List ℕ → Type 0
LinksSay ws n pts (Ok u) words =
    (ks : List ℕ) × (read_of ws ≡ plan (plan_of n pts ks)) × (square_at words ≡ square (plan_of n pts ks))
LinksSay ws n pts (Err e) words = read_of ws ≡ refused e.at

-- ---- writing
-- r is the least position from `low` on, below n, that is in the row, or n
pub record Next (row : ℕ → Bool) (low n r : ℕ) : Type 0 where
  pub least : low ≤ r
  pub most : r ≤ n
  pub absent : (d : ℕ) → low ≤ d → d < r → row d ≡ false
  pub present : r < n → row r ≡ true

-- the contact rows of the first n of these points, of which `given` has all: the positions of those that are not apart from each
unfoldable pub rows_by : ℕ → List ℕ → (ℕ → Bool) → (ℕ → ℕ → Bool) → ℕ → ℕ → Bool
rows_by n points given apart i = positions_of n points (minus_of given (apart (get_or points i 0)))

-- there is room for so many words, or the buffer is too short
abbrev pub room_of : ℕ → ℕ → Result Unit ShortBuffer
room_of size len = cond (leb size len) (Ok tt) (Err (record { needed = size }))

-- the words of these contacts were written, and where they end
pub record Wrote (at : ℕ) (ks buf exit : List ℕ) (end : ℕ) : Type 0 where
  pub place : end ≡ at + length ks
  pub words : exit ≡ written at (map contact_word ks) buf

-- ---- judging
-- e is in x, and the row meets the positions ys
unfoldable pub reaches_of : (ℕ → Bool) → ℕ → (ℕ → Bool) → (ℕ → Bool) → Bool
reaches_of row e x ys = x e && any (meet_of row ys) (below room)

-- this is so of some position below n
unfoldable pub reached_of : ℕ → List ℕ → (ℕ → ℕ → Bool) → (ℕ → Bool) → (ℕ → Bool) → Bool
reached_of n pts rows x ys = any (λ a. reaches_of (rows a) (get_or pts a 0) x ys) (below n)
