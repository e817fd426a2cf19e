-- The code's reader follows the machine: what it says of a word is what the machine does with it, and what is left, read from the state so
-- far, gives what all words give. Assumes nothing.
use mathlib.Core.Path.{◌≡◌, refl, sym, ap, ap₂, ◌∙◌, subst}
use mathlib.Core.Bool.{Bool, true, false, ◌&&◌, cond, and-false, and-eq-true_iff}
use mathlib.Core.List.{List, [], ◌∷◌, ◌++◌}
use Prim.Native.Nat.{ℕ, zero, suc, ◌+◌, ◌-◌, ◌*◌, ◌^◌, ◌≤◌, ◌<◌}
use native.Mathlib.Omega.{arith}
use native.Mathlib.Numerals.{add-one}
use native.Mathlib.Decide.{ℕ_discrete as dec_eq}
use lib.Dec.{ltb, leb}
use lib.ListN.{length, length-append, drop, get_or, set}
use lib.Seq.{drop-cons, drop-length}
use lib.Pow.{pow_mono}
use types.Run.{OneOf, miss}
use denote.Enum.Declared.{tag_of}
use borrow.Author.Tests.{leb-true, ltb-true, le-leb, lt-leb, le-ltb, lt-ltb, eq-eqb, ne_eqb}
use Rattle.std.specs.Prelude.{Some, Result, Ok, Err}
use Rattle.lists.specs.Padded.{pad}
use Rattle.lists.proofs.Padded.{pad_set}
use Rattle.evalset.specs.Most.{most}
use Rattle.squares.specs.Square.{square_at}
use Rattle.plan.specs.contracts.Word as word-type
use Rattle.plan.specs.declared.Word.{Word}
use Rattle.plan.specs.declared.Word.TheVariants.{First, Point, Contact, Last, Other}
use Rattle.plan.specs.declared.Opening.{Opening}
use Rattle.plan.specs.declared.Pair.{Pair}
use Rattle.plan.specs.declared.NotAPlan.{NotAPlan}
use Rattle.plan.specs.Words.{most_points}
use Rattle.plan.specs.Reader.{kind_of, State, start, pointing, linking, whole, dead, opened, went, pointed, linked, step, refused, ended, unless, read_from, read_of}
use Rattle.plan.specs.Arrays.{Reads}
use Rattle.plan.specs.Private.{plan_of, joined_of, self_of, wanting, OpensTo, not_at, pointing_of, PointsCome, PointsHeld, PointsSay, last_of, over_by, pair_at, linking_of, LinksCome, LinksHeld, LinksSay}
use Rattle.plan.proofs.Exact.{IsDead}
use Rattle.plan.proofs.Complete.{open_by, link_by, last_by}
use Rattle.plan.proofs.Squares.{self_square, square_link}

-- ---- one word more, and no word more
module _ (ws : List ℕ) (at : ℕ) (s : State) (rest : read_from at s (drop at ws) ≡ read_of ws) where
  module _ (h : at < length ws) where
    after : unless (step s (kind_of (get_or ws at 0))) at
        (read_from (suc at) (step s (kind_of (get_or ws at 0))) (drop (suc at) ws)) ≡ read_of ws
    unfolding read_from
    after = sym (ap (read_from at s) (drop-cons ws at 0 h)) ∙ rest

    by : (t : State) → step s (kind_of (get_or ws at 0)) ≡ t → unless t at (read_from (suc at) t (drop (suc at) ws)) ≡ read_of ws
    by t e = subst (λ (t : State). unless t at (read_from (suc at) t (drop (suc at) ws)) ≡ read_of ws) e after

    pub word_dead : step s (kind_of (get_or ws at 0)) ≡ dead → read_of ws ≡ refused at
    word_dead e = sym (by dead e)

    pub word_live : (t : State) → (IsDead t → ⊥) → step s (kind_of (get_or ws at 0)) ≡ t → read_from (at + 1) t (drop (at + 1) ws) ≡ read_of ws
    word_live t live e = ap (λ (x : ℕ). read_from x t (drop x ws)) (add-one at) ∙ go t live (by t e)
      where
        go : (t : State) → (IsDead t → ⊥) → unless t at (read_from (suc at) t (drop (suc at) ws)) ≡ read_of ws
            → read_from (suc at) t (drop (suc at) ws) ≡ read_of ws
        go start l q = q
        go (pointing n m pts low) l q = q
        go (linking n pts ks low) l q = q
        go (whole d) l q = q
        go dead l q = absurd (l tt)

  pub words_end : at ≡ length ws → ended at s ≡ read_of ws
  unfolding read_from
  words_end e = sym (ap (read_from at s) (ap (λ (x : ℕ). drop x ws) e ∙ drop-length ws)) ∙ rest

pub from_start : (ws : List ℕ) → read_from 0 start (drop 0 ws) ≡ read_of ws
unfolding read_of
from_start [] = refl
from_start (w ∷ ws) = refl

-- what is refused is refused at that index
err_at : {A : Type 0} (e : NotAPlan) (at : ℕ) → ◌≡◌ {A = Result A NotAPlan} (Err e) (not_at at) → e.at ≡ at
err_at e at q = let z : e ≡ record { at = at } = cc in ap (λ (x : NotAPlan). x.at) z

pub words_none : (ws : List ℕ) → 0 ≡ length ws → read_of ws ≡ refused 0
words_none ws e = sym (words_end ws 0 start (from_start ws) e)

-- ---- the first word
pub not_first : (w : Word) → OneOf (1 ∷ 2 ∷ 3 ∷ 4 ∷ []) (tag_of word-type.the_type w) → opened w ≡ dead
not_first (First n c) h = absurd (miss (1 ∷ 2 ∷ 3 ∷ 4 ∷ []) 0 tt h)
not_first (Point e) h = refl
not_first (Contact i j) h = refl
not_first (Last c) h = refl
not_first Other h = refl

module _ (w : Word) (n c : ℕ) (e : w ≡ First n c) where
  pub open_many : most < n → opened w ≡ dead
  open_many h = ap opened e ∙ rw (lt-leb n most h)

  pub open_none : n ≤ most → c < 1 → opened w ≡ dead
  open_none h k = ap opened e ∙ rw (le-leb n most h, lt-leb 1 c k)

  pub open_over : n ≤ most → 1 ≤ c → 2 ^ n < c → opened w ≡ dead
  open_over h k l = ap opened e ∙ rw (le-leb n most h, le-leb 1 c k, lt-leb c (2 ^ n) l)

  pub open_good : n ≤ most → 1 ≤ c → c ≤ 2 ^ n → OpensTo w (Ok (record { names = n; count = c }))
  open_good h k l = (h, k, l, ap opened e ∙ open_by n c h k l ∙ go c k)
    where
      go : (c : ℕ) → 1 ≤ c → pointing n (c - 1) [] 0 ≡ wanting n c [] 0
      go zero k = absurd (omega arith)
      go (suc m) k = let q : suc m - 1 ≡ m = omega arith in ap (λ (x : ℕ). pointing n x [] 0) q

-- the points come after a good first word
module _ (ws : List ℕ) (w : Word) (said : w ≡ kind_of (get_or ws 0 0)) (h : 0 < length ws) where
  pub opens_wrong : (e : NotAPlan) → OpensTo w (Err e) → read_of ws ≡ refused e.at
  opens_wrong e o = word_dead ws 0 start (from_start ws) h (sym (ap opened said) ∙ o.0) ∙ ap refused (sym o.1)

  pub opens_points : (r : Opening) → OpensTo w (Ok r) → PointsCome ws r.names r.count
  opens_points r t =
      record {
        few = t.0;
        some = t.1;
        room = t.2;
        within = h;
        rest = word_live ws 0 start (from_start ws) h (wanting r.names r.count [] 0) (live r.count) (sym (ap opened said) ∙ t.3);
      }
    where
      live : (c : ℕ) → IsDead (wanting r.names c [] 0) → ⊥
      live zero d = d
      live (suc m) d = d

-- ---- a point
pub not_point : (low left top at : ℕ) (w : Word) → OneOf (0 ∷ 2 ∷ 3 ∷ 4 ∷ []) (tag_of word-type.the_type w)
    → not_at at ≡ pointing_of low left top at w
not_point low left top at (First i c) h = refl
not_point low left top at (Point e) h = absurd (miss (0 ∷ 2 ∷ 3 ∷ 4 ∷ []) 1 tt h)
not_point low left top at (Contact i j) h = refl
not_point low left top at (Last c) h = refl
not_point low left top at Other h = refl

module _ (low left top at : ℕ) (w : Word) (e : ℕ) (q : w ≡ Point e) where
  pub point_low : e < low → not_at at ≡ pointing_of low left top at w
  point_low l = sym (ap (pointing_of low left top at) q ∙ rw (lt-leb low e l))

  pub point_room : top ≤ e + left → not_at at ≡ pointing_of low left top at w
  point_room l = sym (ap (pointing_of low left top at) q ∙ rw (le-ltb (e + left) top l) (go (leb low e)))
    where
      go : (b : Bool) → cond (b && false) (Ok e) (not_at at) ≡ not_at at
      go true = refl
      go false = refl

  pub point_taken : low ≤ e → e + left < top → Ok e ≡ pointing_of low left top at w
  point_taken l m = sym (ap (pointing_of low left top at) q ∙ rw (le-leb low e l, lt-ltb (e + left) top m))

-- an evaluation that is taken leaves room
pub taken_room : (low left top at e : ℕ) (w : Word) → Ok e ≡ pointing_of low left top at w → e + left < top
taken_room low left top at e (First i c) q = absurd (let z : ◌≡◌ {A = ℕ} 0 1 = cc in omega arith)
taken_room low left top at e (Point x) q = go (leb low x && ltb (x + left) top) refl q
  where
    go : (b : Bool) → (leb low x && ltb (x + left) top) ≡ b
        → Ok e ≡ cond b (Ok x) (not_at at) → e + left < top
    go true h q =
        let z : e ≡ x = cc in
        let l : x + left < top = ltb-true (x + left) top ((and-eq-true_iff (leb low x) (ltb (x + left) top)).0 h).1 in
        omega arith
    go false h q = absurd (let z : ◌≡◌ {A = ℕ} 0 1 = cc in omega arith)
taken_room low left top at e (Contact i j) q = absurd (let z : ◌≡◌ {A = ℕ} 0 1 = cc in omega arith)
taken_room low left top at e (Last c) q = absurd (let z : ◌≡◌ {A = ℕ} 0 1 = cc in omega arith)
taken_room low left top at e Other q = absurd (let z : ◌≡◌ {A = ℕ} 0 1 = cc in omega arith)

-- one that is refused is refused where it stands
point_at : (low left top at : ℕ) (w : Word) (x : NotAPlan) → Err x ≡ pointing_of low left top at w → x.at ≡ at
point_at low left top at (First i c) x q = err_at x at q
point_at low left top at (Point e) x q = go (leb low e && ltb (e + left) top) q
  where
    go : (b : Bool) → Err x ≡ cond b (Ok e) (not_at at) → x.at ≡ at
    go true q = absurd (let z : ◌≡◌ {A = ℕ} 0 1 = cc in omega arith)
    go false q = err_at x at q
point_at low left top at (Contact i j) x q = err_at x at q
point_at low left top at (Last c) x q = err_at x at q
point_at low left top at Other x q = err_at x at q

-- what the machine does by it
abbrev pointed_by : ℕ → ℕ → List ℕ → Result ℕ NotAPlan → State
pointed_by n m pts (Ok e) = wanting n m (pts ++ (e ∷ [])) (suc e)
pointed_by n m pts (Err x) = dead

went_on : (n m : ℕ) (pts : List ℕ) (e : ℕ) → went n m pts e ≡ wanting n m pts (suc e)
went_on n zero pts e = refl
went_on n (suc m) pts e = refl

pointed_by_lem : (n m : ℕ) (pts : List ℕ) (low at : ℕ) (w : Word) → pointed n m pts low w ≡ pointed_by n m pts (pointing_of low m (2 ^ n) at w)
pointed_by_lem n m pts low at (First i c) = refl
pointed_by_lem n m pts low at (Point e) = go (leb low e && ltb (e + m) (2 ^ n))
  where
    go : (b : Bool) → cond b (went n m (pts ++ (e ∷ [])) e) dead ≡ pointed_by n m pts (cond b (Ok e) (not_at at))
    go true = went_on n m (pts ++ (e ∷ [])) e
    go false = refl
pointed_by_lem n m pts low at (Contact i j) = refl
pointed_by_lem n m pts low at (Last c) = refl
pointed_by_lem n m pts low at Other = refl

pub points_start : (ws : List ℕ) (n c : ℕ) (points : List ℕ) → PointsCome ws n c → points ≡ pad most_points [] → PointsHeld ws n c 0 0 points
points_start ws n c points h e =
    let q : c ≡ c - 0 = omega arith in
    record {
      done = omega arith;
      within = h.within;
      lowest = omega arith;
      pts = [];
      size = refl;
      stored = e;
      rest = sym (ap (λ (x : ℕ). read_from 1 (wanting n x [] 0) (drop 1 ws)) q) ∙ h.rest;
    }

module _ (ws : List ℕ) (n c i low : ℕ) (points : List ℕ) (h : PointsHeld ws n c i low points) (more : i < c) where
  -- the state before the point
  before_point : read_from (1 + i) (pointing n (c - (1 + i)) h.pts low) (drop (1 + i) ws) ≡ read_of ws
  before_point = go (c - i) refl
    where
      go : (m : ℕ) → c - i ≡ m → read_from (1 + i) (pointing n (c - (1 + i)) h.pts low) (drop (1 + i) ws) ≡ read_of ws
      go zero e = absurd (omega arith)
      go (suc m) e =
          let q : m ≡ c - (1 + i) = omega arith in
          sym (ap (λ (x : ℕ). read_from (1 + i) (pointing n x h.pts low) (drop (1 + i) ws)) q)
          ∙ sym (ap (λ (x : ℕ). read_from (1 + i) (wanting n x h.pts low) (drop (1 + i) ws)) e) ∙ h.rest

  pub points_short : length ws ≤ 1 + i → read_of ws ≡ refused (1 + i)
  points_short l = let w = h.within in
      sym (words_end ws (1 + i) (pointing n (c - (1 + i)) h.pts low) before_point (omega arith))

  module _ (l : 1 + i < length ws) (top : ℕ) (t : top ≡ 2 ^ n) (w : Word) (k : w ≡ kind_of (get_or ws (1 + i) 0)) (said : Result ℕ NotAPlan)
      (q : said ≡ pointing_of low (c - (1 + i)) top (1 + i) w) where
    steps : step (pointing n (c - (1 + i)) h.pts low) (kind_of (get_or ws (1 + i) 0)) ≡ pointed_by n (c - (1 + i)) h.pts said
    steps =
        ap (pointed n (c - (1 + i)) h.pts low) (sym k)
        ∙ pointed_by_lem n (c - (1 + i)) h.pts low (1 + i) w
        ∙ ap (pointed_by n (c - (1 + i)) h.pts) (ap (λ (x : ℕ). pointing_of low (c - (1 + i)) x (1 + i) w) (sym t) ∙ sym q)

    pub points_wrong : (x : NotAPlan) → said ≡ Err x → read_of ws ≡ refused x.at
    points_wrong x e =
        word_dead ws (1 + i) (pointing n (c - (1 + i)) h.pts low) before_point l
        (steps ∙ ap (pointed_by n (c - (1 + i)) h.pts) e)
        ∙ ap refused (sym (point_at low (c - (1 + i)) top (1 + i) w x (sym e ∙ q)))

    pub points_next : (e : ℕ) → said ≡ Ok e → n ≤ most → i < most_points → PointsHeld ws n c (i + 1) (e + 1) (set points i e)
    points_next e s few fits =
        let room : e + (c - (1 + i)) < top = taken_room low (c - (1 + i)) top (1 + i) e w (sym s ∙ q) in
        let high : top ≤ most_points = omega (arith, t, pow_mono few) in
        let left : c - (1 + i) ≡ c - (i + 1) = omega arith in
        let place : 1 + i + 1 ≡ 1 + (i + 1) = omega arith in
        record {
          done = omega arith;
          within = omega arith;
          lowest = omega arith;
          pts = h.pts ++ (e ∷ []);
          size = length-append h.pts (e ∷ []) ∙ ap (λ (x : ℕ). x + 1) h.size;
          stored = ap (λ (l : List ℕ). set l i e) h.stored ∙ pad_set most_points h.pts i e h.size fits;
          rest = ap (λ (x : ℕ). read_from x (wanting n (c - (i + 1)) (h.pts ++ (e ∷ [])) (e + 1)) (drop x ws)) (sym place)
              ∙ ap₂ (λ (x y : ℕ). read_from (1 + i + 1) (wanting n x (h.pts ++ (e ∷ [])) y) (drop (1 + i + 1) ws)) (sym left) (add-one e)
              ∙ word_live ws (1 + i) (pointing n (c - (1 + i)) h.pts low) before_point l
              (wanting n (c - (1 + i)) (h.pts ++ (e ∷ [])) (suc e)) (live (c - (1 + i)))
              (steps ∙ ap (pointed_by n (c - (1 + i)) h.pts) s);
        }
      where
        live : (m : ℕ) → IsDead (wanting n m (h.pts ++ (e ∷ [])) (suc e)) → ⊥
        live zero d = d
        live (suc m) d = d

-- all points are there
pub points_all : (ws : List ℕ) (n c i low : ℕ) (points : List ℕ) → PointsHeld ws n c i low points → c ≤ i
    → PointsSay ws n c (Ok points)
points_all ws n c i low points h l =
    let d = h.done in
    let e : i ≡ c = omega arith in
    (low, subst (λ (x : ℕ). PointsHeld ws n c x low points) e h)

-- the contacts come after the points, each of which is in contact with itself
pub links_come : (ws : List ℕ) (n c low : ℕ) (points : List ℕ) (h : PointsHeld ws n c c low points) (words : List ℕ)
    → square_at words ≡ self_of c → LinksCome ws c words n h.pts
links_come ws n c low points h words e =
    let none : c - c ≡ 0 = omega arith in
    record {
      size = h.size;
      alone = e ∙ ap self_of (sym h.size) ∙ self_square n h.pts;
      rest = sym (ap (λ (x : ℕ). read_from (1 + c) (wanting n x h.pts low) (drop (1 + c) ws)) none) ∙ h.rest;
    }

-- ---- a contact, and the last word
pub not_link : (count low at len : ℕ) (w : Word) → OneOf (0 ∷ 1 ∷ 4 ∷ []) (tag_of word-type.the_type w)
    → not_at at ≡ linking_of count low at len w
not_link count low at len (First i c) h = refl
not_link count low at len (Point e) h = refl
not_link count low at len (Contact i j) h = absurd (miss (0 ∷ 1 ∷ 4 ∷ []) 2 tt h)
not_link count low at len (Last c) h = absurd (miss (0 ∷ 1 ∷ 4 ∷ []) 3 tt h)
not_link count low at len Other h = refl

module _ (count low at len : ℕ) (w : Word) (i j : ℕ) (q : w ≡ Contact i j) where
  -- one test that fails is enough
  refuses : (a b c : Bool) → (a && (b && c)) ≡ false
      → cond (a && (b && c)) (pair_at i j) (not_at at) ≡ not_at at
  refuses a b c e = ap (λ (t : Bool). cond t (pair_at i j) (not_at at)) e

  pub link_equal : j ≤ i → not_at at ≡ linking_of count low at len w
  link_equal l = sym (ap (linking_of count low at len) q
      ∙ refuses (leb low (i * 256 + j)) (ltb i j) (ltb j count)
      (ap (λ (t : Bool). leb low (i * 256 + j) && (t && ltb j count)) (le-ltb i j l) ∙ and-false (leb low (i * 256 + j))))

  pub link_far : count ≤ j → not_at at ≡ linking_of count low at len w
  link_far l = sym (ap (linking_of count low at len) q
      ∙ refuses (leb low (i * 256 + j)) (ltb i j) (ltb j count)
      (ap (λ (t : Bool). leb low (i * 256 + j) && (ltb i j && t)) (le-ltb j count l)
      ∙ ap (λ (t : Bool). leb low (i * 256 + j) && t) (and-false (ltb i j)) ∙ and-false (leb low (i * 256 + j))))

  pub link_late : i * 256 + j < low → not_at at ≡ linking_of count low at len w
  link_late l = sym (ap (linking_of count low at len) q ∙ rw (lt-leb low (i * 256 + j) l))

  pub link_taken : i < j → j < count → low ≤ i * 256 + j → pair_at i j ≡ linking_of count low at len w
  link_taken a b l = sym (ap (linking_of count low at len) q ∙ rw (le-leb low (i * 256 + j) l, lt-ltb i j a, lt-ltb j count b))

-- what ends the contacts is no contact
not_pair : (r : Result Unit NotAPlan) (p : Pair) → over_by r ≡ Ok (Some p) → ⊥
not_pair (Ok u) p q = let z : ◌≡◌ {A = ℕ} 0 1 = cc in omega arith
not_pair (Err e) p q = let z : ◌≡◌ {A = ℕ} 0 1 = cc in omega arith

-- a contact that is taken
pub record Pairs (count low i j : ℕ) (w : Word) : Type 0 where
  pub is : w ≡ Contact i j
  pub later : i < j
  pub within : j < count
  pub least : low ≤ i * 256 + j

pub taken_pair : (count low at len : ℕ) (p : Pair) (w : Word) → Ok (Some p) ≡ linking_of count low at len w → Pairs count low p.smaller p.larger w
taken_pair count low at len p (First n c) q = absurd (let z : ◌≡◌ {A = ℕ} 0 1 = cc in omega arith)
taken_pair count low at len p (Point e) q = absurd (let z : ◌≡◌ {A = ℕ} 0 1 = cc in omega arith)
taken_pair count low at len p (Contact a b) q = go (leb low (a * 256 + b) && (ltb a b && ltb b count)) refl q
  where
    go : (t : Bool) → (leb low (a * 256 + b) && (ltb a b && ltb b count)) ≡ t → Ok (Some p) ≡ cond t (pair_at a b) (not_at at)
        → Pairs count low p.smaller p.larger (Contact a b)
    go true h q =
        let s : p ≡ record { smaller = a; larger = b } = cc in
        let y : p.smaller ≡ a = ap (λ (x : Pair). x.smaller) s in
        let z : p.larger ≡ b = ap (λ (x : Pair). x.larger) s in
        let u = (and-eq-true_iff (leb low (a * 256 + b)) (ltb a b && ltb b count)).0 h in
        let v = (and-eq-true_iff (ltb a b) (ltb b count)).0 u.1 in
        let l : low ≤ a * 256 + b = leb-true low (a * 256 + b) u.0 in
        let m : a < b = ltb-true a b v.0 in
        let o : b < count = ltb-true b count v.1 in
        record { is = ap₂ Contact (sym y) (sym z); later = omega arith; within = omega arith; least = omega arith }
    go false h q = absurd (let z : ◌≡◌ {A = ℕ} 0 1 = cc in omega arith)
taken_pair count low at len p (Last c) q = absurd (not_pair (last_of c at len) p (sym q))
taken_pair count low at len p Other q = absurd (let z : ◌≡◌ {A = ℕ} 0 1 = cc in omega arith)

pub pair_within : (count low at len : ℕ) (p : Pair) (w : Word) → Ok (Some p) ≡ linking_of count low at len w
    → (high : ℕ) → count ≤ high → (p.smaller < high) × (p.larger < high)
pair_within count low at len p w q high h =
    let t = taken_pair count low at len p w q in
    let a = t.later in
    let b = t.within in
    (omega arith, omega arith)

pub links_start : (ws : List ℕ) (count : ℕ) (words : List ℕ) (n : ℕ) (pts : List ℕ) → LinksCome ws count words n pts
    → LinksHeld ws n pts (1 + count) 0 words
links_start ws count words n pts h =
    let s = h.size in
    record { ks = []; before = omega arith; joined = h.alone; rest = h.rest }

module _ (ws : List ℕ) (count : ℕ) (n : ℕ) (pts : List ℕ) (size : length pts ≡ count) (at low : ℕ) (words : List ℕ)
    (h : LinksHeld ws n pts at low words) where
  pub links_short : at ≡ length ws → read_of ws ≡ refused (length ws)
  links_short e = sym (words_end ws at (linking n pts h.ks low) h.rest e) ∙ ap refused e

  module _ (l : at < length ws) (w : Word) (k : w ≡ kind_of (get_or ws at 0)) where
    pub links_next : (r : Pair) → Ok (Some r) ≡ linking_of count low at (length ws) w → count ≤ 256 → (more : List ℕ)
        → square_at more ≡ joined_of (square_at words) r.smaller r.larger → LinksHeld ws n pts (at + 1) (r.smaller * 256 + r.larger + 1) more
    links_next r q few more e =
        let i = r.smaller in
        let j = r.larger in
        let p = taken_pair count low at (length ws) r w q in
        let a = p.later in
        let b = p.within in
        let x = h.before in
        let m : j < length pts = omega arith in
        let longer : length (h.ks ++ ((i * 256 + j) ∷ [])) ≡ length h.ks + 1 = length-append h.ks ((i * 256 + j) ∷ []) in
        record {
          ks = h.ks ++ ((i * 256 + j) ∷ []);
          before = omega arith;
          joined = e ∙ ap (λ (t : ℕ → ℕ → Bool). joined_of t i j) h.joined ∙ square_link n pts h.ks i j a m (omega arith);
          rest = ap (λ (x : ℕ). read_from (at + 1) (linking n pts (h.ks ++ ((i * 256 + j) ∷ [])) x) (drop (at + 1) ws)) (add-one (i * 256 + j))
              ∙ word_live ws at (linking n pts h.ks low) h.rest l
              (linking n pts (h.ks ++ ((i * 256 + j) ∷ [])) (suc (i * 256 + j))) (λ d. d)
              (ap (linked n pts h.ks low) (sym k ∙ p.is) ∙ link_by n pts h.ks low i j p.least a m);
        }

    -- the words that are refused here
    wrong : linked n pts h.ks low w ≡ dead → read_of ws ≡ refused at
    wrong d = word_dead ws at (linking n pts h.ks low) h.rest l (ap (linked n pts h.ks low) (sym k) ∙ d)

    -- by the last word
    ends : (c : ℕ) → w ≡ Last c → LinksSay ws n pts (last_of c at (length ws)) words
    ends c z = go (dec_eq c at) (dec_eq (at + 1) (length ws))
      where
        x : at ≡ 1 + (length pts + length h.ks)
        x = h.before

        all : c ≡ at → read_from (at + 1) (whole (plan_of n pts h.ks)) (drop (at + 1) ws) ≡ read_of ws
        all e = word_live ws at (linking n pts h.ks low) h.rest l (whole (plan_of n pts h.ks)) (λ d. d)
            (ap (linked n pts h.ks low) (sym k ∙ z) ∙ last_by n pts h.ks low c (e ∙ x))

        go : Dec (c ≡ at) → Dec (at + 1 ≡ length ws) → LinksSay ws n pts (last_of c at (length ws)) words
        go (yes e) (yes f) =
            let z : last_of c at (length ws) ≡ Ok tt = rw (eq-eqb c at e, eq-eqb (at + 1) (length ws) f) in
            subst (λ (a : Result Unit NotAPlan). LinksSay ws n pts a words) (sym z)
            (h.ks, sym (words_end ws (at + 1) (whole (plan_of n pts h.ks)) (all e) f), h.joined)
        go (yes e) (no f) =
            let z : last_of c at (length ws) ≡ not_at (at + 1) = rw (eq-eqb c at e, ne_eqb (at + 1) (length ws) f) in
            subst (λ (a : Result Unit NotAPlan). LinksSay ws n pts a words) (sym z)
            (word_dead ws (at + 1) (whole (plan_of n pts h.ks)) (all e) (omega (arith, f)) refl)
        go (no e) f =
            let r : last_of c at (length ws) ≡ not_at at = rw (ne_eqb c at e) in
            subst (λ (a : Result Unit NotAPlan). LinksSay ws n pts a words) (sym r)
            (wrong (ap (linked n pts h.ks low) z ∙ rw (ne_eqb c (1 + (length pts + length h.ks)) (λ y. e (y ∙ sym x)))))

    -- what is said, when it is no contact more
    said_so : (r x : Result Unit NotAPlan) → over_by r ≡ over_by x → LinksSay ws n pts x words → LinksSay ws n pts r words
    said_so (Ok u) (Ok v) q t = t
    said_so (Ok u) (Err y) q t = absurd (let z : ◌≡◌ {A = ℕ} 0 1 = cc in omega arith)
    said_so (Err x) (Ok v) q t = absurd (let z : ◌≡◌ {A = ℕ} 0 1 = cc in omega arith)
    said_so (Err x) (Err y) q t = let z : y ≡ x = cc in t ∙ ap (λ (e : NotAPlan). refused e.at) z

    pub links_over : (r : Result Unit NotAPlan) → over_by r ≡ linking_of count low at (length ws) w → LinksSay ws n pts r words
    links_over r q = go w refl q
      where
        go : (v : Word) → w ≡ v → over_by r ≡ linking_of count low at (length ws) v → LinksSay ws n pts r words
        go (First i c) z e = said_so r (not_at at) e (wrong (ap (linked n pts h.ks low) z))
        go (Point x) z e = said_so r (not_at at) e (wrong (ap (linked n pts h.ks low) z))
        go (Contact i j) z e = pick (leb low (i * 256 + j) && (ltb i j && ltb j count)) refl e
          where
            same : (leb low (i * 256 + j) && (ltb i j && ltb j count)) ≡ (leb low (i * 256 + j) && (ltb i j && ltb j (length pts)))
            same = ap (λ (x : ℕ). leb low (i * 256 + j) && (ltb i j && ltb j x)) (sym size)

            pick : (t : Bool) → (leb low (i * 256 + j) && (ltb i j && ltb j count)) ≡ t
                → over_by r ≡ cond t (pair_at i j) (not_at at) → LinksSay ws n pts r words
            pick true b e = absurd (not_pair r _ e)
            pick false b e = said_so r (not_at at) e
                (wrong (ap (linked n pts h.ks low) z
                ∙ ap (λ (t : Bool). cond t (linking n pts (h.ks ++ ((i * 256 + j) ∷ [])) (suc (i * 256 + j))) dead) (sym same ∙ b)))
        go (Last c) z e = said_so r (last_of c at (length ws)) e (ends c z)
        go Other z e = said_so r (not_at at) e (wrong (ap (linked n pts h.ks low) z))

-- ---- what is read
pub reads_plan : (ws : List ℕ) (n c low : ℕ) (points : List ℕ) (h : PointsHeld ws n c c low points) (rows : List ℕ)
    → LinksSay ws n h.pts (Ok tt) rows → Reads ws (Ok (record { names = n; count = c; points = points; rows = rows }))
reads_plan ws n c low points h rows t =
    (plan_of n h.pts t.0, t.1, record { names = refl; count = sym h.size; points = h.stored; rows = t.2 })
