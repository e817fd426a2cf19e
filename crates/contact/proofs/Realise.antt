-- Allowed evaluations that meet every mark, all unseparated pairs in contact, are a floor that gives the decided atoms their values; where
-- every mark is witnessed, what is given is so. The other way round the evaluations of a floor's points are allowed, those of points in contact
-- are not separated, so every mark is witnessed. For any number of names and of points. Assumes nothing.
use mathlib.Core.Bool.{Bool, true, false, not, ◌&&◌, or_comm, and-eq-true_iff}
use mathlib.Core.Path.{◌≡◌, refl, sym, ap, ap₂, ◌∙◌, subst, fun_ext}
use mathlib.Core.Logic.{⊎_elim}
use mathlib.Core.List.{List, [], ◌∷◌, map}
use mathlib.Mathlib.Data.Bool.Basic.{and_intro, eq-false_of_not-eq-true, or_inl, partial_order_laws}
use Prim.Native.Nat.{ℕ, ◌^◌, ◌≤◌, ◌<◌}
use native.Mathlib.Omega.{arith}
use lib.ListN.{length, get_or}
use borrow.Author.Tests.{not-true, not-false}
use Rattle.formula.specs.Formula.{Term, Atom}
use Rattle.lists.specs.Search.{In, here, next, any, all, first, collect, below}
use Rattle.evalset.specs.Bit.{bit}
use Rattle.lists.proofs.Search.{any_intro, any_elim, none_elim, none_intro, all_elim, all_intro, first_some, first_in, uncons, none_in, place, placed, collect_intro, collect_elim, below_intro, below_elim, or_else_left, or_else_cases, or_else_some}
use Rattle.lists.proofs.Truth.{clash, or_cases}
use Rattle.contact.specs.Meaning.{Floor, within, is_empty, touches, atom_on}
use Rattle.contact.specs.Question.{Somewhere}
use Rattle.contact.specs.Numbering.{TermBelow, AtomBelow}
use Rattle.contact.specs.Row.{Row, is, unknown, PartialRow, Extends, RealisesPart}
use Rattle.contact.specs.Plan.{at, evaluations, Mark, touching, apart, vacant, inhabited, mark, marks_of, parts, separated, empties, may, allowed, fills, partners, leads, with_partner, gives, given, met, MeetsMarks}
use Rattle.contact.specs.Check.{witnessed, check}
use Rattle.contact.proofs.Bits.{encode, encode_lt, bit_encode, holds_same}
use Rattle.contact.proofs.Somewhere.{may_below, may_point}

-- ---- what marks say of a floor

-- the value of the marked atom on a floor, and the value that the mark gives it
abbrev pub mark_on : Floor ℕ → Mark → Bool
mark_on F (touching x y) = touches F x y
mark_on F (apart x y) = touches F x y
mark_on F (vacant t) = is_empty F t
mark_on F (inhabited t) = is_empty F t

abbrev pub sign_of : Mark → Bool
sign_of (touching x y) = true
sign_of (apart x y) = false
sign_of (vacant t) = true
sign_of (inhabited t) = false

-- the floor gives each marked atom its value
abbrev pub RealisesMarks : Floor ℕ → List Mark → Type 0
RealisesMarks F ms = (m : Mark) → In m ms → mark_on F m ≡ sign_of m

-- the names of the marked atom are numbered below n
abbrev pub MarkBelow : ℕ → Mark → Type 0
MarkBelow n (touching x y) = TermBelow n x × TermBelow n y
MarkBelow n (apart x y) = TermBelow n x × TermBelow n y
MarkBelow n (vacant t) = TermBelow n t
MarkBelow n (inhabited t) = TermBelow n t

-- ---- the floor of a list of evaluations

-- a search over places is one over elements
any_places : (P : ℕ → Bool) (xs : List ℕ) → any (λ i. P (get_or xs i 0)) (below (length xs)) ≡ any P xs
any_places P xs =
    partial_order_laws.le_antisymm (any (λ i. P (get_or xs i 0)) (below (length xs))) (any P xs)
    (λ h. let r = any_elim (λ i. P (get_or xs i 0)) (below (length xs)) h in
    any_intro P (placed 0 xs r.0 (below_elim (length xs) r.0 r.1)) r.2)
    (λ h. let r = any_elim P xs h in
    let s = place 0 r.1 in
    any_intro (λ i. P (get_or xs i 0)) (below_intro (length xs) s.0 s.1) (ap P s.2 ∙ r.2))

pub separated_symmetric : (ms : List Mark) (e f : ℕ) → separated ms e f ≡ true → separated ms f e ≡ true
unfolding separated
separated_symmetric ms e f h = let r = any_elim (parts e f) ms h in any_intro (parts f e) r.1 (flip r.0 r.2)
  where
    flip : (m : Mark) → parts e f m ≡ true → parts f e m ≡ true
    flip (touching x y) k = k
    flip (apart x y) k = rw or_comm k
    flip (vacant t) k = k
    flip (inhabited t) k = k

-- "All unseparated pairs are in contact."
unfoldable pub floor_of : (ms : List Mark) (pts : List ℕ) → 0 < length pts → ((e : ℕ) → In e pts → separated ms e e ≡ false) → Floor ℕ
floor_of ms pts some own =
    record {
      points = length pts;
      some = omega arith;
      touch = λ p q. not (separated ms (get_or pts p 0) (get_or pts q 0));
      reflexive = λ p h. ap not (own (get_or pts p 0) (placed 0 pts p h));
      symmetric = λ p q hp hq h. ap not (eq-false_of_not-eq-true (λ k. clash (separated_symmetric ms _ _ k) (not-true _ h)));
      lies = λ i p. bit (get_or pts p 0) i;
    }

-- the value of a marked atom there
abbrev on_points : List Mark → List ℕ → Mark → Bool
on_points ms pts (touching x y) = any (λ e. at x e && any (λ f. at y f && not (separated ms e f)) pts) pts
on_points ms pts (apart x y) = any (λ e. at x e && any (λ f. at y f && not (separated ms e f)) pts) pts
on_points ms pts (vacant t) = not (any (at t) pts)
on_points ms pts (inhabited t) = not (any (at t) pts)

module _ (ms : List Mark) (pts : List ℕ) (some : 0 < length pts) (own : (e : ℕ) → In e pts → separated ms e e ≡ false) where
  floor_touches : (x y : Term ℕ)
      → touches (floor_of ms pts some own) x y ≡ any (λ e. at x e && any (λ f. at y f && not (separated ms e f)) pts) pts
  unfolding floor_of
  floor_touches x y =
      ap (λ (g : ℕ → Bool). any g (below (length pts)))
      (fun_ext (λ i. ap (λ (b : Bool). at x (get_or pts i 0) && b) (any_places (λ f. at y f && not (separated ms (get_or pts i 0) f)) pts)))
      ∙ any_places (λ e. at x e && any (λ f. at y f && not (separated ms e f)) pts) pts

  floor_empty : (t : Term ℕ) → is_empty (floor_of ms pts some own) t ≡ not (any (at t) pts)
  unfolding floor_of
  floor_empty t = ap not (any_places (at t) pts)

  floor_mark : (m : Mark) → mark_on (floor_of ms pts some own) m ≡ on_points ms pts m
  floor_mark (touching x y) = floor_touches x y
  floor_mark (apart x y) = floor_touches x y
  floor_mark (vacant t) = floor_empty t
  floor_mark (inhabited t) = floor_empty t

-- ---- the tests, taken apart and put together

abbrev Allowed : ℕ → List Mark → ℕ → Type 0
Allowed n ms e = (may n e ≡ true) × (any (empties e) ms ≡ false) × (separated ms e e ≡ false)

module _ (n : ℕ) (ms : List Mark) where
  pub allowed_elim : (e : ℕ) → allowed n ms e ≡ true → Allowed n ms e
  unfolding allowed
  allowed_elim e h =
      let r = (and-eq-true_iff (may n e) (not (any (empties e) ms) && not (separated ms e e))).0 h in
      let s = (and-eq-true_iff (not (any (empties e) ms)) (not (separated ms e e))).0 r.1 in
      (r.0, not-true _ s.0, not-true _ s.1)

  pub allowed_intro : (e : ℕ) → Allowed n ms e → allowed n ms e ≡ true
  unfolding allowed
  allowed_intro e h =
      and_intro h.0
      (and_intro (ap not h.1) (ap not h.2))

  pub allowed_below : (e : ℕ) → allowed n ms e ≡ true → e < 2 ^ n
  allowed_below e h = may_below n e (allowed_elim e h).0

  pub fills_elim : (t : Term ℕ) (e : ℕ) → fills n ms t e ≡ true → (allowed n ms e ≡ true) × (at t e ≡ true)
  unfolding fills
  fills_elim t e h = (and-eq-true_iff (allowed n ms e) (at t e)).0 h

  pub fills_intro : (t : Term ℕ) (e : ℕ) → allowed n ms e ≡ true → at t e ≡ true → fills n ms t e ≡ true
  unfolding fills
  fills_intro t e h k = and_intro h k

  pub partners_elim : (y : Term ℕ) (p q : ℕ) → partners n ms y p q ≡ true → (fills n ms y q ≡ true) × (separated ms p q ≡ false)
  unfolding partners
  partners_elim y p q h = let r = (and-eq-true_iff (fills n ms y q) (not (separated ms p q))).0 h in (r.0, not-true _ r.1)

  pub partners_intro : (y : Term ℕ) (p q : ℕ) → fills n ms y q ≡ true → separated ms p q ≡ false → partners n ms y p q ≡ true
  unfolding partners
  partners_intro y p q h k = and_intro h (ap not k)

  pub leads_elim : (x y : Term ℕ) (p : ℕ) → leads n ms x y p ≡ true
      → (fills n ms x p ≡ true) × (any (partners n ms y p) (evaluations n) ≡ true)
  unfolding leads
  leads_elim x y p h = (and-eq-true_iff (fills n ms x p) (any (partners n ms y p) (evaluations n))).0 h

  pub leads_intro : (x y : Term ℕ) (p : ℕ) → fills n ms x p ≡ true → any (partners n ms y p) (evaluations n) ≡ true
      → leads n ms x y p ≡ true
  unfolding leads
  leads_intro x y p h k = and_intro h k

  pub check_elim : check n ms ≡ true → (any (allowed n ms) (evaluations n) ≡ true) × (all (witnessed n ms) ms ≡ true)
  unfolding check
  check_elim h = (and-eq-true_iff (any (allowed n ms) (evaluations n)) (all (witnessed n ms) ms)).0 h

  pub check_intro : any (allowed n ms) (evaluations n) ≡ true → all (witnessed n ms) ms ≡ true → check n ms ≡ true
  unfolding check
  check_intro h k = and_intro h k

-- ---- allowed points that meet every mark are a floor that realises the marks
module _ (n : ℕ) (ms : List Mark) (pts : List ℕ) (ok : (e : ℕ) → In e pts → allowed n ms e ≡ true) where
  abbrev unseparated_of : Term ℕ → ℕ → ℕ → Bool
  unseparated_of y e f = at y f && not (separated ms e f)

  abbrev meets_on : Term ℕ → Term ℕ → ℕ → Bool
  meets_on x y e = at x e && any (unseparated_of y e) pts

  on_points_lem : (m : Mark) → In m ms → met ms pts m ≡ true → on_points ms pts m ≡ sign_of m
  unfolding separated
  on_points_lem (touching x y) i h = h
  on_points_lem (apart x y) i h =
      none_intro (meets_on x y) pts
      (λ e j h.
      let k = (and-eq-true_iff (at x e) (any (unseparated_of y e) pts)).0 h in
      let r = any_elim (unseparated_of y e) pts k.1 in
      let f : ℕ = r.0 in
      let l = (and-eq-true_iff (at y f) (not (separated ms e f))).0 r.2 in
      clash
      (any_intro (parts e f) i (or_inl (at x e && at y f) (at x f && at y e) (and_intro k.0 l.0)))
      (not-true _ l.1))
  on_points_lem (vacant t) i h =
      ap not (none_intro (at t) pts (λ e j h. clash h (none_elim (empties e) (allowed_elim n ms e (ok e j)).1 i)))
  on_points_lem (inhabited t) i h = ap not h

  pub points_own : (e : ℕ) → In e pts → separated ms e e ≡ false
  points_own e i = (allowed_elim n ms e (ok e i)).2

  pub points_realise : (some : 0 < length pts) → MeetsMarks ms pts → RealisesMarks (floor_of ms pts some points_own) ms
  points_realise some meet m i = floor_mark ms pts some points_own m ∙ on_points_lem m i (meet m i)

-- ---- from the check to the plan

module _ (n : ℕ) (ms : List Mark) where
  abbrev es : List ℕ
  es = evaluations n

  gives_ok : (m : Mark) {e : ℕ} → In e (gives n ms m) → In e es × (allowed n ms e ≡ true)
  gives_ok (touching x y) {e} i =
      let r = collect_elim (with_partner n ms y) (first (leads n ms x y) es) i in
      let p = first_in (leads n ms x y) es r.1 in
      ⊎_elim
      (λ q. (subst (λ z. In z es) (sym q) p.0, ap (allowed n ms) q ∙ (fills_elim n ms x r.0 (leads_elim n ms x y r.0 p.1).0).0))
      (λ j. let s = first_in (partners n ms y r.0) es j in
      (s.0, (fills_elim n ms y e (partners_elim n ms y r.0 e s.1).0).0))
      (uncons r.2)
  gives_ok (apart x y) i = none_in i
  gives_ok (vacant t) i = none_in i
  gives_ok (inhabited t) {e} i = let r = first_in (fills n ms t) es i in (r.0, (fills_elim n ms t e r.1).0)

  pub given_ok : {e : ℕ} → In e (given n ms) → In e es × (allowed n ms e ≡ true)
  unfolding given
  given_ok i =
      ⊎_elim (λ j. let r = collect_elim (gives n ms) ms j in gives_ok r.0 r.2) (λ j. first_in (allowed n ms) es j)
      (or_else_cases (collect (gives n ms) ms) (first (allowed n ms) es) i)

  gives_given : {m : Mark} {e : ℕ} → In m ms → In e (gives n ms m) → In e (given n ms)
  unfolding given
  gives_given i j = or_else_left (first (allowed n ms) es) (collect_intro (gives n ms) i j)

  module _ (checked : check n ms ≡ true) where
    pub some_given : (e : ℕ) × In e (given n ms)
    unfolding given
    some_given =
        let r = first_some (allowed n ms) es (check_elim n ms checked).0 in
        or_else_some (collect (gives n ms) ms) (first (allowed n ms) es) (r.0, subst (In r.0) (sym r.1) here)

    all_witnessed : (m : Mark) → In m ms → witnessed n ms m ≡ true
    all_witnessed m i = all_elim (witnessed n ms) i (check_elim n ms checked).1

    -- what is given meets every mark
    pub given_meet : MeetsMarks ms (given n ms)
    given_meet (touching x y) i =
        let r = first_some (leads n ms x y) es (all_witnessed (touching x y) i) in
        let p : ℕ = r.0 in
        let hp = leads_elim n ms x y p r.3 in
        let s = first_some (partners n ms y p) es hp.1 in
        let q : ℕ = s.0 in
        let hq = partners_elim n ms y p q s.3 in
        let p_in = subst (In p) (sym r.1) here in
        let pair : (e : ℕ) → In e (with_partner n ms y p) → In e (given n ms) =
        λ e j. gives_given i (collect_intro (with_partner n ms y) p_in j) in
        any_intro (λ e. at x e && any (λ f. at y f && not (separated ms e f)) (given n ms)) (pair p here)
        (and_intro (fills_elim n ms x p hp.0).1
        (any_intro (λ f. at y f && not (separated ms p f)) (pair q (next (subst (In q) (sym s.1) here)))
        (and_intro (fills_elim n ms y q hq.0).1 (ap not hq.1))))
    given_meet (apart x y) i = refl
    given_meet (vacant t) i = refl
    given_meet (inhabited t) i =
        let r = first_some (fills n ms t) es (all_witnessed (inhabited t) i) in
        any_intro (at t) (gives_given i (subst (In r.0) (sym r.1) here)) (fills_elim n ms t r.0 r.3).1

-- ---- from a floor to the check

-- a contact, by its two points
pub touches_intro : {N : Type 0} (F : Floor N) (x y : Term N) (p q : ℕ) → p < F.points → q < F.points → within F x p ≡ true → within F y q ≡ true
    → F.touch p q ≡ true → touches F x y ≡ true
touches_intro F x y p q hp hq ix iy h =
    any_intro (λ k. within F x k && any (λ l. within F y l && F.touch k l) (below F.points)) (below_intro F.points p hp)
    (and_intro ix
    (any_intro (λ l. within F y l && F.touch p l) (below_intro F.points q hq) (and_intro iy h)))

pub record Met {N : Type 0} (F : Floor N) (x y : Term N) : Type 0 where
  pub p : ℕ
  pub q : ℕ
  pub p_lt : p < F.points
  pub q_lt : q < F.points
  pub p_in : within F x p ≡ true
  pub q_in : within F y q ≡ true
  pub meet : F.touch p q ≡ true

pub touches_elim : {N : Type 0} (F : Floor N) (x y : Term N) → touches F x y ≡ true → Met F x y
touches_elim F x y h =
    let r = any_elim (λ k. within F x k && any (λ l. within F y l && F.touch k l) (below F.points)) (below F.points) h in
    let k = (and-eq-true_iff (within F x r.0) (any (λ l. within F y l && F.touch r.0 l) (below F.points))).0 r.2 in
    let s = any_elim (λ l. within F y l && F.touch r.0 l) (below F.points) k.1 in
    let l = (and-eq-true_iff (within F y s.0) (F.touch r.0 s.0)).0 s.2 in
    record {
      p = r.0;
      q = s.0;
      p_lt = below_elim F.points r.0 r.1;
      q_lt = below_elim F.points s.0 s.1;
      p_in = k.0;
      q_in = l.0;
      meet = l.1;
    }

-- the evaluation of a point
abbrev pub ev_of : ℕ → Floor ℕ → ℕ → ℕ
ev_of n F p = encode n (λ i. F.lies i p)

module _ (n : ℕ) (ms : List Mark) (names : (m : Mark) → In m ms → MarkBelow n m) (F : Floor ℕ) (somewhere : Somewhere (below n) F)
    (real : RealisesMarks F ms) where
  abbrev ev : ℕ → ℕ
  ev p = ev_of n F p

  ev_in : (p : ℕ) → In (ev p) (evaluations n)
  ev_in p = below_intro (2 ^ n) (ev p) (encode_lt n (λ i. F.lies i p))

  pub ev_at : (t : Term ℕ) (p : ℕ) → TermBelow n t → at t (ev p) ≡ within F t p
  ev_at t p o = holds_same n (λ i. bit (ev p) i) (λ i. F.lies i p) (bit_encode n (λ i. F.lies i p)) t o

  -- points in contact have unseparated evaluations
  ev_parts : (p q : ℕ) → p < F.points → q < F.points → F.touch p q ≡ true → (m : Mark) → In m ms → parts (ev p) (ev q) m ≡ true → ⊥
  ev_parts p q hp hq h (touching x y) i k = clash k refl
  ev_parts p q hp hq h (apart x y) i k =
      let o = names (apart x y) i in
      clash
      (⊎_elim
      (λ l. let r = (and-eq-true_iff (at x (ev p)) (at y (ev q))).0 l in
      touches_intro F x y p q hp hq (sym (ev_at x p o.0) ∙ r.0) (sym (ev_at y q o.1) ∙ r.1) h)
      (λ l. let r = (and-eq-true_iff (at x (ev q)) (at y (ev p))).0 l in
      touches_intro F x y q p hq hp (sym (ev_at x q o.0) ∙ r.0) (sym (ev_at y p o.1) ∙ r.1) (F.symmetric p q hp hq h))
      (or_cases (at x (ev p) && at y (ev q)) (at x (ev q) && at y (ev p)) k))
      (real (apart x y) i)
  ev_parts p q hp hq h (vacant t) i k = clash k refl
  ev_parts p q hp hq h (inhabited t) i k = clash k refl

  pub ev_separated : (p q : ℕ) → p < F.points → q < F.points → F.touch p q ≡ true → separated ms (ev p) (ev q) ≡ false
  unfolding separated
  ev_separated p q hp hq h = none_intro (parts (ev p) (ev q)) ms (ev_parts p q hp hq h)

  ev_empties : (p : ℕ) → p < F.points → (m : Mark) → In m ms → empties (ev p) m ≡ true → ⊥
  ev_empties p hp (touching x y) i k = clash k refl
  ev_empties p hp (apart x y) i k = clash k refl
  ev_empties p hp (vacant t) i k =
      clash (any_intro (within F t) (below_intro F.points p hp) (sym (ev_at t p (names (vacant t) i)) ∙ k))
      (not-true _ (real (vacant t) i))
  ev_empties p hp (inhabited t) i k = clash k refl

  pub ev_allowed : (p : ℕ) → p < F.points → allowed n ms (ev p) ≡ true
  ev_allowed p hp =
      allowed_intro n ms (ev p)
      (may_point n F somewhere p hp, none_intro (empties (ev p)) ms (ev_empties p hp), ev_separated p p hp hp (F.reflexive p hp))

  ev_fills : (t : Term ℕ) (p : ℕ) → TermBelow n t → p < F.points → within F t p ≡ true → fills n ms t (ev p) ≡ true
  ev_fills t p o hp h = fills_intro n ms t (ev p) (ev_allowed p hp) (ev_at t p o ∙ h)

  ev_witnessed : (m : Mark) → In m ms → witnessed n ms m ≡ true
  ev_witnessed (touching x y) i =
      let o = names (touching x y) i in
      let w = touches_elim F x y (real (touching x y) i) in
      any_intro (leads n ms x y) (ev_in w.p)
      (leads_intro n ms x y (ev w.p) (ev_fills x w.p o.0 w.p_lt w.p_in)
      (any_intro (partners n ms y (ev w.p)) (ev_in w.q)
      (partners_intro n ms y (ev w.p) (ev w.q) (ev_fills y w.q o.1 w.q_lt w.q_in)
      (ev_separated w.p w.q w.p_lt w.q_lt w.meet))))
  ev_witnessed (apart x y) i = refl
  ev_witnessed (vacant t) i = refl
  ev_witnessed (inhabited t) i =
      let r = any_elim (within F t) (below F.points) (not-false _ (real (inhabited t) i)) in
      any_intro (fills n ms t) (ev_in r.0) (ev_fills t r.0 (names (inhabited t) i) (below_elim F.points r.0 r.1) r.2)

  pub floor_check : check n ms ≡ true
  floor_check =
      check_intro n ms (any_intro (allowed n ms) (ev_in 0) (ev_allowed 0 F.some)) (all_intro (witnessed n ms) ms ev_witnessed)

-- ---- marks and rows

mark_on_lem : (F : Floor ℕ) (a : Atom ℕ) (b : Bool) → mark_on F (mark a b) ≡ atom_on F a
mark_on_lem F (Atom.contact x y) true = refl
mark_on_lem F (Atom.contact x y) false = refl
mark_on_lem F (Atom.part x y) true = refl
mark_on_lem F (Atom.part x y) false = refl
mark_on_lem F (Atom.empty t) true = refl
mark_on_lem F (Atom.empty t) false = refl

mark_sign : (a : Atom ℕ) (b : Bool) → sign_of (mark a b) ≡ b
mark_sign (Atom.contact x y) true = refl
mark_sign (Atom.contact x y) false = refl
mark_sign (Atom.part x y) true = refl
mark_sign (Atom.part x y) false = refl
mark_sign (Atom.empty t) true = refl
mark_sign (Atom.empty t) false = refl

mark_below : (n : ℕ) (a : Atom ℕ) (b : Bool) → AtomBelow n a → MarkBelow n (mark a b)
mark_below n (Atom.contact x y) true o = o
mark_below n (Atom.contact x y) false o = o
mark_below n (Atom.part x y) true o = o
mark_below n (Atom.part x y) false o = o
mark_below n (Atom.empty t) true o = o
mark_below n (Atom.empty t) false o = o

pub marks_below : (n : ℕ) (atoms : List (Atom ℕ)) (part : PartialRow) → ((a : Atom ℕ) → In a atoms → AtomBelow n a)
    → (m : Mark) → In m (marks_of atoms part) → MarkBelow n m
marks_below n [] part o m i = none_in i
marks_below n (a ∷ atoms) [] o m i = none_in i
marks_below n (a ∷ atoms) (is b ∷ part) o m i =
    ⊎_elim (λ q. subst (MarkBelow n) (sym q) (mark_below n a b (o a here))) (λ j. marks_below n atoms part (λ c k. o c (next k)) m j)
    (uncons i)
marks_below n (a ∷ atoms) (unknown ∷ part) o m i = marks_below n atoms part (λ c k. o c (next k)) m i

-- a floor that gives the decided atoms their values realises the marks
pub part_marks : (F : Floor ℕ) (atoms : List (Atom ℕ)) (part : PartialRow) → RealisesPart F atoms part → RealisesMarks F (marks_of atoms part)
part_marks F [] part h m i = none_in i
part_marks F (a ∷ atoms) [] h m i = none_in i
part_marks F (a ∷ atoms) (is b ∷ part) h m i =
    ⊎_elim (λ q. ap (mark_on F) q ∙ mark_on_lem F a b ∙ h.0 ∙ sym (mark_sign a b) ∙ ap sign_of (sym q)) (λ j. part_marks F atoms part h.1 m j)
    (uncons i)
part_marks F (a ∷ atoms) (unknown ∷ part) h m i = part_marks F atoms part h m i

-- and one that realises the marks gives them their values
pub marks_part : (F : Floor ℕ) (atoms : List (Atom ℕ)) (part : PartialRow) → length part ≤ length atoms → RealisesMarks F (marks_of atoms part)
    → RealisesPart F atoms part
marks_part F atoms [] l h = tt
marks_part F [] (t ∷ part) l h = absurd (omega arith)
marks_part F (a ∷ atoms) (is b ∷ part) l h =
    (sym (mark_on_lem F a b) ∙ h (mark a b) here ∙ mark_sign a b, marks_part F atoms part (omega arith) (λ m i. h m (next i)))
marks_part F (a ∷ atoms) (unknown ∷ part) l h = marks_part F atoms part (omega arith) h

-- a row extends itself, and no other row of its length
pub extends_self : (row : Row) → Extends row (map is row)
extends_self [] = tt
extends_self (b ∷ row) = (refl, extends_self row)

pub extends_whole : (s row : Row) → length row ≡ length s → Extends s (map is row) → s ≡ row
extends_whole [] [] l h = refl
extends_whole [] (b ∷ row) l h = absurd (omega arith)
extends_whole (c ∷ s) [] l h = absurd (omega arith)
extends_whole (c ∷ s) (b ∷ row) l h = ap₂ ◌∷◌ h.0 (extends_whole s row (omega arith) h.1)
