-- The check passes exactly where some floor that counts gives the decided atoms their values, for each question. The points of
-- the plan are allowed and meet every mark, and a piece hangs together; the evaluations of the points of a floor that hangs
-- together are linked, so they lie in one piece, which meets what the floor meets. For any number of names and of points.
-- Assumes nothing.
use mathlib.Core.Bool.{Bool, true, false, not, ◌&&◌, Bool-set}
use mathlib.Core.Path.{◌≡◌, refl, sym, ap, ap₂, ◌∙◌, subst, fun_ext}
use mathlib.Core.Logic.{⊎_elim, ◌↔◌, ∥∥₁_elim}
use mathlib.Core.List.{List, [], map, append-nil}
use mathlib.Mathlib.Data.Bool.Basic.{and_intro, partial_order_laws}
use Prim.Native.Nat.{ℕ, ◌^◌, ◌≤◌, ◌<◌}
use native.Mathlib.Omega.{arith}
use lib.ListN.{length, get_or, length-map}
use borrow.Author.Tests.{not-false}
use Rattle.formula.specs.Formula.{Atom}
use Rattle.lists.specs.Search.{In, any, all, first, keep, collect, below, elem}
use Rattle.evalset.specs.Bit.{bit}
use Rattle.lists.proofs.Search.{any_intro, any_elim, all_elim, all_intro, first_some, first_in, place, placed, keep_intro, keep_elim, collect_elim, below_elim, elem_intro, elem_elim}
use Rattle.lists.proofs.Below.{Least, FirstSays, first_says, first_says_least}
use Rattle.lists.proofs.Truth.{clash, side}
use Rattle.contact.specs.Meaning.{Floor, within, atom_on}
use Rattle.contact.specs.Question.{Question, plain, building, Way, stay, step, HangsTogether, Shaped, Somewhere, Counts}
use Rattle.contact.specs.Numbering.{AtomBelow}
use Rattle.contact.specs.Row.{Row, Realises, Realisable, is, PartialRow, Extends, RealisesPart}
use Rattle.contact.specs.Plan.{at, evaluations, Mark, touching, apart, vacant, inhabited, marks_of, row_marks, separated, allowed, Linked, start, onward, met, MeetsMarks, IsThePiece, AreGiven, ArePoints}
use Rattle.contact.specs.Pieces.{whole_piece, piece_meets, check_pieces, piece_given}
use Rattle.contact.specs.Check.{passes, given_by, points_for}
use Rattle.contact.proofs.Somewhere.{somewhere_points}
use Rattle.contact.proofs.Pieces.{allowed_in, meets_elim, meets_intro, linked_on, linked_back, piece_elim, piece_own, piece_intro, piece_allowed}
use Rattle.contact.proofs.Fewer.{met_fewer}
use Rattle.contact.proofs.Realise.{MarkBelow, RealisesMarks, allowed_elim, floor_of, points_own, points_realise, given_ok, some_given, given_meet, ev_of, ev_at, ev_allowed, ev_separated, floor_check, touches_elim, marks_below, part_marks, marks_part, extends_self, extends_whole}

-- lists with the same elements
elem_same : (e : ℕ) (xs ys : List ℕ) → (In e xs → In e ys) → (In e ys → In e xs) → elem e xs ≡ elem e ys
elem_same e xs ys f g =
    partial_order_laws.le_antisymm (elem e xs) (elem e ys) (λ h. elem_intro e (f (elem_elim e xs h))) (λ h. elem_intro e (g (elem_elim e ys h)))

-- ---- from a floor to the check

module _ (n : ℕ) (ms : List Mark) (names : (m : Mark) → In m ms → MarkBelow n m) (F : Floor ℕ) (somewhere : Somewhere (below n) F)
    (real : RealisesMarks F ms) (hangs : HangsTogether F) where
  abbrev ev : ℕ → ℕ
  ev p = ev_of n F p

  ok : (p : ℕ) → p < F.points → allowed n ms (ev p) ≡ true
  ok p hp = ev_allowed n ms names F somewhere real p hp

  -- points in contact, and so all points, have linked evaluations
  way_linked : {p q : ℕ} → Way F p q → p < F.points → Linked n ms (ev 0) (ev p) → Linked n ms (ev 0) (ev q)
  way_linked stay hp l = l
  way_linked (step {p} {q} {r} hq t w) hp l =
      way_linked w hq (onward l (ok q hq) (ev_separated n ms names F somewhere real p q hp hq t))

  ev_piece : (p : ℕ) → p < F.points → In (ev p) (whole_piece n ms (ev 0))
  ev_piece p hp = piece_intro n ms (ev 0) (ok 0 F.some) (way_linked (hangs 0 p F.some hp) F.some start)

  ev_met : (m : Mark) → In m ms → met ms (whole_piece n ms (ev 0)) m ≡ true
  ev_met (touching x y) i =
      let o = names (touching x y) i in
      let w = touches_elim F x y (real (touching x y) i) in
      any_intro (λ e. at x e && any (λ f. at y f && not (separated ms e f)) (whole_piece n ms (ev 0))) (ev_piece w.p w.p_lt)
      (and_intro (ev_at n ms names F somewhere real x w.p o.0 ∙ w.p_in)
      (any_intro (λ f. at y f && not (separated ms (ev w.p) f)) (ev_piece w.q w.q_lt)
      (and_intro (ev_at n ms names F somewhere real y w.q o.1 ∙ w.q_in)
      (ap not (ev_separated n ms names F somewhere real w.p w.q w.p_lt w.q_lt w.meet)))))
  ev_met (apart x y) i = refl
  ev_met (vacant t) i = refl
  ev_met (inhabited t) i =
      let r = any_elim (within F t) (below F.points) (not-false _ (real (inhabited t) i)) in
      let hp : r.0 < F.points = below_elim F.points r.0 r.1 in
      any_intro (at t) (ev_piece r.0 hp) (ev_at n ms names F somewhere real t r.0 (names (inhabited t) i) ∙ r.2)

  floor_pieces : check_pieces n ms ≡ true
  floor_pieces = meets_intro n ms (ev 0) (ok 0 F.some) ev_met

floor_passes : (q : Question) (n : ℕ) (ms : List Mark) → ((m : Mark) → In m ms → MarkBelow n m) → (F : Floor ℕ) → Counts q (below n) F
    → RealisesMarks F ms → passes q n ms ≡ true
floor_passes plain n ms names F counts real = floor_check n ms names F counts.somewhere real
floor_passes building n ms names F counts real = floor_pieces n ms names F counts.somewhere real counts.shaped

-- ---- the piece whose points are given

module _ (n : ℕ) (ms : List Mark) where
  -- the piece of e is given
  record Found : Type 0 where
    e : ℕ
    ok : allowed n ms e ≡ true
    meets : all (met ms (whole_piece n ms e)) ms ≡ true
    given : piece_given n ms ≡ whole_piece n ms e
    before : (d : ℕ) → d < e → piece_meets n ms d ≡ false

  piece_found : check_pieces n ms ≡ true → Found
  unfolding check_pieces piece_given
  piece_found h =
      let r = first_some (piece_meets n ms) (evaluations n) h in
      let w = meets_elim n ms r.0 r.3 in
      let least : Least (2 ^ n) r.0 (piece_meets n ms) =
      first_says_least (piece_meets n ms) (2 ^ n) r.0 [] (subst (FirstSays (piece_meets n ms) 0 (2 ^ n)) r.1 (first_says (piece_meets n ms) 0 (2 ^ n))) in
      record {
        e = r.0;
        ok = w.0;
        meets = w.1;
        given = ap (collect (whole_piece n ms)) r.1 ∙ append-nil (whole_piece n ms r.0);
        before = λ d l. least.before d l;
      }

  piece_given_allowed : (f : ℕ) → In f (piece_given n ms) → allowed n ms f ≡ true
  unfolding piece_given
  piece_given_allowed f i =
      let r = collect_elim (whole_piece n ms) (first (piece_meets n ms) (evaluations n)) i in
      let s = first_in (piece_meets n ms) (evaluations n) r.1 in
      piece_allowed n ms r.0 (meets_elim n ms r.0 s.1).0 f r.2

  -- a way may be made longer at its end
  way_on : {N : Type 0} {F : Floor N} {p q r : ℕ} → Way F p q → r < F.points → F.touch q r ≡ true → Way F p r
  way_on stay l t = step l t stay
  way_on (step k s w) l t = step k s (way_on w l t)

  -- from point to point of a piece
  module _ (e : ℕ) (ok : allowed n ms e ≡ true) (pts : List ℕ) (out : (f : ℕ) → In f pts → In f (whole_piece n ms e))
      (into : (f : ℕ) → In f (whole_piece n ms e) → In f pts) where
    linked_point : (i : ℕ) → i < length pts → Linked n ms e (get_or pts i 0)
    linked_point i hi = piece_elim n ms e (get_or pts i 0) (out (get_or pts i 0) (placed 0 pts i hi))

    module _ (some : 0 < length pts) (own : (f : ℕ) → In f pts → separated ms f f ≡ false) where
      linked_way : (i : ℕ) → i < length pts → {f : ℕ} → Linked n ms (get_or pts i 0) f → (j : ℕ) → j < length pts → get_or pts j 0 ≡ f
          → Way (floor_of ms pts some own) i j
      unfolding floor_of
      linked_way i hi start j hj q =
          step hj (ap not (ap (separated ms (get_or pts i 0)) q ∙ own (get_or pts i 0) (placed 0 pts i hi))) stay
      linked_way i hi (onward {f} {g} l a s) j hj q =
          let k = place 0 (into f (piece_intro n ms e ok (linked_on n ms (linked_point i hi) l))) in
          way_on (linked_way i hi l k.0 k.1 k.2) hj (ap not (ap₂ (separated ms) k.2 q ∙ s))

      piece_hangs : HangsTogether (floor_of ms pts some own)
      unfolding floor_of
      piece_hangs i j hi hj =
          linked_way i hi (linked_on n ms (linked_back n ms ok (linked_point i hi)) (linked_point j hj)) j hj refl

-- ---- what is given

-- is allowed
pub given_allowed : (q : Question) (n : ℕ) (ms : List Mark) (e : ℕ) → In e (given_by q n ms) → allowed n ms e ≡ true
given_allowed plain n ms e i = (given_ok n ms i).1
given_allowed building n ms e i = piece_given_allowed n ms e i

-- some, and meets every mark
given_some : (q : Question) (n : ℕ) (ms : List Mark) → passes q n ms ≡ true → (e : ℕ) × In e (given_by q n ms)
given_some plain n ms h = some_given n ms h
given_some building n ms h =
    let r = piece_found n ms h in (r.e, subst (In r.e) (sym r.given) (piece_own n ms r.e r.ok))

given_meets : (q : Question) (n : ℕ) (ms : List Mark) → passes q n ms ≡ true → MeetsMarks ms (given_by q n ms)
given_meets plain n ms h m i = given_meet n ms h m i
given_meets building n ms h m i =
    let r = piece_found n ms h in
    ap (λ (set : List ℕ). met ms set m) r.given ∙ all_elim (met ms (whole_piece n ms r.e)) i r.meets

-- ---- the plan of marks that pass

module _ (q : Question) (n : ℕ) (ms : List Mark) where
  -- the points are the evaluations given
  points_elim : (e : ℕ) → In e (points_for q n ms) → In e (given_by q n ms)
  unfolding points_for
  points_elim e i = elem_elim e (given_by q n ms) (keep_elim (λ k. elem k (given_by q n ms)) (evaluations n) i).1

  points_intro : (e : ℕ) → In e (given_by q n ms) → In e (points_for q n ms)
  unfolding points_for
  points_intro e i = keep_intro (λ k. elem k (given_by q n ms)) (allowed_in n ms e (given_allowed q n ms e i)) (elem_intro e i)

  -- and ascend
  points_ascending : points_for q n ms ≡ keep (λ e. elem e (points_for q n ms)) (evaluations n)
  unfolding points_for
  points_ascending =
      ap (λ (p : ℕ → Bool). keep p (evaluations n))
      (fun_ext (λ e. elem_same e (given_by q n ms) (points_for q n ms) (points_intro e) (points_elim e)))

  pub point_allowed : (e : ℕ) → In e (points_for q n ms) → allowed n ms e ≡ true
  point_allowed e i = given_allowed q n ms e (points_elim e i)

module _ (q : Question) (n : ℕ) (ms : List Mark) (checked : passes q n ms ≡ true) where
  pub points_some : 0 < length (points_for q n ms)
  points_some =
      let r = given_some q n ms checked in
      let s = place 0 (points_intro q n ms r.0 r.1) in
      omega (arith, s.1)

  points_meet : MeetsMarks ms (points_for q n ms)
  points_meet m i =
      met_fewer n ms ms (λ k j. j) (given_by q n ms) (points_for q n ms) (points_intro q n ms) m (given_meets q n ms checked m i)

  -- the plan that is given, as a floor
  unfoldable pub marks_floor : Floor ℕ
  marks_floor = floor_of ms (points_for q n ms) points_some (points_own n ms (points_for q n ms) (point_allowed q n ms))

  -- its points are those of the plan in their order, unseparated ones are in contact, and bit i says which lie in name i
  pub plan_points : marks_floor.points ≡ length (points_for q n ms)
  unfolding marks_floor floor_of
  plan_points = refl

  pub plan_touch : (p r : ℕ) → marks_floor.touch p r ≡ not (separated ms (get_or (points_for q n ms) p 0) (get_or (points_for q n ms) r 0))
  unfolding marks_floor floor_of
  plan_touch p r = refl

  pub plan_lies : (i p : ℕ) → marks_floor.lies i p ≡ bit (get_or (points_for q n ms) p 0) i
  unfolding marks_floor floor_of
  plan_lies i p = refl

  plan_realises : RealisesMarks marks_floor ms
  unfolding marks_floor
  plan_realises =
      points_realise n ms (points_for q n ms) (point_allowed q n ms) points_some points_meet

-- the plan has the shape that is asked
plan_shaped : (q : Question) (n : ℕ) (ms : List Mark) (checked : passes q n ms ≡ true) → Shaped q (marks_floor q n ms checked)
unfolding marks_floor
plan_shaped plain n ms checked = tt
plan_shaped building n ms checked =
    let r = piece_found n ms checked in
    piece_hangs n ms r.e r.ok (points_for building n ms)
    (λ f i. subst (In f) r.given (points_elim building n ms f i))
    (λ f i. points_intro building n ms f (subst (In f) (sym r.given) i)) _ _

-- and counts: its points are allowed, so each lies in a name where there is one
pub plan_counts : (q : Question) (n : ℕ) (ms : List Mark) (checked : passes q n ms ≡ true) → Counts q (below n) (marks_floor q n ms checked)
plan_counts q n ms checked =
    let points : List ℕ = points_for q n ms in
    record {
      somewhere =
          somewhere_points n (marks_floor q n ms checked) (λ p. get_or points p 0)
          (λ p l. (allowed_elim n ms _ (point_allowed q n ms _ (placed 0 points p (omega (arith, plan_points q n ms checked))))).0)
          (λ i p l. plan_lies q n ms checked i p);
      shaped = plan_shaped q n ms checked;
    }

-- ---- the claims

module _ (q : Question) (n : ℕ) (atoms : List (Atom ℕ)) where
  -- the plan gives the decided atoms their values
  plan_part : (part : PartialRow) → length part ≤ length atoms → (checked : passes q n (marks_of atoms part) ≡ true)
      → RealisesPart (marks_floor q n (marks_of atoms part) checked) atoms part
  plan_part part l checked =
      marks_part (marks_floor q n (marks_of atoms part) checked) atoms part l (plan_realises q n (marks_of atoms part) checked)

  -- and of a whole row it gives every atom the row's value
  pub plan_row : (row : Row) → length row ≡ length atoms → (checked : passes q n (row_marks atoms row) ≡ true)
      → Realises (marks_floor q n (row_marks atoms row) checked) atoms row
  plan_row row l checked =
      let F : Floor ℕ = marks_floor q n (row_marks atoms row) checked in
      let whole : length (map is row) ≤ length atoms = omega (arith, length-map row is) in
      extends_whole (map (atom_on F) atoms) row (l ∙ sym (length-map atoms (atom_on F))) (plan_part (map is row) whole checked)

  module _ (names : (a : Atom ℕ) → In a atoms → AtomBelow n a) where
    part_check : (part : PartialRow) (F : Floor ℕ) → Counts q (below n) F → RealisesPart F atoms part
        → passes q n (marks_of atoms part) ≡ true
    part_check part F counts h =
        floor_passes q n (marks_of atoms part) (marks_below n atoms part names) F counts (part_marks F atoms part h)

    pub row_check : (row : Row) (F : Floor ℕ) → Counts q (below n) F → Realises F atoms row → passes q n (row_marks atoms row) ≡ true
    row_check row F counts h =
        part_check (map is row) F counts (subst (λ (r : Row). Extends r (map is row)) (sym h) (extends_self row))

-- the check of a partial row passes exactly if some floor that counts gives the decided atoms their values
pub check_exactly : (q : Question) (n : ℕ) (atoms : List (Atom ℕ)) (part : PartialRow) → ((a : Atom ℕ) → In a atoms → AtomBelow n a)
    → length part ≤ length atoms
    → (passes q n (marks_of atoms part) ≡ true) ↔ ∥ ((F : Floor ℕ) × Counts q (below n) F × RealisesPart F atoms part) ∥₁
check_exactly q n atoms part names l = (
  λ h. ∣ (marks_floor q n (marks_of atoms part) h, plan_counts q n (marks_of atoms part) h, plan_part q n atoms part l h) ∣₁,
  λ r. ∥∥₁_elim r (Bool-set _ _) (λ f. part_check q n atoms names part f.0 f.1 f.2),
)

-- the check of a row passes exactly if some floor that counts realises it
pub row_exactly : (q : Question) (n : ℕ) (atoms : List (Atom ℕ)) (row : Row) → ((a : Atom ℕ) → In a atoms → AtomBelow n a)
    → length row ≡ length atoms → (passes q n (row_marks atoms row) ≡ true) ↔ Realisable q (below n) atoms row
row_exactly q n atoms row names l = (
  λ h. ∣ (marks_floor q n (row_marks atoms row) h, plan_counts q n (row_marks atoms row) h, plan_row q n atoms row l h) ∣₁,
  λ r. ∥∥₁_elim r (Bool-set _ _) (λ f. row_check q n atoms names row f.0 f.1 f.2),
)

-- ---- the points, as they are meant

module _ (n : ℕ) (ms : List Mark) (checked : check_pieces n ms ≡ true) where
  -- "the whole piece .. of several, the one with the least evaluation"
  points_piece : IsThePiece n ms (points_for building n ms)
  unfolding piece_meets
  points_piece =
      let r = piece_found n ms checked in
      record {
        least = r.e;
        piece =
            record {
              ok = r.ok;
              whole = λ f. (
                λ i. piece_elim n ms r.e f (subst (In f) r.given (points_elim building n ms f i)),
                λ l. points_intro building n ms f (subst (In f) (sym r.given) (piece_intro n ms r.e r.ok l)),
              );
            };
        meets = points_meet building n ms checked;
        earliest = λ d others is meet.
            ⊎_elim
            (λ l. clash
            (and_intro is.ok
            (all_intro (met ms (whole_piece n ms d)) ms
            (λ m i. met_fewer n ms ms (λ k j. j) others (whole_piece n ms d) (λ f j. piece_intro n ms d is.ok ((is.whole f).0 j)) m (meet m i))))
            (r.before d l))
            (λ l. l) (side d r.e);
      }

-- the piece is one: the two least evaluations are each at most the other
piece_once : (n : ℕ) (ms : List Mark) (points others : List ℕ) → IsThePiece n ms points → IsThePiece n ms others → (f : ℕ) → In f points → In f others
piece_once n ms points others r s f i =
    let a : r.least ≤ s.least = r.earliest s.least others s.piece s.meets in
    let b : s.least ≤ r.least = s.earliest r.least points r.piece r.meets in
    let e : r.least ≡ s.least = omega arith in
    (s.piece.whole f).1 (subst (λ (l : ℕ). Linked n ms l f) e ((r.piece.whole f).0 i))

-- the points that are found are those that are meant
points_given : (q : Question) (n : ℕ) (ms : List Mark) → passes q n ms ≡ true → AreGiven q n ms (points_for q n ms)
points_given plain n ms checked = λ e. (points_elim plain n ms e, points_intro plain n ms e)
points_given building n ms checked = points_piece n ms checked

given_once : (q : Question) (n : ℕ) (ms : List Mark) (points others : List ℕ) → AreGiven q n ms points → AreGiven q n ms others
    → (f : ℕ) → In f points → In f others
given_once plain n ms points others r s f i = (s f).1 ((r f).0 i)
given_once building n ms points others r s f i = piece_once n ms points others r s f i

-- and no others are, since a list that ascends is determined by what is in it
pub points_exactly : (q : Question) (n : ℕ) (ms : List Mark) (points : List ℕ) → passes q n ms ≡ true
    → (points ≡ points_for q n ms) ↔ ArePoints q n ms points
points_exactly q n ms points checked = (λ e. subst (ArePoints q n ms) (sym e) found, λ are. are.ascending ∙ same are ∙ sym found.ascending)
  where
    found : ArePoints q n ms (points_for q n ms)
    found = record { ascending = points_ascending q n ms; given = points_given q n ms checked }

    same : ArePoints q n ms points → keep (λ e. elem e points) (evaluations n) ≡ keep (λ e. elem e (points_for q n ms)) (evaluations n)
    same are =
        ap (λ (p : ℕ → Bool). keep p (evaluations n))
        (fun_ext (λ e. elem_same e points (points_for q n ms) (given_once q n ms points (points_for q n ms) are.given found.given e)
        (given_once q n ms (points_for q n ms) points found.given are.given e)))
