-- The pieces of the allowed evaluations. A set grows until it is closed, since each time before it has one evaluation more: so
-- the piece of e is what is linked with e, and links lead both ways and on. Assumes nothing.
use mathlib.Core.Bool.{Bool, true, false, not, and-eq-true_iff}
use mathlib.Core.Path.{◌≡◌, sym, ap, subst}
use mathlib.Core.List.{List, [], ◌∷◌}
use mathlib.Mathlib.Data.Bool.Basic.{and_intro, eq-false_of_not-eq-true, partial_order_laws}
use Prim.Native.Nat.{ℕ, zero, suc, ◌≤◌, ◌<◌, ◌^◌}
use native.Mathlib.Omega.{arith}
use lib.ListN.{length}
use borrow.Author.Tests.{not-true, not-false}
use Rattle.lists.specs.Search.{In, here, any, all, keep, elem}
use Rattle.lists.proofs.Search.{in_one, any_intro, any_elim, none_elim, all_intro, keep_intro, keep_elim, keep_shorter, keep_less, place, below_intro, elem_intro, elem_elim}
use Rattle.lists.proofs.Truth.{clash, cases}
use Rattle.contact.specs.Plan.{Mark, evaluations, separated, allowed, Linked, start, onward, IsPiece, met, MeetsMarks}
use Rattle.contact.specs.Pieces.{allowed_ones, grown, grown_by, whole_piece, piece_meets, check_pieces}
use Rattle.contact.proofs.Realise.{separated_symmetric, allowed_elim, allowed_below}

-- ---- a set that grows

module _ (ms : List Mark) (es : List ℕ) where
  -- a set of es, and one that has all of es that are unseparated from its own
  abbrev Within : List ℕ → Type 0
  Within set = (f : ℕ) → In f set → In f es

  abbrev Closed : List ℕ → Type 0
  Closed set = (f g : ℕ) → In f set → In g es → separated ms f g ≡ false → In g set

  abbrev near_to : List ℕ → ℕ → Bool
  near_to set f = any (λ e. not (separated ms e f)) set

  grown_intro : (set : List ℕ) (f g : ℕ) → In f set → In g es → separated ms f g ≡ false → In g (grown ms es set)
  unfolding grown
  grown_intro set f g i j s = keep_intro (near_to set) j (any_intro (λ e. not (separated ms e g)) i (ap not s))

  grown_elim : (set : List ℕ) (g : ℕ) → In g (grown ms es set) → In g es × ((f : ℕ) × In f set × (separated ms f g ≡ false))
  unfolding grown
  grown_elim set g i =
      let r = keep_elim (near_to set) es i in
      let s = any_elim (λ e. not (separated ms e g)) set r.1 in
      (r.0, (s.0, s.1, not-true _ s.2))

  -- what is closed stays so
  closed_grown : (set : List ℕ) → Closed set → Closed (grown ms es set)
  closed_grown set closed f g i j s =
      let r = grown_elim set f i in
      grown_intro set f g (closed r.1.0 f r.1.1 r.0 r.1.2) j s

  closed_by : (k : ℕ) (set : List ℕ) → Closed set → Closed (grown_by ms es k set)
  unfolding grown_by
  closed_by zero set closed = closed
  closed_by (suc k) set closed = closed_by k (grown ms es set) (closed_grown set closed)

  abbrev missing : List ℕ → ℕ → Bool
  missing set f = not (elem f set)

  module _ (own : (e : ℕ) → In e es → separated ms e e ≡ false) where
    wider : (set : List ℕ) → Within set → (f : ℕ) → In f set → In f (grown ms es set)
    wider set within f i = grown_intro set f f i (within f i) (own f (within f i))

    within_grown : (set : List ℕ) → Within (grown ms es set)
    within_grown set f i = (grown_elim set f i).0

    wider_by : (k : ℕ) (set : List ℕ) → Within set → (f : ℕ) → In f set → In f (grown_by ms es k set)
    unfolding grown_by
    wider_by zero set within f i = i
    wider_by (suc k) set within f i = wider_by k (grown ms es set) (within_grown set) f (wider set within f i)

    -- what lacks at most k of es is closed when it has grown k times
    grown_closed : (k : ℕ) (set : List ℕ) → Within set → length (keep (missing set) es) ≤ k → Closed (grown_by ms es k set)
    unfolding grown_by
    grown_closed zero set within few =
        λ f g i j s.
        cases (elem g set) (λ h. elem_elim g set h)
        (λ h. let r = place 0 (keep_intro (missing set) j (ap not h)) in absurd (omega (arith, r.1)))
    grown_closed (suc k) set within few =
        cases (any (missing set) (grown ms es set))
        (λ h.
        let r = any_elim (missing set) (grown ms es set) h in
        let less : length (keep (missing (grown ms es set)) es) < length (keep (missing set) es) =
        keep_less (missing (grown ms es set)) (missing set)
        (λ f m. ap not (eq-false_of_not-eq-true (λ e. clash (elem_intro f (wider set within f (elem_elim f set e))) (not-true _ m))))
        es (within_grown set r.0 r.1) r.2 (ap not (elem_intro r.0 r.1)) in
        grown_closed k (grown ms es set) (within_grown set) (omega arith))
        (λ h. closed_by k (grown ms es set)
        (closed_grown set
        (λ f g i j s. elem_elim g set (not-false _ (none_elim (missing set) h (grown_intro set f g i j s))))))

-- ---- the piece of an evaluation

module _ (n : ℕ) (ms : List Mark) where
  -- what is allowed is one of the evaluations
  pub allowed_in : (e : ℕ) → allowed n ms e ≡ true → In e (evaluations n)
  allowed_in e h = below_intro (2 ^ n) e (allowed_below n ms e h)

  pub ones_intro : (e : ℕ) → allowed n ms e ≡ true → In e (allowed_ones n ms)
  unfolding allowed_ones
  ones_intro e h = keep_intro (allowed n ms) (allowed_in e h) h

  pub ones_elim : (e : ℕ) → In e (allowed_ones n ms) → allowed n ms e ≡ true
  unfolding allowed_ones
  ones_elim e i = (keep_elim (allowed n ms) (evaluations n) i).1

  abbrev unseparated_self : (e : ℕ) → In e (allowed_ones n ms) → separated ms e e ≡ false
  unseparated_self e i = (allowed_elim n ms e (ones_elim e i)).2

  -- links lead on, and back
  pub linked_on : {e f g : ℕ} → Linked n ms e f → Linked n ms f g → Linked n ms e g
  linked_on l start = l
  linked_on l (onward m a s) = onward (linked_on l m) a s

  pub linked_allowed : {e f : ℕ} → allowed n ms e ≡ true → Linked n ms e f → allowed n ms f ≡ true
  linked_allowed h start = h
  linked_allowed h (onward l a s) = a

  pub linked_back : {e f : ℕ} → allowed n ms e ≡ true → Linked n ms e f → Linked n ms f e
  linked_back h start = start
  linked_back h (onward {f} {g} l a s) =
      linked_on (onward start (linked_allowed h l) (eq-false_of_not-eq-true (λ k. clash (separated_symmetric ms g f k) s)))
      (linked_back h l)

  -- every evaluation of the piece is linked with e
  linked_by : (e k : ℕ) (set : List ℕ) → ((f : ℕ) → In f set → Linked n ms e f) → (f : ℕ) → In f (grown_by ms (allowed_ones n ms) k set)
      → Linked n ms e f
  unfolding grown_by
  linked_by e zero set h f i = h f i
  linked_by e (suc k) set h f i =
      linked_by e k (grown ms (allowed_ones n ms) set)
      (λ g j. let r = grown_elim ms (allowed_ones n ms) set g j in onward (h r.1.0 r.1.1) (ones_elim g r.0) r.1.2) f i

  pub piece_elim : (e f : ℕ) → In f (whole_piece n ms e) → Linked n ms e f
  unfolding whole_piece
  piece_elim e f i =
      linked_by e _ (e ∷ []) (λ g j. subst (Linked n ms e) (sym (in_one j)) start) f i

  module _ (e : ℕ) (ok : allowed n ms e ≡ true) where
    alone : (f : ℕ) → In f (e ∷ []) → In f (allowed_ones n ms)
    alone f i = subst (λ (g : ℕ). In g (allowed_ones n ms)) (sym (in_one i)) (ones_intro e ok)

    piece_closed : Closed ms (allowed_ones n ms) (whole_piece n ms e)
    unfolding whole_piece
    piece_closed =
        grown_closed ms (allowed_ones n ms) unseparated_self (length (allowed_ones n ms)) (e ∷ []) alone
        (keep_shorter (missing ms (allowed_ones n ms) (e ∷ [])) (allowed_ones n ms))

    pub piece_own : In e (whole_piece n ms e)
    unfolding whole_piece
    piece_own = wider_by ms (allowed_ones n ms) unseparated_self _ (e ∷ []) alone e here

    -- and what is linked with it is in the piece
    pub piece_intro : {f : ℕ} → Linked n ms e f → In f (whole_piece n ms e)
    piece_intro start = piece_own
    piece_intro (onward {f} {g} l a s) = piece_closed f g (piece_intro l) (ones_intro g a) s

    -- so it is the piece that e lies in
    pub piece_is : IsPiece n ms e (whole_piece n ms e)
    piece_is = record { ok = ok; whole = λ f. (piece_elim e f, λ l. piece_intro l) }

    pub piece_allowed : (f : ℕ) → In f (whole_piece n ms e) → allowed n ms f ≡ true
    piece_allowed f i = linked_allowed ok (piece_elim e f i)

  -- the test of a piece, taken apart and put together
  pub meets_elim : (e : ℕ) → piece_meets n ms e ≡ true → (allowed n ms e ≡ true) × (all (met ms (whole_piece n ms e)) ms ≡ true)
  unfolding piece_meets
  meets_elim e h = (and-eq-true_iff (allowed n ms e) (all (met ms (whole_piece n ms e)) ms)).0 h

  pub meets_intro : (e : ℕ) → allowed n ms e ≡ true → MeetsMarks ms (whole_piece n ms e) → check_pieces n ms ≡ true
  unfolding check_pieces piece_meets
  meets_intro e ok h =
      any_intro (piece_meets n ms) (allowed_in e ok) (and_intro ok (all_intro (met ms (whole_piece n ms e)) ms h))

-- a set that has e, has only what is linked with e, and is closed is the piece of e: what a loop that grows a set ends with
pub piece_unique : (n : ℕ) (ms : List Mark) (e : ℕ) → allowed n ms e ≡ true → (set : ℕ → Bool) → set e ≡ true
    → ((f : ℕ) → set f ≡ true → Linked n ms e f)
    → ((f g : ℕ) → set f ≡ true → allowed n ms g ≡ true → separated ms f g ≡ false → set g ≡ true)
    → (f : ℕ) → set f ≡ elem f (whole_piece n ms e)
piece_unique n ms e ok set own linked closed f =
    partial_order_laws.le_antisymm (set f) (elem f (whole_piece n ms e))
    (λ h. elem_intro f (piece_intro n ms e ok (linked f h)))
    (λ h. walk (piece_elim n ms e f (elem_elim f (whole_piece n ms e) h)))
  where
    walk : {g : ℕ} → Linked n ms e g → set g ≡ true
    walk start = own
    walk (onward {f} {g} l a s) = closed f g (walk l) a s
