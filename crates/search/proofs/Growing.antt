-- The piece of an evaluation as a set that grows: all in it is linked with the evaluation, and whoever was looked at has brought in what is
-- unseparated from it. When each was looked at the set is closed, so it is the piece (`piece_unique` of contact). Assumes nothing.
use mathlib.Core.Bool.{Bool, true, false, not, ◌&&◌, and-eq-true_iff}
use mathlib.Core.Path.{◌≡◌, refl, sym, ap, ◌∙◌, subst}
use mathlib.Core.Logic.{⊎_elim}
use mathlib.Core.List.{List}
use mathlib.Mathlib.Data.Bool.Basic.{and_intro, or_inl, or_inr}
use mathlib.Mathlib.Logic.Function.Defs.{congr_fun}
use Prim.Native.Nat.{ℕ, ◌^◌, ◌≤◌, ◌<◌}
use native.Mathlib.Omega.{arith}
use lib.Dec.{ltb, eqb}
use lib.ListN.{length}
use borrow.Author.Tests.{not-true, eqb-true, eq-eqb}
use Rattle.lists.specs.Search.{keep, below, elem}
use Rattle.lists.proofs.Search.{keep_less, below_intro}
use Rattle.lists.proofs.Truth.{clash, cases, or_cases}
use Rattle.evalset.specs.Sets.{room, mem, none_of, join_of, minus_of, add_of}
use Rattle.evalset.specs.Most.{most}
use Rattle.evalset.proofs.Members.{names_room, add_in}
use Rattle.squares.specs.Square.{square_at}
use Rattle.contact.specs.Plan.{Mark, separated, allowed, Linked, start, onward}
use Rattle.contact.specs.Pieces.{whole_piece}
use Rattle.contact.proofs.Claims as contact
use Rattle.contact.proofs.Pieces.{linked_allowed}
use Rattle.search.specs.Compiled.{State, Fit}
use Rattle.search.proofs.Fitting.{allowed_low}

-- ---- one more

add_self : (set : ℕ → Bool) (e : ℕ) → e < room → add_of set e e ≡ true
add_self set e l = add_in set e l e ∙ or_inr (set e) (eqb e e) (eq-eqb e e refl)

pub add_own : (set : ℕ → Bool) (e : ℕ) → set ≡ add_of none_of e → e < room → set e ≡ true
add_own set e h l = congr_fun h e ∙ add_self none_of e l

pub join_own : (set near : ℕ → Bool) (e : ℕ) → set e ≡ true → join_of set near e ≡ true
join_own set near e h = or_inl (set e) (near e) h

pub fresh : (piece looked : ℕ → Bool) (p : ℕ) → minus_of piece looked p ≡ true → (piece p ≡ true) × (looked p ≡ false)
fresh piece looked p h = let w = (and-eq-true_iff (piece p) (not (looked p))).0 h in (w.0, not-true _ w.1)

added : (e g : ℕ) → (ltb e room && eqb g e) ≡ true → g ≡ e
added e g h = eqb-true g e ((and-eq-true_iff (ltb e room) (eqb g e)).0 h).1

-- ---- how many were not looked at

abbrev pub unseen : (ℕ → Bool) → ℕ
unseen looked = length (keep (λ f. not (looked f)) (below room))

pub unseen_less : (looked : ℕ → Bool) (p : ℕ) → p < room → looked p ≡ false → unseen (add_of looked p) < unseen looked
unseen_less looked p l h =
    keep_less (λ f. not (add_of looked p f)) (λ f. not (looked f))
    (λ f k. cases (looked f) (λ t. clash (or_inl (looked f) (ltb p room && eqb f p) t) (not-true _ k)) (λ t. ap not t))
    (below room) (below_intro room p l) (ap not h) (ap not (add_self looked p l))

-- ---- the set that grows

pub record Growing (n : ℕ) (ms : List Mark) (e : ℕ) (piece looked : ℕ → Bool) : Type 0 where
  pub linked : (g : ℕ) → piece g ≡ true → Linked n ms e g
  pub closed : (g h : ℕ) → looked g ≡ true → allowed n ms h ≡ true → separated ms g h ≡ false → piece h ≡ true

pub grow_start : (n : ℕ) (ms : List Mark) (e : ℕ) → Growing n ms e (add_of none_of e) none_of
grow_start n ms e =
    record {
      linked = λ g h. subst (Linked n ms e) (sym (added e g h)) start;
      closed = λ g h k. clash k refl;
    }

module _ (n : ℕ) (few : n ≤ most) (s : State) (ms : List Mark) (f : Fit n s ms) (e : ℕ) (ok : allowed n ms e ≡ true) where
  low : {piece looked : ℕ → Bool} → Growing n ms e piece looked → (g : ℕ) → piece g ≡ true → g < 2 ^ n
  low so_far g h = allowed_low n ms g (linked_allowed n ms ok (so_far.linked g h))

  -- p of the piece is looked at
  module _ (piece looked : ℕ → Bool) (so_far : Growing n ms e piece looked) (p : ℕ) (here : piece p ≡ true) where
    abbrev near : ℕ → Bool
    near = minus_of (mem s.allowed) (square_at s.rows p)

    brought : (h : ℕ) → allowed n ms h ≡ true → separated ms p h ≡ false → near h ≡ true
    brought h a q =
        and_intro (congr_fun f.allowed_is h ∙ a)
        (ap not (f.rows_are p h (low so_far p here) (allowed_low n ms h a) ∙ q))

    pub grow_on : Growing n ms e (join_of piece near) (add_of looked p)
    grow_on =
        record {
          linked = λ g h. ⊎_elim (so_far.linked g) (reached g) (or_cases (piece g) (near g) h);
          closed = λ g h k a q.
              ⊎_elim (λ t. or_inl (piece h) (near h) (so_far.closed g h t a q))
              (λ t. or_inr (piece h) (near h) (brought h a (ap (λ (d : ℕ). separated ms d h) (sym (added p g t)) ∙ q)))
              (or_cases (looked g) (ltb p room && eqb g p) k);
        }
      where
        reached : (g : ℕ) → near g ≡ true → Linked n ms e g
        reached g h =
            let w = (and-eq-true_iff (mem s.allowed g) (not (square_at s.rows p g))).0 h in
            let a : allowed n ms g ≡ true = congr_fun (sym f.allowed_is) g ∙ w.0 in
            onward (so_far.linked p here) a
            (sym (f.rows_are p g (low so_far p here) (allowed_low n ms g a)) ∙ not-true _ w.1)

  -- each of the piece was looked at
  pub grow_ends : (piece looked : ℕ → Bool) → Growing n ms e piece looked → piece e ≡ true
      → ((d : ℕ) → d < room → minus_of piece looked d ≡ false) → (g : ℕ) → piece g ≡ elem g (whole_piece n ms e)
  grow_ends piece looked so_far own none =
      contact.piece_unique n ms e ok piece own so_far.linked (λ g h k a q. so_far.closed g h (seen g k) a q)
    where
      seen : (g : ℕ) → piece g ≡ true → looked g ≡ true
      seen g k =
          cases (looked g) (λ t. t)
          (λ t. clash (and_intro k (ap not t)) (none g (omega (arith, low so_far g k, names_room n few))))
