-- The first piece that meets the marks. Of what is allowed, whatever is no longer left lies in a piece that does not meet them, since two
-- evaluations of one piece have the same piece; so the least that is left is the least that may. Assumes nothing.
use mathlib.Core.Bool.{Bool, true, false, not, ◌&&◌, and-false, and-eq-true_iff}
use mathlib.Core.Path.{◌≡◌, refl, sym, ap, ◌∙◌}
use mathlib.Core.List.{List, append-nil}
use mathlib.Mathlib.Data.Bool.Basic.{and_intro, eq-false_of_not-eq-true}
use mathlib.Mathlib.Logic.Function.Defs.{congr_fun}
use Prim.Native.Nat.{ℕ, ◌^◌, ◌≤◌, ◌<◌}
use native.Mathlib.Omega.{arith}
use lib.ListN.{length}
use borrow.Author.Tests.{eq-eqb}
use lib.Dec.{eqb}
use Rattle.lists.specs.Search.{In, all, keep, collect, below, elem}
use Rattle.lists.proofs.Search.{all_intro, all_elim, keep_less, below_intro, elem_elim}
use Rattle.lists.proofs.Below.{Least, first_at, first_none_below, any_at, any_none}
use Rattle.lists.proofs.Truth.{clash, cases}
use Rattle.std.specs.Prelude.{Option, None, Some}
use Rattle.std.specs.Option.{unwrap_or}
use Rattle.evalset.specs.declared.EvalSet.{EvalSet}
use Rattle.evalset.specs.Sets.{room, mem, none_of, minus_of, drop_of}
use Rattle.evalset.specs.Most.{most}
use Rattle.evalset.proofs.Members.{names_room}
use Rattle.contact.specs.Plan.{Mark, allowed, met}
use Rattle.contact.specs.Pieces.{whole_piece, piece_meets, check_pieces, piece_given}
use Rattle.contact.proofs.Fewer.{met_fewer}
use Rattle.contact.proofs.Pieces.{linked_on, piece_elim, piece_intro, meets_elim}
use Rattle.search.specs.Building.{mem_of, FirstPiece}
use Rattle.search.proofs.Fitting.{allowed_low}

-- how many are left: fewer, once a piece with one of them is taken out
abbrev pub left_over : (ℕ → Bool) → ℕ
left_over left = length (keep left (below room))

pub left_less : (left piece : ℕ → Bool) (e : ℕ) → e < room → left e ≡ true → piece e ≡ true → left_over (minus_of left piece) < left_over left
left_less left piece e l h k =
    keep_less (minus_of left piece) left (λ d t. ((and-eq-true_iff (left d) (not (piece d))).0 t).0) (below room) (below_intro room e l) h
    (ap (λ (b : Bool). left e && not b) k ∙ and-false (left e))

-- or one of them
pub left_drop : (left : ℕ → Bool) (e : ℕ) → e < room → left e ≡ true → left_over (drop_of left e) < left_over left
left_drop left e l h = left_less left (λ d. eqb d e) e l h (eq-eqb e e refl)

-- what is left is allowed, and of the others no piece meets the marks
pub record Sought (n : ℕ) (ms : List Mark) (left : ℕ → Bool) : Type 0 where
  pub within : (d : ℕ) → left d ≡ true → allowed n ms d ≡ true
  pub failed : (d : ℕ) → allowed n ms d ≡ true → left d ≡ false → piece_meets n ms d ≡ false

-- a set, or the empty set where there is none
pub or_empty : (r : Option EvalSet) (s : EvalSet) → mem s ≡ none_of → (e : ℕ) → mem (unwrap_or r s) e ≡ mem_of r e
or_empty None s h e = congr_fun h e
or_empty (Some x) s h e = refl

module _ (n : ℕ) (ms : List Mark) where
  pub sought_start : (left : ℕ → Bool) → left ≡ allowed n ms → Sought n ms left
  sought_start left h =
      record {
        within = λ d t. congr_fun (sym h) d ∙ t;
        failed = λ d a t. clash (congr_fun h d ∙ a) t;
      }

  -- what is not allowed has no piece
  pub forbidden : (d : ℕ) → allowed n ms d ≡ false → piece_meets n ms d ≡ false
  unfolding piece_meets
  forbidden d h = ap (λ (b : Bool). b && all (met ms (whole_piece n ms d)) ms) h

  -- two evaluations of one piece: the piece of the one meets the marks if that of the other does
  same_piece : (e d : ℕ) → allowed n ms e ≡ true → In d (whole_piece n ms e) → all (met ms (whole_piece n ms d)) ms ≡ true
      → all (met ms (whole_piece n ms e)) ms ≡ true
  same_piece e d ok i h =
      all_intro (met ms (whole_piece n ms e)) ms
      (λ m j. met_fewer n ms ms (λ k l. l) (whole_piece n ms d) (whole_piece n ms e)
      (λ f k. piece_intro n ms e ok (linked_on n ms (piece_elim n ms e d i) (piece_elim n ms d f k))) m
      (all_elim (met ms (whole_piece n ms d)) j h))

  module _ (left : ℕ → Bool) (so_far : Sought n ms left) where
    -- the piece of e does not meet the marks
    pub sought_on : (e : ℕ) (piece : ℕ → Bool) → allowed n ms e ≡ true → ((f : ℕ) → piece f ≡ elem f (whole_piece n ms e))
        → all (met ms (whole_piece n ms e)) ms ≡ false → Sought n ms (minus_of left piece)
    sought_on e piece ok same unmet =
        record {
          within = λ d t. so_far.within d ((and-eq-true_iff (left d) (not (piece d))).0 t).0;
          failed = λ d a t.
              cases (left d) (λ h. cases (piece d) (λ k. with_it d k) (λ k. clash (and_intro h (ap not k)) t)) (so_far.failed d a);
        }
      where
        with_it : (d : ℕ) → piece d ≡ true → piece_meets n ms d ≡ false
        with_it d k =
            eq-false_of_not-eq-true
            (λ h. clash (same_piece e d ok (elem_elim d (whole_piece n ms e) (sym (same d) ∙ k)) (meets_elim n ms d h).1) unmet)

    -- the least that is left has a piece that does
    pub sought_found : (e : ℕ) (piece : EvalSet) → Least room e left → ((f : ℕ) → mem piece f ≡ elem f (whole_piece n ms e))
        → all (met ms (whole_piece n ms e)) ms ≡ true → FirstPiece n ms (Some piece)
    unfolding check_pieces piece_given piece_meets
    sought_found e piece least same meets =
        let ok : allowed n ms e ≡ true = so_far.within e least.passes in
        let here : piece_meets n ms e ≡ true = and_intro ok meets in
        let first_is : Least (2 ^ n) e (piece_meets n ms) =
        record {
          within = allowed_low n ms e ok;
          passes = here;
          before = λ d l. cases (allowed n ms d) (λ a. so_far.failed d a (least.before d l)) (forbidden d);
        } in
        record {
          checked = sym (any_at (piece_meets n ms) (2 ^ n) e (allowed_low n ms e ok) here);
          given = λ f. same f
              ∙ sym (ap (λ (ps : List ℕ). elem f (collect (whole_piece n ms) ps)) (first_at (piece_meets n ms) (2 ^ n) e first_is)
              ∙ ap (elem f) (append-nil (whole_piece n ms e)));
        }

    -- none is left
    pub sought_none : n ≤ most → ((d : ℕ) → d < room → left d ≡ false) → FirstPiece n ms None
    unfolding check_pieces piece_given
    sought_none few none =
        record {
          checked = sym (any_none (piece_meets n ms) (2 ^ n) fails);
          given = λ f. sym (ap (λ (ps : List ℕ). elem f (collect (whole_piece n ms) ps)) (first_none_below (piece_meets n ms) (2 ^ n) fails));
        }
      where
        fails : (d : ℕ) → d < 2 ^ n → piece_meets n ms d ≡ false
        fails d l = cases (allowed n ms d) (λ a. so_far.failed d a (none d (omega (arith, names_room n few)))) (forbidden d)
