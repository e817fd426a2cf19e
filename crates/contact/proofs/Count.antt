-- The plain question's plan has at most max(1, 2c + z) points: each true contact gives at most two evaluations, each false zero atom at most
-- one, and an evaluation stands once among the points (lists' `keep_elems`). For each question the points are some of the evaluations.
-- Assumes nothing.
use mathlib.Core.Bool.{Bool, false}
use mathlib.Core.Path.{◌≡◌, sym, subst}
use mathlib.Core.List.{List, [], ◌∷◌}
use mathlib.Mathlib.Data.Bool.Basic.{eq-false_of_not-eq-true}
use Prim.Native.Nat.{ℕ, suc, ◌+◌, ◌-◌, ◌*◌, ◌≤◌, ◌<◌, max, ◌^◌}
use native.Mathlib.Omega.{arith}
use lib.ListN.{length, length-append}
use lib.Pow.{pow_pos}
use Rattle.formula.specs.Formula.{Term, Atom}
use Rattle.lists.specs.Search.{first, keep, collect, from, below, elem}
use Rattle.lists.proofs.Search.{first_short, or_else_length, collect_few, keep_shorter, keep_elems, from_length, elem_elim}
use Rattle.lists.proofs.Below.{keep_length}
use Rattle.contact.specs.Question.{Question, plain}
use Rattle.contact.specs.Row.{PartialRow, is, unknown}
use Rattle.contact.specs.Plan.{Mark, touching, apart, vacant, inhabited, marks_of, allowed, fills, partners, leads, evaluations, with_partner, gives, given, true_contacts, false_zeros}
use Rattle.contact.specs.Check.{given_by, points_for}
use Rattle.contact.proofs.Somewhere.{may_some}
use Rattle.contact.proofs.Realise.{allowed_elim}
use Rattle.contact.proofs.Floors.{given_allowed}

module _ (n : ℕ) (all : List Mark) where
  pair_short : (y : Term ℕ) (p : ℕ) → length (with_partner n all y p) ≤ 2
  pair_short y p = omega (arith, first_short (partners n all y p) (evaluations n))

  collect_gives : (ms : List Mark) → length (collect (gives n all) ms) ≤ 2 * true_contacts ms + false_zeros ms
  collect_gives [] = omega arith
  collect_gives (touching x y ∷ ms) =
      rw (length-append (gives n all (touching x y)) (collect (gives n all) ms))
      (omega (
        arith,
        collect_gives ms,
        collect_few (with_partner n all y) 2 (first (leads n all x y) (evaluations n)) (λ p i. pair_short y p),
        first_short (leads n all x y) (evaluations n),
      ))
  collect_gives (apart x y ∷ ms) = collect_gives ms
  collect_gives (vacant t ∷ ms) = collect_gives ms
  collect_gives (inhabited t ∷ ms) =
      rw (length-append (gives n all (inhabited t)) (collect (gives n all) ms))
      (omega (arith, collect_gives ms, first_short (fills n all t) (evaluations n)))

-- "With c true contacts and z false zero atoms there are at most max(1, 2 times c + z) points."
pub point_bound : (n : ℕ) (ms : List Mark) → length (points_for plain n ms) ≤ max 1 (2 * true_contacts ms + false_zeros ms)
unfolding points_for given
point_bound n ms =
    omega (
      arith,
      keep_elems (given n ms) 0 (2 ^ n),
      or_else_length (collect (gives n ms) ms) (first (allowed n ms) (evaluations n)) _ (collect_gives n ms ms) (first_short (allowed n ms) (evaluations n)),
    )

marks_count : (ms : List Mark) → true_contacts ms + false_zeros ms ≤ length ms
marks_count [] = omega arith
marks_count (touching x y ∷ ms) = omega (arith, marks_count ms)
marks_count (apart x y ∷ ms) = omega (arith, marks_count ms)
marks_count (vacant t ∷ ms) = omega (arith, marks_count ms)
marks_count (inhabited t ∷ ms) = omega (arith, marks_count ms)

marks_length : (atoms : List (Atom ℕ)) (part : PartialRow) → length (marks_of atoms part) ≤ length atoms
marks_length [] part = omega arith
marks_length (a ∷ atoms) [] = omega arith
marks_length (a ∷ atoms) (is b ∷ part) = omega (arith, marks_length atoms part)
marks_length (a ∷ atoms) (unknown ∷ part) = omega (arith, marks_length atoms part)

-- at most two points for each atom, or one
point_bound_atoms : (n : ℕ) (atoms : List (Atom ℕ)) (part : PartialRow)
    → length (points_for plain n (marks_of atoms part)) ≤ max 1 (2 * length atoms)
point_bound_atoms n atoms part =
    omega (arith, point_bound n (marks_of atoms part), marks_count (marks_of atoms part), marks_length atoms part)

-- 16 atoms, 32 points
pub points_at_most : (n : ℕ) (atoms : List (Atom ℕ)) (part : PartialRow) → length atoms ≤ 16
    → length (points_for plain n (marks_of atoms part)) ≤ 32
points_at_most n atoms part h = omega (arith, point_bound_atoms n atoms part)

-- for each question at most as many as there are evaluations
pub points_room : (q : Question) (n : ℕ) (ms : List Mark) → length (points_for q n ms) ≤ 2 ^ n
unfolding points_for
points_room q n ms = keep_length (λ e. elem e (given_by q n ms)) (2 ^ n)

-- and one fewer where a name is used, since 0 is not given: "a one-building plan now has at most 63 points"
pub points_room_named : (q : Question) (n : ℕ) (ms : List Mark) → 0 < n → length (points_for q n ms) ≤ 2 ^ n - 1
unfolding points_for
points_room_named q n ms some =
    let kept : ℕ → Bool = λ e. elem e (given_by q n ms) in
    let all : 2 ^ n ≡ suc (2 ^ n - 1) = omega (arith, pow_pos n) in
    let none : kept 0 ≡ false =
    eq-false_of_not-eq-true (λ h. let i = elem_elim 0 (given_by q n ms) h in
    let l = may_some n 0 some (allowed_elim n ms 0 (given_allowed q n ms 0 i)).0 in
    omega (arith, l)) in
    subst (λ (m : ℕ). length (keep kept (below m)) ≤ 2 ^ n - 1) (sym all)
    (rw none (omega (arith, keep_shorter kept (from 1 (2 ^ n - 1)), from_length 1 (2 ^ n - 1))))
