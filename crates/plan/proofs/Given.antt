-- The plan that is given is a plan in words, and its floor is that of the row's marks: its points are kept from the evaluations
-- in their order, and being unseparated is reflexive and symmetric on them, so the contacts of pairs say it whole. What is
-- proved of the first row is then so of the plan. Assumes nothing.
use mathlib.Core.Path.{◌≡◌, refl, sym, ap, ◌∙◌, subst}
use mathlib.Core.Bool.{Bool, true, false, not, cond}
use mathlib.Core.Logic.{◌↔◌, ⊎_elim}
use mathlib.Core.List.{List, [], ◌∷◌, map, map-eq-nil_iff}
use Prim.Native.Nat.{ℕ, zero, suc, ◌+◌, ◌-◌, ◌*◌, ◌/◌, ◌^◌, ◌≤◌, ◌<◌}
use native.Mathlib.Omega.{arith}
use native.Mathlib.Nat.{mul-suc, suc-mul, mul-le-mul}
use lib.ListN.{length, get_or, length-append, length-map}
use lib.Pow.{pow_mono}
use Rattle.lists.proofs.Below.{collect_small, keep_length}
use Rattle.lists.proofs.Search.{first_short}
use Rattle.lists.proofs.Truth.{side}
use Rattle.lists.proofs.Lists.{map_one}
use Rattle.formula.specs.Formula.{Formula, Name}
use Rattle.lists.specs.Search.{keep, collect, from, below, elem}
use Rattle.contact.specs.Meaning.{Floor, meets_all}
use Rattle.contact.specs.Question.{Question, plain, Counts, NoFloor}
use Rattle.contact.specs.Numbering.{names_of, map_atom, different_atoms, numbered_atoms, row_atoms, number_of}
use Rattle.contact.specs.Row.{Row, Realises, is}
use Rattle.contact.specs.Plan.{Mark, row_marks, separated}
use Rattle.contact.specs.Check.{passes, given_by, points_for, rows, good, first_row, first_row_of}
use Rattle.contact.proofs.Floors.{marks_floor, points_some, plan_points, plan_touch, plan_lies, points_exactly}
use Rattle.contact.proofs.Answer.{first_good, row_floor, row_counts, plan_gives_row}
use Rattle.contact.proofs.Naming.{numbers_count, numbers_row, row_meets, first_row_named, first_row_only_named, no_plan_named}
use Rattle.contact.proofs.Count.{points_at_most, points_room, points_room_named}
use Rattle.contact.proofs.SameFloor.{SameFloor, same_back, row_same, counts_same}
use Rattle.plan.specs.Words.{Plan, Ascends, IsPlan, last_word, before, words_of}
use Rattle.evalset.specs.Sets.{room}
use Rattle.evalset.specs.Most.{most}
use Rattle.evalset.proofs.Members.{keep_names}
use Rattle.plan.specs.Floor.{lies_in, plan_floor, named_floor}
use Rattle.plan.specs.Links.{pair_of, row_to, links_to}
use Rattle.plan.specs.Arrays.{points_plan}
use Rattle.plan.specs.Given.{given_plan, IsRowPlan}
use Rattle.plan.specs.Plans.{row_plan, plans_of}
use Rattle.plan.proofs.Complete.{before_length}
use Rattle.plan.proofs.Contacts.{pair_early, pair_small, links_rise}
use Rattle.plan.proofs.Judged.{few_points}
use Rattle.plan.proofs.SamePlan.{links_kept}
use Rattle.plan.specs.Meant.{IsGiven}

-- ---- the plan of marks
-- what is kept of a rising run ascends
keep_ascends : (p : ℕ → Bool) (low k n high : ℕ) → low ≤ k → k + n ≤ high → Ascends low high (keep p (from k n))
keep_ascends p low k zero high h l = tt
keep_ascends p low k (suc n) high h l = go (p k) (λ least m. keep_ascends p least (suc k) n high m (omega arith))
  where
    go : (b : Bool) → ((least : ℕ) → least ≤ suc k → Ascends least high (keep p (from (suc k) n)))
        → Ascends low high (cond b (k ∷ keep p (from (suc k) n)) (keep p (from (suc k) n)))
    go true f = (h, omega arith, f (suc k) (omega arith))
    go false f = f low (omega arith)

-- the plan of a set of evaluations that the names reach is a plan, whatever is apart
pub set_plan : (names : ℕ) (given : ℕ → Bool) (apart : ℕ → ℕ → Bool) → names ≤ most → ((e : ℕ) → given e ≡ true → e < 2 ^ names)
    → 0 < length (keep given (below room)) → IsPlan (points_plan names given apart)
unfolding points_plan
set_plan names given apart few low some =
    let cut : keep given (below room) ≡ keep given (below (2 ^ names)) = keep_names given names few low in
    record {
      few = few;
      some = some;
      ascend = subst (Ascends 0 (2 ^ names)) (sym cut) (keep_ascends given 0 0 (2 ^ names) (2 ^ names) (omega arith) (omega arith));
      rise = links_rise _ _ _ (omega (arith, ap length cut, keep_length given (2 ^ names), pow_mono few));
    }

module _ (q : Question) (n : ℕ) (ms : List Mark) where
  points_ascend : Ascends 0 (2 ^ n) (points_for q n ms)
  unfolding points_for
  points_ascend = keep_ascends (λ e. elem e (given_by q n ms)) 0 0 (2 ^ n) (2 ^ n) (omega arith) (omega arith)

  module _ (checked : passes q n ms ≡ true) where
    -- marks that pass the check have a plan in words
    marks_plan : n ≤ most → IsPlan (given_plan n ms (points_for q n ms))
    unfolding given_plan
    marks_plan few =
        record {
          few = few;
          some = points_some q n ms checked;
          ascend = points_ascend;
          rise = links_rise (length (points_for q n ms)) (length (points_for q n ms)) _ (omega (arith, points_room q n ms, pow_mono few));
        }

    abbrev floor : Floor ℕ
    floor = marks_floor q n ms checked

    abbrev unseparated : ℕ → ℕ → Bool
    unseparated a b = not (separated ms (get_or (points_for q n ms) a 0) (get_or (points_for q n ms) b 0))

    unseparated_reflexive : (a : ℕ) → a < length (points_for q n ms) → unseparated a a ≡ true
    unseparated_reflexive a l =
        sym (plan_touch q n ms checked a a) ∙ floor.reflexive a (omega (arith, plan_points q n ms checked))

    unseparated_symmetric : (a b : ℕ) → a < length (points_for q n ms) → b < length (points_for q n ms) → unseparated a b ≡ true
        → unseparated b a ≡ true
    unseparated_symmetric a b l m e =
        sym (plan_touch q n ms checked b a)
        ∙ floor.symmetric a b (omega (arith, plan_points q n ms checked)) (omega (arith, plan_points q n ms checked))
        (plan_touch q n ms checked a b ∙ e)

    -- its floor is that of the marks
    marks_same : (h : IsPlan (given_plan n ms (points_for q n ms))) → SameFloor (plan_floor (given_plan n ms (points_for q n ms)) h) floor
    unfolding given_plan plan_floor lies_in
    marks_same h =
        record {
          points = sym (plan_points q n ms checked);
          touch = λ a b l m.
              links_kept (length (points_for q n ms)) (omega (arith, few_points (given_plan n ms (points_for q n ms)) h)) unseparated unseparated_reflexive
              unseparated_symmetric (given_plan n ms (points_for q n ms)) refl a b l m
              ∙ sym (plan_touch q n ms checked a b);
          lies = λ i a l. sym (plan_lies q n ms checked i a);
        }

-- ---- the plan of the first row
module _ (q : Question) (rules : List (Formula Name)) (row : Row) (found : first_row_of q rules ≡ row ∷ []) where
  abbrev marks : List Mark
  marks = row_marks (row_atoms rules) row

  abbrev checked : passes q (length (names_of rules)) marks ≡ true
  checked = (first_good q (length (names_of rules)) (row_atoms rules) (numbered_atoms rules) row found).checked

  -- that is found is the one that is meant
  pub row_plan_exactly : (p : Plan) → (p ≡ row_plan q rules row) ↔ IsRowPlan q rules row p
  unfolding row_plan given_plan
  row_plan_exactly p = (
    λ e. subst (IsRowPlan q rules row) (sym e)
        (record { points = (points_exactly q (length (names_of rules)) marks _ checked).0 refl; is = refl }),
    λ r. r.is ∙ ap (given_plan (length (names_of rules)) marks) ((points_exactly q (length (names_of rules)) marks p.points checked).1 r.points),
  )

  -- is a plan
  pub given_is_plan : length (names_of rules) ≤ most → IsPlan (row_plan q rules row)
  unfolding row_plan
  given_is_plan few = marks_plan q (length (names_of rules)) marks checked few

  module _ (h : IsPlan (row_plan q rules row)) where
    abbrev floor_found : Floor ℕ
    floor_found = row_floor q (length (names_of rules)) (row_atoms rules) (numbered_atoms rules) row found

    same : SameFloor (plan_floor (row_plan q rules row) h) floor_found
    unfolding row_plan
    same = marks_same q (length (names_of rules)) marks checked h

    -- counts
    pub given_counts : Counts q (names_of rules) (named_floor rules (row_plan q rules row) h)
    given_counts =
        numbers_count rules q (plan_floor (row_plan q rules row) h)
        (counts_same floor_found (plan_floor (row_plan q rules row) h) (same_back (plan_floor (row_plan q rules row) h) floor_found same) q (below (length (names_of rules)))
        (row_counts q (length (names_of rules)) (row_atoms rules) (numbered_atoms rules) row found))

    -- gives the atoms the row
    pub given_row : Realises (named_floor rules (row_plan q rules row) h) (different_atoms rules) row
    given_row =
        numbers_row rules (plan_floor (row_plan q rules row) h)
        ∙ row_same (plan_floor (row_plan q rules row) h) floor_found same (row_atoms rules)
        ∙ plan_gives_row q (length (names_of rules)) (row_atoms rules) (numbered_atoms rules) row found

    -- and meets the rules
    pub given_meets : meets_all (named_floor rules (row_plan q rules row) h) rules ≡ true
    given_meets = row_meets rules (named_floor rules (row_plan q rules row) h) row given_row (first_row_named q rules row found).makes

-- ---- the plans of rules are none or one
module _ (q : Question) (rules : List (Formula Name)) where
  -- none exactly if no floor that counts meets the rules
  pub no_plan_given : (plans_of q rules ≡ []) ↔ NoFloor q rules
  unfolding plans_of
  no_plan_given = (
    λ e. (no_plan_named q rules).0 ((map-eq-nil_iff (row_plan q rules)).0 e),
    λ none. ap (map (row_plan q rules)) ((no_plan_named q rules).1 none),
  )

  -- the plan that is meant is that of the row found
  pub given_found : (p : Plan) → IsGiven q rules p → (row : Row) × (first_row_of q rules ≡ row ∷ []) × (p ≡ row_plan q rules row)
  given_found p g =
      let found = first_row_only_named q rules g.row g.first in
      (g.row, found, (row_plan_exactly q rules g.row found p).1 g.is)

  -- one exactly if it is the plan of the first realisable row that makes the rules true
  pub given_exactly : (p : Plan) → (plans_of q rules ≡ p ∷ []) ↔ IsGiven q rules p
  unfolding plans_of
  given_exactly p = (
    λ e. let r = map_one (row_plan q rules) _ p e in
        record { row = r.0; first = first_row_named q rules r.0 r.1; is = (row_plan_exactly q rules r.0 r.1 p).0 r.2 },
    λ g. let r = given_found p g in ap (map (row_plan q rules)) r.1 ∙ ap (λ (r : Plan). r ∷ []) (sym r.2),
  )

  -- and no more
  pub given_at_most_one : length (plans_of q rules) ≤ 1
  unfolding plans_of first_row
  given_at_most_one =
      omega (
        arith,
        length-map (first_row_of q rules) (row_plan q rules),
        first_short (good q (length (names_of rules)) (row_atoms rules) (numbered_atoms rules)) (rows (length (row_atoms rules))),
      )

-- ---- how many points and words
-- the contacts of position i are with later ones
row_count : (i : ℕ) (row : ℕ → Bool) (k n : ℕ) → length (collect (λ j. pair_of i j row) (from k n)) ≤ k + n - suc i
row_count i row k zero = omega arith
row_count i row k (suc n) =
    ⊎_elim
    (λ l. omega (
      arith,
      length-append (pair_of i k row) (collect (λ j. pair_of i j row) (from (suc k) n)),
      pair_small i k row,
      collect_small (λ j. pair_of i j row) 1 (λ j. pair_small i j row) (suc k) n,
    ))
    (λ l. rw (pair_early i k row l) (omega (arith, row_count i row (suc k) n)))
    (side i k)

-- so n points have at most n(n - 1)/2 contacts
pub links_count : (rows : ℕ → ℕ → Bool) (size k n : ℕ) → k + n ≡ size
    → 2 * length (collect (λ i. row_to size i (rows i)) (from k n)) ≤ n * (n - 1)
unfolding row_to
links_count rows size k zero e = omega arith
links_count rows size k (suc n) e =
    omega (
      arith,
      squares n,
      length-append (row_to size k (rows k)) (collect (λ i. row_to size i (rows i)) (from (suc k) n)),
      row_count k (rows k) 0 size,
      links_count rows size (suc k) n (omega arith),
    )
  where
    squares : (m : ℕ) → m * (m - 1) + 2 * m ≡ suc m * (suc m - 1)
    squares zero = omega arith
    squares (suc m) =
        let y : suc m - 1 ≡ m = omega arith in
        let z : suc (suc m) - 1 ≡ suc m = omega arith in
        rw (y, z) (omega (arith, suc-mul (suc m) (suc m), mul-suc (suc m) m))

-- 32 points, 530 words: the first, one a point, one a pair of points, the last
words_at_most : (p : ℕ) → p ≤ 32 → 1 + p + p * (p - 1) / 2 + 1 ≤ 530
words_at_most p h =
    let low : p - 1 ≤ 31 = omega arith in
    let pairs : p * (p - 1) ≤ 32 * 31 = mul-le-mul h low in
    omega arith

-- and 255 points, 32,642 words
words_room : (p : ℕ) → p ≤ 255 → 1 + p + p * (p - 1) / 2 + 1 ≤ 32642
words_room p h =
    let low : p - 1 ≤ 254 = omega arith in
    let pairs : p * (p - 1) ≤ 255 * 254 = mul-le-mul h low in
    omega arith

-- eight names, 255 points: with no names there is one
points_most : (q : Question) (n : ℕ) (ms : List Mark) → n ≤ most → length (points_for q n ms) ≤ 255
points_most q zero ms few = omega (arith, points_room q 0 ms)
points_most q (suc n) ms few = omega (arith, points_room_named q (suc n) ms (omega arith), pow_mono few)

module _ (q : Question) (rules : List (Formula Name)) (p : Plan) (e : plans_of q rules ≡ p ∷ []) where
  -- the plan is that of a row
  of_row : (P : Plan → Type 0) → ((row : Row) → P (row_plan q rules row)) → P p
  unfolding plans_of
  of_row P h = let r = map_one (row_plan q rules) (first_row_of q rules) p e in subst P (sym r.2) (h r.0)

  given_contacts : 2 * length p.contacts ≤ length p.points * (length p.points - 1)
  unfolding row_plan given_plan links_to
  given_contacts =
      of_row (λ r. 2 * length r.contacts ≤ length r.points * (length r.points - 1)) (λ row. links_count _ _ 0 _ (omega arith))

  words_count : length (words_of p) ≤ 1 + length p.points + length p.points * (length p.points - 1) / 2 + 1
  unfolding words_of
  words_count = omega (arith, length-append (before p) (last_word (length (before p)) ∷ []), before_length p, given_contacts)

  -- "One-building plans then have up to 255 points."
  pub room_points : length (names_of rules) ≤ most → length p.points ≤ 255
  unfolding row_plan given_plan
  room_points few =
      of_row (λ r. length r.points ≤ 255) (λ row. points_most q (length (names_of rules)) (row_marks (row_atoms rules) row) few)

  pub room_words : length (names_of rules) ≤ most → length (words_of p) ≤ 32642
  room_words few = omega (arith, words_count, words_room (length p.points) (room_points few))

module _ (rules : List (Formula Name)) (few : length (different_atoms rules) ≤ 16) (p : Plan) (e : plans_of plain rules ≡ p ∷ []) where
  -- 16 atoms, 32 points
  pub given_points : length p.points ≤ 32
  unfolding row_plan given_plan
  given_points =
      let atoms : length (row_atoms rules) ≤ 16 = omega (arith, length-map (different_atoms rules) (map_atom (number_of rules))) in
      of_row plain rules p e (λ r. length r.points ≤ 32)
      (λ row. points_at_most (length (names_of rules)) (row_atoms rules) (map is row) atoms)

  -- "An answered plan takes at most 530 words."
  pub given_words : length (words_of p) ≤ 530
  given_words = omega (arith, words_count plain rules p e, words_at_most (length p.points) given_points)
