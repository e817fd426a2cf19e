-- The search that closes branches by a test finds the first row that passes: a sound test closes no branch with such a row
-- below it, an exact one leaves open no whole row that fails, and the branches are tried in the order of the rows. Both tests
-- are sound: Kleene's values do not change when more atoms are decided, and what passes the check does so with fewer marks.
-- Assumes nothing.
use mathlib.Core.Bool.{Bool, true, false, not, ◌&&◌, ◌||◌, beq, and-eq-true_iff}
use mathlib.Core.Path.{◌≡◌, refl, sym, ap, ap₂, ◌∙◌, subst, fun_ext}
use mathlib.Core.Logic.{⊎_elim}
use mathlib.Core.List.{List, [], ◌∷◌, ◌++◌, map, append_assoc, append-nil, map-map, map-id, map-append}
use mathlib.Mathlib.Data.Bool.Basic.{and_intro, eq-false_of_not-eq-true}
use Prim.Native.Nat.{ℕ, zero, suc, ◌+◌}
use native.Mathlib.Omega.{arith}
use lib.ListN.{length, get_or, length-append, length-map}
use borrow.Author.Tests.{not-true, not-false}
use Rattle.formula.specs.Formula.{Atom, Form, Formula, Name}
use Rattle.lists.specs.Search.{In, here, next, any, all, first, or_else}
use Rattle.lists.proofs.Search.{none_in, uncons, at_head, in_left, in_right, map_elim, any_elim, none_intro, all_elim, first_none, first_append}
use Rattle.lists.proofs.Truth.{clash, cases, or_cases, morgan}
use Rattle.lists.proofs.Lists.{map_at}
use Rattle.contact.specs.Meaning.{value}
use Rattle.formula.specs.Atoms.{atoms_of}
use Rattle.contact.specs.Question.{Question, plain}
use Rattle.contact.specs.Numbering.{all_atoms, names_of, number_of, map_atom, different_atoms, numbered_atoms, row_atoms}
use Rattle.contact.specs.Row.{Row, rules_true, Three, is, unknown, PartialRow, Extends}
use Rattle.contact.specs.Kleene.{kleene_not, kleene_and, kleene_or, kleene_iff, kleene_value, Fits}
use Rattle.contact.specs.Plan.{Mark, mark, marks_of, row_marks}
use Rattle.contact.specs.Check.{passes, rows, good, first_row, first_row_of}
use Rattle.contact.specs.Tableau.{Sound, Exact, refuted, refutes, closes, under, search}
use Rattle.contact.proofs.Numbered.{NumbersBelow, numbers_below}
use Rattle.contact.proofs.Strong
use Rattle.contact.proofs.Fewer.{passes_fewer, passes_plain}

-- ---- the search, for any test

pub extends_prefix : (row ext : Row) → Extends (row ++ ext) (map is row)
extends_prefix [] ext = tt
extends_prefix (b ∷ row) ext = (refl, extends_prefix row ext)

-- those with true next, then those with false
pub under_split : (row : Row) (d : ℕ) → under row (suc d) ≡ under (row ++ true ∷ []) d ++ under (row ++ false ∷ []) d
under_split row d =
    map-append (λ ext. row ++ ext) (map (λ s. true ∷ s) (rows d)) (map (λ s. false ∷ s) (rows d))
    ∙ ap₂ ◌++◌ (step true) (step false)
  where
    step : (b : Bool) → map (λ ext. row ++ ext) (map (λ s. b ∷ s) (rows d)) ≡ under (row ++ b ∷ []) d
    step b =
        map-map (λ ext. row ++ ext) (λ s. b ∷ s) (rows d)
        ∙ ap (λ (f : Row → Row). map f (rows d)) (fun_ext (λ ext. sym (append_assoc row (b ∷ []) ext)))

module _ (n : ℕ) (passes : Row → Bool) (test : PartialRow → Bool) (sound : Sound passes test) (exact : Exact n passes test) where
  -- a closed branch has no row that passes
  closed_none : (row : Row) (d : ℕ) → test (map is row) ≡ true → first passes (under row d) ≡ []
  closed_none row d h =
      first_none passes (under row d)
      (none_intro passes (under row d)
      (λ x i p. let w = map_elim (λ ext. row ++ ext) (rows d) i in
      clash p (ap passes w.1 ∙ sound (map is row) h (row ++ w.0) (extends_prefix row w.0))))

  search_leaf : (row : Row) → length row ≡ n → search test zero row ≡ first passes (under row zero)
  search_leaf row l =
      cases (test (map is row)) (λ h. rw h (sym (closed_none row zero h)))
      (λ h. let p : passes (row ++ []) ≡ true = ap passes (append-nil row) ∙ exact row l h in
      rw (h, p) (ap (λ r. r ∷ []) (sym (append-nil row))))

  search_under : (d : ℕ) (row : Row) → length row + d ≡ n → search test d row ≡ first passes (under row d)
  search_under zero row l = search_leaf row (omega arith)
  search_under (suc d) row l =
      cases (test (map is row)) (λ h. rw h (sym (closed_none row (suc d) h)))
      (λ h.
      let found : or_else (search test d (row ++ true ∷ [])) (search test d (row ++ false ∷ [])) ≡ first passes (under row (suc d)) =
      ap₂ or_else (search_under d (row ++ true ∷ []) (omega (arith, length-append row (true ∷ []))))
      (search_under d (row ++ false ∷ []) (omega (arith, length-append row (false ∷ []))))
      ∙ sym (first_append passes (under (row ++ true ∷ []) d) (under (row ++ false ∷ []) d))
      ∙ ap (first passes) (sym (under_split row d)) in
      rw h found)

pub search_first : (n : ℕ) (passes : Row → Bool) (test : PartialRow → Bool) → Sound passes test → Exact n passes test
    → search test n [] ≡ first passes (rows n)
search_first n passes test sound exact = search_under n passes test sound exact n [] (omega arith) ∙ ap (first passes) (map-id (rows n))

-- ---- Kleene's values: what is decided stays

module _ (part : ℕ → Three) (row : ℕ → Bool) (fits : (i : ℕ) → Fits (part i) (row i)) where
  value_fits : (f : Form ℕ) → Fits (kleene_value part f) (value row f)
  value_fits Form.truth = refl
  value_fits Form.falsity = refl
  value_fits (Form.atom i) = fits i
  value_fits (Form.negation f) = Strong.fits_of (kleene_value part (Form.negation f)) (not (value row f)) (λ b e. (Strong.negation_strong part f b).0 e (value row f) (value_fits f))
  value_fits (Form.conjunction f g) =
      Strong.fits_of (kleene_value part (Form.conjunction f g)) (value row f && value row g)
      (λ b e. (Strong.conjunction_strong part f g b).0 e (value row f) (value row g) (value_fits f) (value_fits g))
  value_fits (Form.disjunction f g) =
      Strong.fits_of (kleene_value part (Form.disjunction f g)) (value row f || value row g)
      (λ b e. (Strong.disjunction_strong part f g b).0 e (value row f) (value row g) (value_fits f) (value_fits g))
  value_fits (Form.implication f g) =
      Strong.fits_of (kleene_value part (Form.implication f g)) (not (value row f) || value row g)
      (λ b e. (Strong.implication_strong part f g b).0 e (value row f) (value row g) (value_fits f) (value_fits g))
  value_fits (Form.equivalence f g) =
      Strong.fits_of (kleene_value part (Form.equivalence f g)) (beq (value row f) (value row g))
      (λ b e. (Strong.equivalence_strong part f g b).0 e (value row f) (value row g) (value_fits f) (value_fits g))

fits_refuted : (t : Three) (b : Bool) → Fits t b → refuted t ≡ true → b ≡ false
fits_refuted (is c) b h k = sym h ∙ not-true c k
fits_refuted unknown b h k = clash k refl

-- a partial row fits each row that extends it
extends_fits : (row : Row) (part : PartialRow) → Extends row part → (i : ℕ) → Fits (get_or part i unknown) (get_or row i false)
extends_fits row [] h i = tt
extends_fits [] (unknown ∷ part) h zero = tt
extends_fits [] (unknown ∷ part) h (suc i) = extends_fits [] part h i
extends_fits [] (is b ∷ part) h i = absurd h
extends_fits (c ∷ row) (unknown ∷ part) h zero = tt
extends_fits (c ∷ row) (unknown ∷ part) h (suc i) = extends_fits row part h i
extends_fits (c ∷ row) (is b ∷ part) h zero = sym h.0
extends_fits (c ∷ row) (is b ∷ part) h (suc i) = extends_fits row part h.1 i

-- a rule that is false where some atoms are undecided is false whatever they are
pub refutes_sound : (nums : List (Form ℕ)) → Sound (rules_true nums) (refutes nums)
unfolding rules_true refutes
refutes_sound nums part h row ext =
    let w = any_elim (λ f. refuted (kleene_value (λ i. get_or part i unknown) f)) nums h in
    eq-false_of_not-eq-true
    (λ g. clash (all_elim (value (λ i. get_or row i false)) w.1 g)
    (fits_refuted (kleene_value (λ i. get_or part i unknown) w.0) (value (λ i. get_or row i false) w.0)
    (value_fits (λ i. get_or part i unknown) (λ i. get_or row i false) (extends_fits row part ext) w.0) w.2))

-- ---- a whole row decides every rule

and_known : (b c : Bool) → kleene_and (is b) (is c) ≡ is (b && c)
and_known true c = refl
and_known false c = refl

or_known : (b c : Bool) → kleene_or (is b) (is c) ≡ is (b || c)
or_known true c = refl
or_known false true = refl
or_known false false = refl

iff_known : (b c : Bool) → kleene_iff (is b) (is c) ≡ is (beq b c)
iff_known true true = refl
iff_known true false = refl
iff_known false true = refl
iff_known false false = refl

-- where the atoms of a formula are decided, its value is known
module _ (part : ℕ → Three) (row : ℕ → Bool) where
  abbrev Decided : List ℕ → Type 0
  Decided numbers = (i : ℕ) → In i numbers → part i ≡ is (row i)

  sides_known : (f g : Form ℕ) (c3 : Three → Three → Three) (c : Bool → Bool → Bool) → ((a b : Bool) → c3 (is a) (is b) ≡ is (c a b))
      → Decided (atoms_of f ++ atoms_of g) → (Decided (atoms_of f) → kleene_value part f ≡ is (value row f))
      → (Decided (atoms_of g) → kleene_value part g ≡ is (value row g))
      → c3 (kleene_value part f) (kleene_value part g) ≡ is (c (value row f) (value row g))
  sides_known f g c3 c known h left right =
      ap₂ c3 (left (λ i k. h i (in_left (atoms_of g) k))) (right (λ i k. h i (in_right (atoms_of f) k)))
      ∙ known (value row f) (value row g)

  pub value_known : (f : Form ℕ) → Decided (atoms_of f) → kleene_value part f ≡ is (value row f)
  value_known Form.truth h = refl
  value_known Form.falsity h = refl
  value_known (Form.atom i) h = h i here
  value_known (Form.negation f) h = ap kleene_not (value_known f h)
  value_known (Form.conjunction f g) h = sides_known f g kleene_and ◌&&◌ and_known h (value_known f) (value_known g)
  value_known (Form.disjunction f g) h = sides_known f g kleene_or ◌||◌ or_known h (value_known f) (value_known g)
  value_known (Form.implication f g) h =
      sides_known f g (λ s t. kleene_or (kleene_not s) t) (λ a b. not a || b) (λ a b. or_known (not a) b) h (value_known f) (value_known g)
  value_known (Form.equivalence f g) h = sides_known f g kleene_iff beq iff_known h (value_known f) (value_known g)

module _ (row : Row) where
  abbrev values : ℕ → Bool
  values i = get_or row i false

  abbrev decided : ℕ → Three
  decided i = get_or (map is row) i unknown

  rules_known : (fs : List (Form ℕ)) → Decided decided values (all_atoms fs)
      → any (λ f. refuted (kleene_value decided f)) fs ≡ not (all (value values) fs)
  rules_known [] h = refl
  rules_known (f ∷ fs) h =
      ap₂ ◌||◌ (ap refuted (value_known decided values f (λ i k. h i (in_left (all_atoms fs) k))))
      (rules_known fs (λ i k. h i (in_right (atoms_of f) k))) ∙ morgan (value values f) (all (value values) fs)

  refutes_known : (nums : List (Form ℕ)) → NumbersBelow (length row) nums → refutes nums (map is row) ≡ not (rules_true nums row)
  unfolding rules_true refutes
  refutes_known nums h = rules_known nums (λ i k. map_at is row i false unknown (h i k))

-- ---- the two tests together

pub no_marks : (atoms : List (Atom ℕ)) → row_marks atoms [] ≡ []
no_marks [] = refl
no_marks (a ∷ atoms) = refl

-- the marks of a partial row are among those of each row that extends it
marks_extend : (row : Row) (part : PartialRow) (atoms : List (Atom ℕ)) → Extends row part → (m : Mark) → In m (marks_of atoms part)
    → In m (row_marks atoms row)
marks_extend row part [] h m i = none_in i
marks_extend row [] (a ∷ atoms) h m i = none_in i
marks_extend [] (unknown ∷ part) (a ∷ atoms) h m i = none_in (subst (In m) (no_marks atoms) (marks_extend [] part atoms h m i))
marks_extend [] (is b ∷ part) (a ∷ atoms) h m i = absurd h
marks_extend (c ∷ row) (unknown ∷ part) (a ∷ atoms) h m i = next (marks_extend row part atoms h m i)
marks_extend (c ∷ row) (is b ∷ part) (a ∷ atoms) h m i =
    ⊎_elim (λ q. at_head (q ∙ ap (mark a) (sym h.0))) (λ j. next (marks_extend row part atoms h.1 m j)) (uncons i)

module _ (q : Question) (n : ℕ) (atoms : List (Atom ℕ)) (nums : List (Form ℕ)) where
  -- no row that makes the rules true and passes the check extends what is closed
  pub closes_sound : Sound (good q n atoms nums) (closes q n atoms nums)
  unfolding closes good
  closes_sound part h row ext =
      eq-false_of_not-eq-true
      (λ g. let w = (and-eq-true_iff (rules_true nums row) (passes q n (row_marks atoms row))).0 g in
      ⊎_elim (λ z. clash w.0 (refutes_sound nums part z row ext))
      (λ z. clash
      (passes_fewer n (row_marks atoms row) (marks_of atoms part) (marks_extend row part atoms ext) q w.1)
      (not-true _ z))
      (or_cases (refutes nums part) (not (passes q n (marks_of atoms part))) h))

  -- a whole row that stays open is good
  pub closes_exact : NumbersBelow (length atoms) nums → Exact (length atoms) (good q n atoms nums) (closes q n atoms nums)
  unfolding closes good
  closes_exact numbers row l h =
      not-false _
      (sym (ap (λ b. b || not (passes q n (row_marks atoms row))) (refutes_known row nums (subst (λ k. NumbersBelow k nums) (sym l) numbers))
      ∙ morgan (rules_true nums row) (passes q n (row_marks atoms row))) ∙ h)

  -- the search gives the answer's row
  search_first_row : NumbersBelow (length atoms) nums
      → search (closes q n atoms nums) (length atoms) [] ≡ first_row q n atoms nums
  unfolding first_row
  search_first_row numbers =
      search_first (length atoms) (good q n atoms nums) (closes q n atoms nums) closes_sound (closes_exact numbers)

-- ---- the plain check closes branches for every question

module _ (q : Question) (n : ℕ) (atoms : List (Atom ℕ)) (nums : List (Form ℕ)) where
  -- a row that is good for a question is good for the plain one
  pub good_plain : (row : Row) → good q n atoms nums row ≡ true → good plain n atoms nums row ≡ true
  unfolding good
  good_plain row g =
      let w = (and-eq-true_iff (rules_true nums row) (passes q n (row_marks atoms row))).0 g in
      and_intro w.0 (passes_plain n (row_marks atoms row) q w.1)

  -- so what closes there closes here
  pub plain_sound : Sound (good q n atoms nums) (closes plain n atoms nums)
  plain_sound part h row ext =
      eq-false_of_not-eq-true (λ g. clash (good_plain row g) (closes_sound plain n atoms nums part h row ext))

  -- any test that closes no more than the question's own, and as much at whole rows, finds the answer's row
  pub search_between : NumbersBelow (length atoms) nums → (test : PartialRow → Bool)
      → ((part : PartialRow) → test part ≡ true → closes q n atoms nums part ≡ true)
      → ((row : Row) → length row ≡ length atoms → closes q n atoms nums (map is row) ≡ true → test (map is row) ≡ true)
      → search test (length atoms) [] ≡ first_row q n atoms nums
  unfolding first_row
  search_between numbers test no_more as-much =
      search_first (length atoms) (good q n atoms nums) test
      (λ part h row ext. closes_sound q n atoms nums part (no_more part h) row ext)
      (λ row l h. closes_exact q n atoms nums numbers row l (eq-false_of_not-eq-true (λ k. clash (as-much row l k) h)))

-- the search over the different atoms of rules as read
pub search_answer : (q : Question) (rules : List (Formula Name))
    → search (closes q (length (names_of rules)) (row_atoms rules) (numbered_atoms rules)) (length (row_atoms rules)) [] ≡ first_row_of q rules
search_answer q rules =
    search_first_row q (length (names_of rules)) (row_atoms rules) (numbered_atoms rules)
    (λ i h. omega (arith, numbers_below rules i h, length-map (different_atoms rules) (map_atom (number_of rules))))
