-- What has a closed tree has no plan. Assumes nothing.
use mathlib.Core.Bool.{true, false, not}
use mathlib.Core.Path.{◌≡◌, ap}
use mathlib.Core.Logic.{∥∥₁_elim}
use mathlib.Core.HLevel.{⊥_prop}
use mathlib.Core.List.{List, map}
use Prim.Native.Nat.{ℕ, ◌-◌}
use native.Mathlib.Omega.{arith}
use lib.ListN.{length, get_or, length-map}
use borrow.Author.Tests.{not-true}
use Rattle.formula.specs.Formula.{Atom, Form}
use Rattle.lists.specs.Search.{In, below}
use Rattle.lists.proofs.Search.{any_intro, placed}
use Rattle.lists.proofs.Truth.{clash, cases}
use Rattle.contact.specs.Meaning.{Floor, atom_on}
use Rattle.contact.specs.Question.{Question, Counts}
use Rattle.contact.specs.Numbering.{AtomBelow}
use Rattle.contact.specs.Row.{Row, unknown, PartialRow, Extends, rules_true}
use Rattle.contact.specs.Plan.{marks_of}
use Rattle.contact.specs.Check.{passes}
use Rattle.contact.specs.Kleene.{kleene_value}
use Rattle.contact.specs.Tableau.{refuted, refutes}
use Rattle.contact.proofs.Claims.{check_exactly, refutes_sound}
use Rattle.trees.specs.Trees.{Tree, split, rule, floorless, missing, Whole}
use Rattle.trees.specs.Closed.{Unrealised, decided, root, RuleFalse, Right, Closed}
use Rattle.trees.specs.Checker.{no_floor}
use Rattle.trees.proofs.Branches.{extends_decided}
use Rattle.trees.proofs.Spelling.{Tests}

-- a rule that is false there is one that the search's test finds
pub false_refutes : (rules : List (Form ℕ)) (part : PartialRow) (k : ℕ) → RuleFalse rules part k → refutes rules part ≡ true
unfolding refutes
false_refutes rules part k r =
    any_intro (λ f. refuted (kleene_value (λ i. get_or part i unknown) f))
    (placed Form.truth rules (k - 1) (omega (arith, r.from_one, r.named))) (ap refuted r.is_false_there)

-- no possible row that makes the rules true extends a branch that is closed: each row goes into one of the two parts
module _ (many : ℕ) (rules : List (Form ℕ)) (NoPlan : PartialRow → Type 0) (row : Row) (whole : length row ≡ many)
    (possible : (part : PartialRow) → NoPlan part → Extends row part → ⊥) (makes : rules_true rules row ≡ true) where
  pub closed_excludes : (t : Tree) (part : PartialRow) → Whole t → Right many rules NoPlan part t → Extends row part → ⊥
  closed_excludes (split a t f) part w h e =
      cases (get_or row a false)
      (λ v. closed_excludes t (decided part a true) w.0 h.1 (extends_decided row part a true (omega (arith, h.0.named)) v e))
      (λ v. closed_excludes f (decided part a false) w.1 h.2 (extends_decided row part a false (omega (arith, h.0.named)) v e))
  closed_excludes (rule k) part w h e = clash makes (refutes_sound rules part (false_refutes rules part k h) row e)
  closed_excludes floorless part w h e = possible part h e
  closed_excludes missing part w h e = absurd w

-- so no floor that counts makes the rules true
pub closed_no_floor : {N : Type 0} (q : Question) (names : List N) (atoms : List (Atom N)) (rules : List (Form ℕ)) (t : Tree)
    → Closed (length atoms) rules (Unrealised q names atoms) root t → (F : Floor N) → Counts q names F → rules_true rules (map (atom_on F) atoms) ≡ true → ⊥
closed_no_floor q names atoms rules t c F counts makes =
    closed_excludes (length atoms) rules (Unrealised q names atoms) (map (atom_on F) atoms) (length-map atoms (atom_on F))
    (λ part none e. none F counts e) makes t root c.whole c.right tt

-- the check of the decided atoms is the test that there is no floor
pub floor_tests : (q : Question) (names : ℕ) (atoms : List (Atom ℕ)) → ((a : Atom ℕ) → In a atoms → AtomBelow names a)
    → Tests (length atoms) (no_floor q names atoms) (Unrealised q (below names) atoms)
unfolding no_floor
floor_tests q names atoms named part short =
    let x = check_exactly q names atoms part named short in (
      (λ h F counts real. clash (x.1 ∣ (F, counts, real) ∣₁) (not-true _ h)),
      (λ none. cases (passes q names (marks_of atoms part))
          (λ h. absurd (∥∥₁_elim (x.0 h) ⊥_prop (λ f. none f.0 f.1 f.2))) (λ h. ap not h)),
    )
