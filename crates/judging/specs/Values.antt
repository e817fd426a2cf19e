-- What is computed, and for proofs what the private functions ensure: the values of atoms on a plan that points and rows hold, and the judgement of
-- numbered rules whose atoms have given values. Assumes nothing.
use Rattle.std.specs.Prelude.{◌≡◌, Bool, true, false, not, ◌&&◌, cond, List, [], ◌∷◌, ℕ, suc, ◌<◌, eqb, get_or}
use Rattle.formula.specs.Formula.{Form}
use Rattle.formula.specs.Atoms.{atoms_of}
use Rattle.lists.specs.Search.{In}
use Rattle.evalset.specs.Bit.{bit}
use Rattle.evalset.specs.Sets.{mem_at}
use Rattle.contact.specs.Meaning.{value}
use Rattle.kleene.specs.Code.{postfix}
use Rattle.search.specs.declared.Chart.{Chart}
use Rattle.search.specs.Compiled.{contact_at}
use Rattle.plan.specs.declared.PlanPoints.{PlanPoints}
use Rattle.plan.specs.Arrays.{touches_of, vacant_of}
use Rattle.plan.specs.Judging.{Judgement, yes, unmet}
use Rattle.solver.specs.Coded.{part, Coded}
use Rattle.judging.specs.declared.Judged.{Judged}
use Rattle.judging.specs.declared.Judged.TheVariants.{Yes, Unmet}

-- a judgement as the code answers it
abbrev pub judged_of : Judgement → Judged
judged_of yes = Yes
judged_of (unmet k) = Unmet k

-- the plan has a name, and its first point is at evaluation 0
unfoldable pub uncovered_of : PlanPoints → Bool
uncovered_of plan = not (eqb plan.names 0) && eqb (get_or plan.points 0 0) 0

-- ---- atoms

-- the value of an atom on the plan: whether it is a contact, and its sets
abbrev pub atom_of : PlanPoints → (ℕ → ℕ → Bool) → Bool → (ℕ → Bool) → (ℕ → Bool) → Bool
atom_of plan rows true x y = touches_of plan rows x y
atom_of plan rows false x y = vacant_of plan x

-- that of the chart's atom i
unfoldable pub value_of : PlanPoints → (ℕ → ℕ → Bool) → Chart → ℕ → Bool
value_of plan rows chart i = atom_of plan rows (contact_at chart i) (mem_at chart.xs i) (mem_at chart.ys i)

-- in row 0, by which rules are judged, the atoms below n are what w says
unfoldable pub Sure : List ℕ → ℕ → (ℕ → Bool) → Type 0
Sure leaves n w = (i : ℕ) → i < n → bit (get_or leaves i 0) 0 ≡ w i

-- the atoms of the chart have their values on the plan
unfoldable pub LeavesSay : PlanPoints → (ℕ → ℕ → Bool) → Chart → List ℕ → Type 0
LeavesSay plan rows chart leaves = Sure leaves chart.atoms (value_of plan rows chart)

-- ---- rules

-- the value of the rule whose code this part is
unfoldable pub RuleSays : List ℕ → ℕ → ℕ → List ℕ → Bool → Type 0
RuleSays code from end leaves r =
    (rule : Form ℕ) → part code from end ≡ postfix rule → (w : ℕ → Bool) → ((i : ℕ) → In i (atoms_of rule) → bit (get_or leaves i 0) 0 ≡ w i)
    → r ≡ value w rule

-- numbered rules judged by the values of their atoms; the first has number k
abbrev pub judge_numbers : ℕ → (ℕ → Bool) → List (Form ℕ) → Judgement
judge_numbers k w [] = yes
judge_numbers k w (f ∷ rules) = let r = judge_numbers (suc k) w rules in cond (value w f) r (unmet k)

-- the judgement of the rules of this code
unfoldable pub UnmetSays : List ℕ → List ℕ → List ℕ → Judged → Type 0
UnmetSays code ends leaves r =
    (many : ℕ) (rules : List (Form ℕ)) → Coded many code ends rules → (w : ℕ → Bool) → Sure leaves many w
    → r ≡ judged_of (judge_numbers 1 w rules)
