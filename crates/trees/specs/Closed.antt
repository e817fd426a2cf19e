-- What is meant: closed trees of rules (document 02, T-06). The different atoms are numbered from 0, there are `many`; the rules have
-- numbers for atoms; `NoPlan part` says that no finite plan gives the atoms that the partial row decides their values: it is `Unrealised`,
-- for the floors that count. Assumes nothing.
use Rattle.std.specs.Prelude.{Bool, true, false, ◌≡◌, List, [], ◌∷◌, ℕ, zero, suc, ◌-◌, ◌≤◌, ◌<◌, length, get_or}
use Rattle.formula.specs.Formula.{Atom, Form}
use Rattle.contact.specs.Meaning.{Floor}
use Rattle.contact.specs.Question.{Question, Counts}
use Rattle.contact.specs.Row.{Three, is, unknown, PartialRow, RealisesPart}
use Rattle.contact.specs.Kleene.{kleene_value}
use Rattle.trees.specs.Trees.{Tree, split, rule, floorless, missing, Whole}

-- "no finite plan gives the decided atoms their values"; the names are those that the rules use
abbrev pub Unrealised : {N : Type 0} → Question → List N → List (Atom N) → PartialRow → Type 0
Unrealised {N} q names atoms part = (F : Floor N) → Counts q names F → RealisesPart F atoms part → ⊥

-- ---- branches: partial rows of any pattern; at the root nothing is decided

abbrev pub root : PartialRow
root = []

-- what atom a is in the branch: atoms past the end of the partial row are undecided
abbrev pub value_in : PartialRow → ℕ → Three
value_in part a = get_or part a unknown

-- the branch with atom a decided too
abbrev pub decided : PartialRow → ℕ → Bool → PartialRow
decided [] zero b = is b ∷ []
decided [] (suc a) b = unknown ∷ decided [] a b
decided (x ∷ part) zero b = is b ∷ part
decided (x ∷ part) (suc a) b = x ∷ decided part a b

-- "the rule .., counted from 1, is false there, undecided atoms read as unknown under Kleene's strong three-valued tables"
pub record RuleFalse (rules : List (Form ℕ)) (part : PartialRow) (k : ℕ) : Type 0 where
  pub from_one : 1 ≤ k
  pub named : k ≤ length rules
  pub is_false_there : kleene_value (value_in part) (get_or rules (k - 1) Form.truth) ≡ is false

-- a branch may be split on an atom of the table that it has not decided: "split on no atom twice in a branch"
pub record Splits (many : ℕ) (part : PartialRow) (a : ℕ) : Type 0 where
  pub named : a < many
  pub undecided : value_in part a ≡ unknown

-- ---- "the closed trees of these rules that split on no atom twice in a branch"

module _ (many : ℕ) (rules : List (Form ℕ)) (NoPlan : PartialRow → Type 0) where
  -- in the branch `part`, what is written of the tree is right: each closes with its reason
  abbrev pub Right : PartialRow → Tree → Type 0
  Right part (split a t f) = Splits many part a × Right (decided part a true) t × Right (decided part a false) f
  Right part (rule k) = RuleFalse rules part k
  Right part floorless = NoPlan part
  Right part missing = Unit {0}

  pub record Closed (part : PartialRow) (t : Tree) : Type 0 where
    pub whole : Whole t
    pub right : Right part t
