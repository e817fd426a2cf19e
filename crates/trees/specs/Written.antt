-- What is meant: the tree that the writer gives (document 02, T-06): "The writer splits on atoms in their order, tests the rules in theirs at
-- each step, tries kind 6 before kind 7 and closes as soon as it can." Assumes nothing.
use Rattle.std.specs.Prelude.{true, false, ◌≡◌, List, ℕ, suc, ◌<◌}
use Rattle.formula.specs.Formula.{Form}
use Rattle.contact.specs.Row.{PartialRow}
use Rattle.trees.specs.Trees.{Tree, split, rule, floorless, missing}
use Rattle.trees.specs.Closed.{RuleFalse, decided}

-- no rule is false in the branch
abbrev pub NoRule : List (Form ℕ) → PartialRow → Type 0
NoRule rules part = (k : ℕ) → RuleFalse rules part k → ⊥

-- the first rule that is false there
pub record FirstFalse (rules : List (Form ℕ)) (part : PartialRow) (k : ℕ) : Type 0 where
  pub refuted : RuleFalse rules part k
  pub first : (j : ℕ) → j < k → RuleFalse rules part j → ⊥

-- the branch cannot be closed, and the next atom is n
pub record Goes (many : ℕ) (rules : List (Form ℕ)) (NoPlan : PartialRow → Type 0) (n : ℕ) (part : PartialRow) (a : ℕ) : Type 0 where
  pub no_rule : NoRule rules part
  pub plan : NoPlan part → ⊥
  pub next : a ≡ n
  pub named : n < many

module _ (many : ℕ) (rules : List (Form ℕ)) (NoPlan : PartialRow → Type 0) where
  -- the writer's tree in a branch whose atoms below n are decided
  abbrev pub Written : ℕ → PartialRow → Tree → Type 0
  Written n part (split a t f) =
      Goes many rules NoPlan n part a × Written (suc n) (decided part n true) t × Written (suc n) (decided part n false) f
  Written n part (rule k) = FirstFalse rules part k
  Written n part floorless = NoRule rules part × NoPlan part
  Written n part missing = ⊥
