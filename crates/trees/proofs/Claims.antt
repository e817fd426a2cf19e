-- The claims of this crate (document 02, T-06), of rules as read; each cites the file that proves it. There are at most 256 different atoms and
-- 255 rules, which bits 7..0 of a word can name. Assumes nothing.
use mathlib.Core.Path.{◌≡◌, refl}
use mathlib.Core.Logic.{◌↔◌}
use mathlib.Core.List.{List}
use Prim.Native.Nat.{ℕ, ◌*◌, ◌^◌, ◌≤◌, ◌<◌}
use lib.ListN.{length}
use Rattle.std.specs.Prelude.{Ok, Err}
use Rattle.formula.specs.Formula.{Formula, Name}
use Rattle.contact.specs.Question.{plain, NoFloor}
use Rattle.contact.specs.Numbering.{different_atoms, numbered_atoms}
use Rattle.trees.specs.declared.NotClosed.{NotClosed}
use Rattle.trees.specs.Trees.{Tree, words_of}
use Rattle.trees.specs.OfRules.{IsClosedTree, IsNoTree, IsWrittenTree}
use Rattle.trees.specs.Checker.{checked_of}
use Rattle.trees.proofs.OfRules as OfRules

module _ (fs : List (Formula Name)) (few_atoms : length (different_atoms fs) ≤ 256) (few-rules : length (numbered_atoms fs) < 256) where
  -- the checker "accepts exactly the closed trees of these rules that split on no atom twice in a branch"
  pub accepts_exactly : (ws : List ℕ) → (checked_of fs ws ≡ Ok tt) ↔ ((t : Tree) × (words_of t ≡ ws) × IsClosedTree fs t)
  accepts_exactly = OfRules.accepts_exactly fs few_atoms few-rules

  -- "16 in the checker with the index of the first word that .."
  pub refuses_exactly : (ws : List ℕ) (j : ℕ) → (checked_of fs ws ≡ Err (record { at = j })) ↔ IsNoTree fs ws j
  refuses_exactly = OfRules.refuses_exactly fs few_atoms few-rules

  -- "every tree of our writer is accepted"
  pub written_accepted : (t : Tree) → IsWrittenTree fs t → checked_of fs (words_of t) ≡ Ok tt
  written_accepted t w = (accepts_exactly (words_of t)).1 (t, refl, OfRules.written_closed fs t w)

-- "What it accepts has no plan"
pub closed_no_plan : (fs : List (Formula Name)) (t : Tree) → IsClosedTree fs t → NoFloor plain fs
closed_no_plan = OfRules.closed_no_plan

-- the writer's tree is closed, there is one at most, and it has fewer than 2 times 2^atoms words
pub written_closed : (fs : List (Formula Name)) (t : Tree) → IsWrittenTree fs t → IsClosedTree fs t
written_closed = OfRules.written_closed

pub written_once : (fs : List (Formula Name)) (t u : Tree) → IsWrittenTree fs t → IsWrittenTree fs u → t ≡ u
written_once = OfRules.written_once

pub written_few : (fs : List (Formula Name)) (t : Tree) → IsWrittenTree fs t → length (words_of t) < 2 * 2 ^ length (different_atoms fs)
written_few = OfRules.written_few

-- the writer as it is computed gives it where no row is found, and none where a row is
pub writes : (fs : List (Formula Name)) → OfRules.Writes fs
writes = OfRules.writes
