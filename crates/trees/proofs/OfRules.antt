-- Trees of rules as read: numbers may stand for names, since a floor over the one is a floor over the other. Assumes nothing.
use mathlib.Core.Path.{◌≡◌, sym, ap, ◌∙◌, subst}
use mathlib.Core.Logic.{◌↔◌}
use mathlib.Core.List.{List, [], ◌∷◌}
use Prim.Native.Nat.{ℕ, ◌*◌, ◌^◌, ◌≤◌, ◌<◌}
use native.Mathlib.Omega.{arith}
use lib.ListN.{length, length-map}
use Rattle.std.specs.Prelude.{Ok, Err}
use Rattle.formula.specs.Formula.{Formula, Name}
use Rattle.lists.specs.Search.{below}
use Rattle.contact.specs.Meaning.{renamed}
use Rattle.contact.specs.Question.{plain, NoFloor}
use Rattle.contact.specs.Numbering.{names_of, map_atom, different_atoms, numbered_atoms, row_atoms, number_of, name_of}
use Rattle.contact.specs.Row.{Row, PartialRow, Extends}
use Rattle.contact.specs.Check.{first_row_of}
use Rattle.contact.specs.Tableau.{closes, search}
use Rattle.contact.proofs.Claims as contact
use Rattle.contact.proofs.Naming.{names_row, numbers_row, names_count, numbers_count}
use Rattle.trees.specs.declared.NotClosed.{NotClosed}
use Rattle.trees.specs.Trees.{Tree, words_of}
use Rattle.trees.specs.Closed.{Unrealised, root}
use Rattle.trees.specs.OfRules.{NoPlanFor, IsClosedTree, IsNoTree, IsWrittenTree}
use Rattle.trees.specs.Checker.{no_floor, no_plan_in, checked_of, trees_of}
use Rattle.trees.proofs.Spelling.{Tests}
use Rattle.trees.proofs.Checking
use Rattle.trees.proofs.Sound
use Rattle.trees.proofs.Writing
use Rattle.trees.proofs.Writing.{Ends, Ends.tree, Ends.found}

module _ (fs : List (Formula Name)) where
  -- a floor over numbers gives the decided atoms their values exactly if one over names does
  unrealised_named : (part : PartialRow) → Unrealised plain (below (length (names_of fs))) (row_atoms fs) part ↔ NoPlanFor fs part
  unrealised_named part = (
    λ none F c e. none (renamed (name_of fs) F) (names_count fs plain F c) (subst (λ (row : Row). Extends row part) (sym (names_row fs F)) e),
    λ none F c e. none (renamed (number_of fs) F) (numbers_count fs plain F c) (subst (λ (row : Row). Extends row part) (sym (numbers_row fs F)) e),
  )

  as_many : length (row_atoms fs) ≡ length (different_atoms fs)
  as_many = length-map (different_atoms fs) (map_atom (number_of fs))

  -- the check of the decided atoms is kind 7's reason
  pub tests_named : Tests (length (different_atoms fs)) (no_plan_in fs) (NoPlanFor fs)
  tests_named part short =
      let t = Sound.floor_tests plain (length (names_of fs)) (row_atoms fs) (contact.numbered_below fs) part (omega (arith, short, as_many)) in (
        (λ h. (unrealised_named part).0 (t.0 h)),
        (λ none. t.1 ((unrealised_named part).1 none)),
      )

  -- what the search answers of these rules, by the test that closes a branch
  search_answers : search (Writing.shuts (length (different_atoms fs)) (numbered_atoms fs) (NoPlanFor fs) (no_plan_in fs) tests_named) (length (different_atoms fs)) []
      ≡ first_row_of plain fs
  unfolding closes no_floor
  search_answers =
      ap (λ (d : ℕ). search (closes plain (length (names_of fs)) (row_atoms fs) (numbered_atoms fs)) d []) (sym as_many) ∙ contact.search_answer plain fs

  -- the writer gives its one tree where no row is found, and none where one is
  pub data Writes : Type 0 where
    told : (t : Tree) → IsWrittenTree fs t → trees_of fs ≡ t ∷ [] → first_row_of plain fs ≡ [] → Writes
    exists : (row : Row) → first_row_of plain fs ≡ row ∷ [] → trees_of fs ≡ [] → Writes

  module _ (few_atoms : length (different_atoms fs) ≤ 256) (few-rules : length (numbered_atoms fs) < 256) where
    pub accepts_exactly : (ws : List ℕ) → (checked_of fs ws ≡ Ok tt) ↔ ((t : Tree) × (words_of t ≡ ws) × IsClosedTree fs t)
    unfolding checked_of
    accepts_exactly ws = (
      Checking.accepted_closed (length (different_atoms fs)) (numbered_atoms fs) (NoPlanFor fs) (no_plan_in fs) few_atoms few-rules tests_named ws,
      λ c. Checking.closed_accepted (length (different_atoms fs)) (numbered_atoms fs) (NoPlanFor fs) (no_plan_in fs) few_atoms few-rules tests_named ws c.0 c.1 c.2,
    )

    pub refuses_exactly : (ws : List ℕ) (j : ℕ) → (checked_of fs ws ≡ Err (record { at = j })) ↔ IsNoTree fs ws j
    unfolding checked_of
    refuses_exactly ws j = (
      Checking.checked_refused (length (different_atoms fs)) (numbered_atoms fs) (NoPlanFor fs) (no_plan_in fs) few_atoms few-rules tests_named ws j,
      Checking.refused_checked (length (different_atoms fs)) (numbered_atoms fs) (NoPlanFor fs) (no_plan_in fs) few_atoms few-rules tests_named ws j,
    )

  -- "What it accepts has no plan"
  pub closed_no_plan : (t : Tree) → IsClosedTree fs t → NoFloor plain fs
  closed_no_plan t c F counts meets =
      Sound.closed_no_floor plain (names_of fs) (different_atoms fs) (numbered_atoms fs) t c F counts (contact.numbered_faithful fs F ∙ meets)

  pub written_closed : (t : Tree) → IsWrittenTree fs t → IsClosedTree fs t
  written_closed t w = Writing.written_closed (length (different_atoms fs)) (numbered_atoms fs) (NoPlanFor fs) t w

  pub written_once : (t u : Tree) → IsWrittenTree fs t → IsWrittenTree fs u → t ≡ u
  written_once t u w v = Writing.written_once (length (different_atoms fs)) (numbered_atoms fs) (NoPlanFor fs) t u 0 root w v

  pub written_few : (t : Tree) → IsWrittenTree fs t → length (words_of t) < 2 * 2 ^ length (different_atoms fs)
  written_few t w = Writing.written_few (length (different_atoms fs)) (numbered_atoms fs) (NoPlanFor fs) (length (different_atoms fs)) t 0 root (omega arith) w

  pub writes : Writes
  unfolding trees_of
  writes = go (Writing.ends (length (different_atoms fs)) (numbered_atoms fs) (NoPlanFor fs) (no_plan_in fs) tests_named (length (different_atoms fs)) [] (omega arith))
    where
      go : Ends (length (different_atoms fs)) (numbered_atoms fs) (NoPlanFor fs) (no_plan_in fs) tests_named (length (different_atoms fs)) [] → Writes
      go (Ends.tree t e w s) = Writes.told t w e (sym search_answers ∙ s)
      go (Ends.found r e s) = Writes.exists r (sym search_answers ∙ s) e
