-- The writer as it is computed, of numbered atoms and rules: it gives one tree where no row is found, and none where one is, since the test by
-- which it closes a branch is the search's. Assumes nothing.
use mathlib.Core.Path.{◌≡◌, sym, ◌∙◌}
use mathlib.Core.List.{List, [], ◌∷◌}
use Prim.Native.Nat.{ℕ, ◌<◌}
use native.Mathlib.Omega.{arith}
use lib.ListN.{length}
use Rattle.formula.specs.Formula.{Atom, Form}
use Rattle.lists.specs.Search.{In, below}
use Rattle.contact.specs.Question.{Question}
use Rattle.contact.specs.Numbering.{all_atoms, AtomsBelow}
use Rattle.contact.specs.Row.{Row}
use Rattle.contact.specs.Check.{first_row, good}
use Rattle.contact.specs.Tableau.{closes, search}
use Rattle.contact.proofs.Claims as contact
use Rattle.trees.specs.Trees.{Tree}
use Rattle.trees.specs.Closed.{Unrealised}
use Rattle.trees.specs.Checker.{write, no_floor}
use Rattle.trees.proofs.Sound
use Rattle.trees.proofs.Writing
use Rattle.trees.proofs.Writing.{Ends, Ends.tree, Ends.found}

module _ (q : Question) (names : ℕ) (atoms : List (Atom ℕ)) (rules : List (Form ℕ)) where
  pub data Writes : Type 0 where
    told : (t : Tree) → write rules (no_floor q names atoms) (length atoms) [] ≡ t ∷ [] → first_row q names atoms rules ≡ [] → Writes
    exists : (row : Row) → write rules (no_floor q names atoms) (length atoms) [] ≡ [] → first_row q names atoms rules ≡ row ∷ [] → Writes

  pub writes : AtomsBelow names atoms → ((i : ℕ) → In i (all_atoms rules) → i < length atoms) → Writes
  unfolding closes no_floor first_row
  writes named numbers =
      go (Writing.ends (length atoms) rules (Unrealised q (below names) atoms) (no_floor q names atoms) (Sound.floor_tests q names atoms named) (length atoms) [] (omega arith))
    where
      answers : search (Writing.shuts (length atoms) rules (Unrealised q (below names) atoms) (no_floor q names atoms) (Sound.floor_tests q names atoms named)) (length atoms) []
          ≡ first_row q names atoms rules
      answers =
          contact.search_first (length atoms) (good q names atoms rules) (closes q names atoms rules) (contact.closes_sound q names atoms rules)
          (contact.closes_exact q names atoms rules numbers)

      go : Ends (length atoms) rules (Unrealised q (below names) atoms) (no_floor q names atoms) (Sound.floor_tests q names atoms named) (length atoms) [] → Writes
      go (Ends.tree t e w s) = Writes.told t e (sym answers ∙ s)
      go (Ends.found r e s) = Writes.exists r e (sym answers ∙ s)
