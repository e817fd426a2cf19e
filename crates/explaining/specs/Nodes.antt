-- For proofs: what the writer's private functions ensure. A node is a row of the first atoms, by its place (crate prefixes). A block has the 63
-- nodes from a node down to five atoms more, by their places under it; a word has a bit for each of them. Assumes nothing.
use Rattle.std.specs.Prelude.{Bool, false, not, ◌≡◌, List, [], ◌∷◌, ◌++◌, map, ℕ, zero, suc, ◌+◌, ◌-◌, ◌≤◌, ◌<◌, length, get_or, Option, Some, None}
use Rattle.std.proofs.lemmas.List.Edits.{sets}
use Rattle.formula.specs.Formula.{Atom, Form}
use Rattle.evalset.specs.Bit.{bit}
use Rattle.contact.specs.Question.{plain}
use Rattle.contact.specs.Row.{Row, is, PartialRow}
use Rattle.kleene.specs.Rails.{Duo, duo_of, word_rows}
use Rattle.solver.specs.Coded.{Coded}
use Rattle.prefixes.specs.Heap.{place_under, place_of, Checks}
use Rattle.trees.specs.Trees.{Tree, split, rule, floorless, missing, split_word, rule_word, floorless_word, words_of}
use Rattle.trees.specs.Closed.{value_in}
use Rattle.trees.specs.Checker.{false_there, no_floor, closing, write}

-- ---- the atoms' values in a block

-- one rail of the atom that comes u after the block's first, at each node of the block
unfoldable pub MaskSays : (Duo → Bool) → ℕ → ℕ → Type 0
MaskSays rail u r = (ext : Row) → place_of ext < word_rows → bit r (place_of ext) ≡ rail (duo_of (value_in (map is ext) u))

-- one rail of atom i, at each node of the block under the node with k atoms at place h
unfoldable pub LeafSays : (Duo → Bool) → ℕ → ℕ → ℕ → ℕ → Type 0
LeafSays rail h k i r =
    (row ext : Row) → length row ≡ k → place_of row ≡ h → place_of ext < word_rows → bit r (place_of ext) ≡ rail (duo_of (value_in (map is (row ++ ext)) i))

-- of the first n atoms
pub record LeavesSay (rail : Duo → Bool) (h k n : ℕ) (leaves : List ℕ) : Type 0 where
  pub size : length leaves ≡ 16
  pub are : (i : ℕ) → i < n → LeafSays rail h k i (get_or leaves i 0)

-- ---- the rules in a block

-- whether rule i is false at the node with the place j in its block, by the block's words
abbrev pub false_at : List ℕ → ℕ → ℕ → Bool
false_at words j zero = false
false_at words j (suc i) = bit (get_or words i 0) j

-- the words of the first n rules are those of the nodes under the row, which has the place j in its block
pub record FalseUnder (words : List ℕ) (n j : ℕ) (row : Row) (rules : List (Form ℕ)) : Type 0 where
  pub counted : n ≤ length rules
  pub are : (ext : Row) → place_under j ext < word_rows → (i : ℕ) → i < n → bit (get_or words i 0) (place_under j ext) ≡ false_there rules (map is (row ++ ext)) (suc i)

-- of a whole block
unfoldable pub FalsesSay : List ℕ → List ℕ → ℕ → ℕ → ℕ → List ℕ → Type 0
FalsesSay code ends h k n words =
    (many : ℕ) (rules : List (Form ℕ)) → many ≤ 16 → Coded many code ends rules → (row : Row) → length row ≡ k → place_of row ≡ h → FalseUnder words n 1 row rules

-- ---- a node closed

-- the word that closes a branch, if one does
abbrev pub head_word : List Tree → Option ℕ
head_word [] = None
head_word (split a t f ∷ ts) = Some (split_word a)
head_word (rule k ∷ ts) = Some (rule_word k)
head_word (floorless ∷ ts) = Some floorless_word
head_word (missing ∷ ts) = None

unfoldable pub ClosingSays : List ℕ → ℕ → ℕ → Bool → Option ℕ → Type 0
ClosingSays words n j some r =
    (rules : List (Form ℕ)) (no_plan_said : PartialRow → Bool) (part : PartialRow) → length rules ≡ n
    → ((i : ℕ) → i < n → bit (get_or words i 0) j ≡ false_there rules part (suc i)) → some ≡ not (no_plan_said part) → r ≡ head_word (closing rules no_plan_said part)

-- ---- the tree under a node

-- what code, bits and words come from, at the node of the row, which has the place h, and the place j in its block
pub record Node (code ends bits words : List ℕ) (n h k j names : ℕ) (atoms : List (Atom ℕ)) (rules : List (Form ℕ)) (row : Row) : Type 0 where
  pub counted : length atoms ≡ n
  pub coded : Coded n code ends rules
  pub checks : Checks names atoms bits
  pub long : length row ≡ k
  pub place : place_of row ≡ h
  pub falses : FalseUnder words (length ends) j row rules

-- the words of the tree under the node are put from a place on, as far as there is room, and it is told where they end
unfoldable pub PutSays : List ℕ → List ℕ → List ℕ → List ℕ → ℕ → ℕ → ℕ → ℕ → ℕ → List ℕ → List ℕ → ℕ → Type 0
PutSays code ends bits words n h k j at before after r =
    (names : ℕ) (atoms : List (Atom ℕ)) (rules : List (Form ℕ)) (row : Row) → Node code ends bits words n h k j names atoms rules row
    → (t : Tree) (rest : List Tree) → write rules (no_floor plain names atoms) (n - k) row ≡ t ∷ rest
    → (after ≡ sets before at (words_of t)) × (r ≡ at + length (words_of t))
