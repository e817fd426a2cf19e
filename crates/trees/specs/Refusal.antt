-- What is meant: refusal 16 and its index (document 02, T-06): "the index of the first word that has no such form, names no atom or rule of
-- the table, splits again on an atom of its branch, closes without its reason or follows a finished tree, or with the length where the words
-- end early". Each word is judged by itself in the branch where it stands. Assumes nothing.
use Rattle.std.specs.Prelude.{true, false, ◌≡◌, List, [], ◌∷◌, ◌++◌, ℕ, ◌<◌, length}
use Rattle.formula.specs.Formula.{Form}
use Rattle.contact.specs.Row.{PartialRow}
use Rattle.trees.specs.Trees.{Tree, split, rule, floorless, missing, split_word, rule_word, floorless_word, words_of, InOrder}
use Rattle.trees.specs.Closed.{RuleFalse, Splits, decided, root, Right}

-- the branches that are missing, in their order: the next word stands in the first
abbrev pub to_come : PartialRow → Tree → List PartialRow
to_come part (split a t f) = to_come (decided part a true) t ++ to_come (decided part a false) f
to_come part (rule k) = []
to_come part floorless = []
to_come part missing = part ∷ []

module _ (many : ℕ) (rules : List (Form ℕ)) (NoPlan : PartialRow → Type 0) where
  -- a word may stand in a branch: it has one of the three forms, names an atom or a rule, and is right there
  pub data Stands (part : PartialRow) (w : ℕ) : Type 0 where
    splits : (a : ℕ) → w ≡ split_word a → a < 256 → Splits many part a → Stands part w
    refutes : (k : ℕ) → w ≡ rule_word k → k < 256 → RuleFalse rules part k → Stands part w
    excludes : w ≡ floorless_word → NoPlan part → Stands part w

  -- with these branches to come, the words cannot go on, or end: words after a finished tree; words that end early; a word that may
  -- not stand in the first of the branches
  abbrev pub Stops : List PartialRow → List ℕ → Type 0
  Stops [] [] = ⊥
  Stops [] (w ∷ ws) = Unit {0}
  Stops (part ∷ parts) [] = Unit {0}
  Stops (part ∷ parts) (w ∷ ws) = Stands part w → ⊥

  -- refusal 16 carries j: the words before are those of a tree as far as they go, and there they stop
  pub record Refused (ws : List ℕ) (j : ℕ) : Type 0 where
    pub pre : List ℕ
    pub post : List ℕ
    pub parts : pre ++ post ≡ ws
    pub place : j ≡ length pre
    pub begun : Tree
    pub in_order : InOrder begun
    pub words : words_of begun ≡ pre
    pub right : Right many rules NoPlan root begun
    pub stops : Stops (to_come root begun) post
