-- What is computed: the checker, a machine over the words with a list of branches to come, and the writer. `no_plan_said` tests whether no plan
-- gives a partial row's decided atoms their values. Assumes nothing.
use Rattle.std.specs.Prelude.{Bool, true, false, not, ◌&&◌, cond, List, [], ◌∷◌, ◌++◌, map, ℕ, zero, suc, ◌/◌, ◌%◌, eqb, ltb, length, get_or, Result, Ok, Err}
use Rattle.formula.specs.Formula.{Atom, Form, Formula, Name}
use Rattle.lists.specs.Search.{first, from, or_else}
use Rattle.contact.specs.Row.{Row, Three, is, unknown, PartialRow}
use Rattle.contact.specs.Question.{Question, plain}
use Rattle.contact.specs.Numbering.{names_of, different_atoms, numbered_atoms, row_atoms}
use Rattle.contact.specs.Plan.{marks_of}
use Rattle.contact.specs.Check.{passes}
use Rattle.contact.specs.Kleene.{kleene_value}
use Rattle.contact.specs.Tableau.{refuted}
use Rattle.trees.specs.declared.NotClosed.{NotClosed}
use Rattle.trees.specs.Trees.{Tree, split, rule, floorless}
use Rattle.trees.specs.Closed.{value_in, decided, root}

-- ---- the checker

-- what a word does in a branch
pub data Does : Type 0 where
  splits : ℕ → Does
  closes : Does
  wrong : Does

abbrev pub is_unknown : Three → Bool
is_unknown (is b) = false
is_unknown unknown = true

-- rule k, counted from 1, is false in the branch; a number of no rule is of none that is
abbrev pub false_there : List (Form ℕ) → PartialRow → ℕ → Bool
false_there rules part zero = false
false_there rules part (suc k) = refuted (kleene_value (value_in part) (get_or rules k Form.truth))

-- the branches to come after a word, and what it does to the verdict of the words after it
abbrev pub after : Does → PartialRow → List PartialRow → List PartialRow
after (splits a) part parts = decided part a true ∷ (decided part a false ∷ parts)
after closes part parts = parts
after wrong part parts = parts

-- refusal 16 with this index
abbrev pub not_closed_at : {A : Type 0} → ℕ → Result A NotClosed
not_closed_at i = Err (record { at = i })

abbrev pub unless : Does → ℕ → Result Unit NotClosed → Result Unit NotClosed
unless (splits a) i r = r
unless closes i r = r
unless wrong i r = not_closed_at i

module _ (many : ℕ) (rules : List (Form ℕ)) (no_plan_said : PartialRow → Bool) where
  -- a word by its kind and the rest of its bits
  abbrev pub by_kind : PartialRow → ℕ → ℕ → Does
  by_kind part kind body =
      cond (eqb kind 5) (cond (ltb body many && is_unknown (value_in part body)) (splits body) wrong)
      (cond (eqb kind 6) (cond (ltb body 256 && false_there rules part body) closes wrong)
      (cond (eqb kind 7) (cond (eqb body 0 && no_plan_said part) closes wrong) wrong))

  unfoldable pub does : PartialRow → ℕ → Does
  does part w = by_kind part (w / 0x10000000) (w % 0x10000000)

  -- what the words from index i on give, with these branches to come
  abbrev pub run : ℕ → List PartialRow → List ℕ → Result Unit NotClosed
  run i [] [] = Ok tt
  run i [] (w ∷ ws) = not_closed_at i
  run i (part ∷ parts) [] = not_closed_at i
  run i (part ∷ parts) (w ∷ ws) =
      let d = does part w in
      let r = run (suc i) (after d part parts) ws in
      unless d i r

  unfoldable pub checked : List ℕ → Result Unit NotClosed
  checked ws = run 0 (root ∷ []) ws

-- ---- the writer: by how many atoms are left; a list of one tree, or of none where a row stays open

-- the split on atom a of the trees of its branches
abbrev pub joined : ℕ → List Tree → List Tree → List Tree
joined a [] fs = []
joined a (t ∷ ts) [] = []
joined a (t ∷ ts) (f ∷ fs) = split a t f ∷ []

-- the first rule that is false in the branch
abbrev pub refuting : List (Form ℕ) → PartialRow → List ℕ
refuting rules part = first (false_there rules part) (from 1 (length rules))

module _ (rules : List (Form ℕ)) (no_plan_said : PartialRow → Bool) where
  -- the branch closed: kind 6 before kind 7
  unfoldable pub closing : PartialRow → List Tree
  closing part = or_else (map rule (refuting rules part)) (cond (no_plan_said part) (floorless ∷ []) [])

  abbrev pub write : ℕ → Row → List Tree
  write zero row = closing (map is row)
  write (suc d) row =
      let t = write d (row ++ true ∷ []) in
      let f = write d (row ++ false ∷ []) in
      or_else (closing (map is row)) (joined (length row) t f)

-- ---- the test of the floors that count: the check of the decided atoms
unfoldable pub no_floor : Question → ℕ → List (Atom ℕ) → PartialRow → Bool
no_floor q names atoms part = not (passes q names (marks_of atoms part))

-- ---- of rules as read

-- kind 7's test
abbrev pub no_plan_in : List (Formula Name) → PartialRow → Bool
no_plan_in rules part = no_floor plain (length (names_of rules)) (row_atoms rules) part

unfoldable pub checked_of : List (Formula Name) → List ℕ → Result Unit NotClosed
checked_of rules ws = checked (length (different_atoms rules)) (numbered_atoms rules) (no_plan_in rules) ws

-- one tree where there is no plan, and none where there is one
unfoldable pub trees_of : List (Formula Name) → List Tree
trees_of rules = write (numbered_atoms rules) (no_plan_in rules) (length (different_atoms rules)) []
