-- What is computed, and for proofs: the search over the atoms in order, true first, that closes a branch by a test, and the two tests: a
-- rule is false by Kleene's tables (Kleene); no floor that counts gives the decided atoms their values. The contracts of the solver name the
-- tests; no contract names `search`. Assumes nothing.
use Rattle.std.specs.Prelude.{Bool, true, false, not, ◌||◌, cond, ◌≡◌, List, [], ◌∷◌, ◌++◌, map, ℕ, zero, suc, length, get_or}
use Rattle.formula.specs.Formula.{Atom, Form}
use Rattle.lists.specs.Search.{any, or_else}
use Rattle.contact.specs.Question.{Question}
use Rattle.contact.specs.Row.{Row, Three, is, unknown, PartialRow, Extends}
use Rattle.contact.specs.Kleene.{kleene_value}
use Rattle.contact.specs.Plan.{marks_of}
use Rattle.contact.specs.Check.{passes, rows}

-- ---- tests that close branches

-- a test that closes branches is sound for the rows that pass: no such row extends what it closes
abbrev pub Sound : (Row → Bool) → (PartialRow → Bool) → Type 0
Sound passes test = (part : PartialRow) → test part ≡ true → (row : Row) → Extends row part → passes row ≡ false

-- and exact at the leaves: a whole row of n atoms that it leaves open passes
abbrev pub Exact : ℕ → (Row → Bool) → (PartialRow → Bool) → Type 0
Exact n passes test = (row : Row) → length row ≡ n → test (map is row) ≡ false → passes row ≡ true

-- ---- the two tests

-- the value is known, and false
abbrev pub refuted : Three → Bool
refuted (is b) = not b
refuted unknown = false

-- some rule is false
unfoldable pub refutes : List (Form ℕ) → PartialRow → Bool
refutes rules part = any (λ f. refuted (kleene_value (λ i. get_or part i unknown) f)) rules

-- some rule is false, or no floor that counts gives the decided atoms their values
unfoldable pub closes : Question → ℕ → List (Atom ℕ) → List (Form ℕ) → PartialRow → Bool
closes q names atoms rules part = refutes rules part || not (passes q names (marks_of atoms part))

-- ---- the search

-- the rows that begin with `row` and have d atoms more, in their order
abbrev pub under : Row → ℕ → List Row
under row d = map (λ ext. row ++ ext) (rows d)

-- the first row below `row` that no branch closes, with d atoms undecided
module _ (test : PartialRow → Bool) where
  abbrev pub search : ℕ → Row → List Row
  search zero row = let found = row ∷ [] in cond (test (map is row)) [] found
  search (suc d) row =
      let found = (let right = search d (row ++ false ∷ []) in or_else (search d (row ++ true ∷ [])) right) in
      cond (test (map is row)) [] found
