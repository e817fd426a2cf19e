-- What is computed, for each question: the check of a row, whole or partial (`passes`), the points (`points_for`), and the first row that passes
-- the check and makes the rules true (`first_row`); proofs/Claims.antt ties them to Row and Plan. Rules and atoms have numbers for names.
-- Assumes nothing.
use Rattle.std.specs.Prelude.{Bool, true, false, ◌&&◌, List, [], ◌∷◌, ◌++◌, map, ℕ, zero, suc, length}
use Rattle.formula.specs.Formula.{Atom, Form, Formula, Name}
use Rattle.lists.specs.Search.{any, all, first, keep, elem}
use Rattle.contact.specs.Question.{Question, plain, building}
use Rattle.contact.specs.Numbering.{names_of, numbered_atoms, row_atoms}
use Rattle.contact.specs.Row.{Row, rules_true}
use Rattle.contact.specs.Plan.{Mark, touching, apart, vacant, inhabited, evaluations, row_marks, allowed, fills, leads, given}
use Rattle.contact.specs.Pieces.{check_pieces, piece_given}

-- the mark has its witness
abbrev pub witnessed : ℕ → List Mark → Mark → Bool
witnessed names ms (touching x y) = any (leads names ms x y) (evaluations names)
witnessed names ms (apart x y) = true
witnessed names ms (vacant t) = true
witnessed names ms (inhabited t) = any (fills names ms t) (evaluations names)

-- the check for the plain question: some evaluation is allowed, and every mark has its witness
unfoldable pub check : ℕ → List Mark → Bool
check names ms = any (allowed names ms) (evaluations names) && all (witnessed names ms) ms

-- the marks pass the check
abbrev pub passes : Question → ℕ → List Mark → Bool
passes plain names ms = check names ms
passes building names ms = check_pieces names ms

-- the evaluations that they give
abbrev pub given_by : Question → ℕ → List Mark → List ℕ
given_by plain names ms = given names ms
given_by building names ms = piece_given names ms

-- the points: these evaluations, ascending, each once
unfoldable pub points_for : Question → ℕ → List Mark → List ℕ
points_for q names ms = keep (λ e. elem e (given_by q names ms)) (evaluations names)

-- the rows of n atoms in their order
abbrev pub rows : ℕ → List Row
rows zero = [] ∷ []
rows (suc n) = map (λ row. true ∷ row) (rows n) ++ map (λ row. false ∷ row) (rows n)

-- the row makes the rules true and passes the check
unfoldable pub good : Question → ℕ → List (Atom ℕ) → List (Form ℕ) → Row → Bool
good q names atoms rules row = rules_true rules row && passes q names (row_marks atoms row)

-- "The answer uses the first realisable row that makes all rules true": a list of one; the empty list is 'no plan'
unfoldable pub first_row : Question → ℕ → List (Atom ℕ) → List (Form ℕ) → List Row
first_row q names atoms rules = first (good q names atoms rules) (rows (length atoms))

-- the same of rules as read
abbrev pub first_row_of : Question → List (Formula Name) → List Row
first_row_of q rules = first_row q (length (names_of rules)) (row_atoms rules) (numbered_atoms rules)
