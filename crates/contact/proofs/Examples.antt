-- The rows and the points of a few sheets, for both questions, and values by Kleene's tables, by computing. Assumes nothing.
use mathlib.Core.Bool.{decide, true, false}
use mathlib.Core.Path.{◌≡◌, refl}
use mathlib.Core.List.{List, [], ◌∷◌, map}
use Prim.Native.Nat.{ℕ}
use native.Mathlib.Decide.{ℕ_discrete}
use lib.ListN.{length, drop}
use Rattle.formula.specs.Formula.{Term, Atom, Form, Formula, Name}
use Rattle.formula.specs.Same.{name_discrete, equal_atom, same_atom}
use Rattle.evalset.specs.Bit.{bit}
use Rattle.contact.specs.Question.{Question, plain, building}
use Rattle.contact.specs.Numbering.{names_of, row_atoms}
use Rattle.contact.specs.Row.{Row, rules_true, Three, is, unknown}
use Rattle.contact.specs.Kleene.{kleene_value}
use Rattle.contact.specs.Plan.{separated, may, allowed, fills, partners, leads, given, row_marks}
use Rattle.contact.specs.Pieces.{allowed_ones, grown, grown_by, whole_piece, piece_meets, check_pieces, piece_given}
use Rattle.contact.specs.Check.{check, points_for, good, first_row, first_row_of}

-- the row and the points; the empty list is 'no plan'
abbrev Answer : Type 0
Answer = List (Row × List ℕ)

abbrev answer : Question → List (Formula Name) → Answer
answer q rules = map (λ row. (row, points_for q (length (names_of rules)) (row_marks (row_atoms rules) row))) (first_row_of q rules)

abbrev raw : Term Name
raw = Term.name (114 ∷ [])

abbrev cooked : Term Name
cooked = Term.name (99 ∷ [])

abbrev hall : Term Name
hall = Term.name (104 ∷ [])

abbrev touch : Formula Name
touch = Form.atom (Atom.contact raw cooked)

abbrev is_empty : Term Name → Formula Name
is_empty t = Form.atom (Atom.empty t)

-- C(raw,cooked), as P2
abbrev touching : List (Formula Name)
touching = touch ∷ []

-- ~C(raw,cooked) / ~raw=0 / ~cooked=0, as P3
abbrev apart : List (Formula Name)
apart = Form.negation touch ∷ Form.negation (is_empty raw) ∷ Form.negation (is_empty cooked) ∷ []

-- the same, and T | hall=0: a third name is used
abbrev third : List (Formula Name)
third =
    Form.negation touch ∷ Form.negation (is_empty raw) ∷ Form.negation (is_empty cooked)
    ∷ Form.disjunction Form.truth (is_empty hall) ∷ []

-- raw=0 | ~raw=0, as P9
abbrev either : List (Formula Name)
either = Form.disjunction (is_empty raw) (Form.negation (is_empty raw)) ∷ []

-- raw=0: no floor is left
abbrev nothing : List (Formula Name)
nothing = is_empty raw ∷ []

-- ~1=0: no name is used
abbrev unnamed : List (Formula Name)
unnamed = Form.negation (is_empty Term.one) ∷ []

-- C(raw,cooked) / C(cooked,raw) / ~C(-cooked,-raw): the contact is taken from its first writing; from the last it would have the points 2 and 3
abbrev exchanged : List (Formula Name)
exchanged =
    touch ∷ Form.atom (Atom.contact cooked raw)
    ∷ Form.negation (Form.atom (Atom.contact (Term.complement cooked) (Term.complement raw))) ∷ []

-- a question, rules, and the answer
abbrev sheets : List ((Question × List (Formula Name)) × Answer)
sheets =
    ((plain, touching), ((true ∷ []), 1 ∷ 2 ∷ []) ∷ [])
    -- all three evaluations but 0 are one piece
    ∷ ((building, touching), ((true ∷ []), 1 ∷ 2 ∷ 3 ∷ []) ∷ [])
    ∷ ((plain, apart), ((false ∷ false ∷ false ∷ []), 1 ∷ 2 ∷ []) ∷ [])
    -- the two regions do not hang together, since no floor belongs to neither
    ∷ ((building, apart), [])
    ∷ ((plain, third), ((false ∷ false ∷ false ∷ true ∷ []), 1 ∷ 2 ∷ []) ∷ [])
    -- they do through a third: every evaluation but 0 that is not both raw and cooked
    ∷ ((building, third), ((false ∷ false ∷ false ∷ false ∷ []), 1 ∷ 2 ∷ 4 ∷ 5 ∷ 6 ∷ []) ∷ [])
    ∷ ((plain, either), ((false ∷ []), 1 ∷ []) ∷ [])
    ∷ ((building, either), ((false ∷ []), 1 ∷ []) ∷ [])
    ∷ ((plain, nothing), [])
    ∷ ((plain, unnamed), ((false ∷ []), 0 ∷ []) ∷ [])
    ∷ ((building, unnamed), ((false ∷ []), 0 ∷ []) ∷ [])
    ∷ ((plain, exchanged), ((true ∷ false ∷ []), 1 ∷ 3 ∷ []) ∷ [])
    -- without rule 1 cooked has the number 0 and is the first term
    ∷ ((plain, drop 1 exchanged), ((true ∷ false ∷ []), 1 ∷ 3 ∷ []) ∷ [])
    ∷ []

-- all of them, computed
pub sheets_answered : map (λ s. answer s.0.0 s.0.1) sheets ≡ map (λ s. s.1) sheets
unfolding decide ℕ_discrete name_discrete equal_atom same_atom bit separated may allowed fills partners leads check given allowed_ones grown grown_by whole_piece piece_meets check_pieces piece_given points_for rules_true good first_row
sheets_answered = refl

-- ---- values where no atom is decided

-- formulas over the atom 0, and their values: F & X, T | X, F -> X, X <-> X, X | ~X
abbrev values : List (Form ℕ × Three)
values =
    (Form.conjunction Form.falsity (Form.atom 0), is false) ∷ (Form.disjunction Form.truth (Form.atom 0), is true)
    ∷ (Form.implication Form.falsity (Form.atom 0), is true) ∷ (Form.equivalence (Form.atom 0) (Form.atom 0), unknown)
    ∷ (Form.disjunction (Form.atom 0) (Form.negation (Form.atom 0)), unknown) ∷ []

pub values_computed : map (λ w. kleene_value (λ i. unknown) w.0) values ≡ map (λ w. w.1) values
values_computed = refl
