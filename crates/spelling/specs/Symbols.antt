-- For proofs: the terms of an atom as a list of symbols, in postfix order, by which the code compares them. That atoms are the same exactly if
-- their symbols are, or for C those with its terms exchanged, is `number_exactly` of proofs/Claims.antt. Assumes nothing.
use Rattle.std.specs.Prelude.{List, [], ◌∷◌, ◌++◌, ℕ, ◌+◌}
use Rattle.formula.specs.Formula.{Term, Atom}
use Rattle.lists.specs.Search.{collect}

-- a symbol for 0, 1, - , * and +, and one for each number of a name; for at most 11 names all are below 16
abbrev pub spelled : Term ℕ → List ℕ
spelled Term.zero = 0 ∷ []
spelled Term.one = 1 ∷ []
spelled (Term.name i) = (5 + i) ∷ []
spelled (Term.complement t) = spelled t ++ 2 ∷ []
spelled (Term.intersection s t) = spelled s ++ (spelled t ++ 3 ∷ [])
spelled (Term.union s t) = spelled s ++ (spelled t ++ 4 ∷ [])

abbrev pub terms_of : Atom ℕ → List (Term ℕ)
terms_of (Atom.contact s t) = s ∷ t ∷ []
terms_of (Atom.part s t) = s ∷ t ∷ []
terms_of (Atom.empty t) = t ∷ []

-- those of its terms, one after the other
abbrev pub symbols_of : Atom ℕ → List ℕ
symbols_of a = collect spelled (terms_of a)
