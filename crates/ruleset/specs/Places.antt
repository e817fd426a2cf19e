-- For proofs: where an atom is written first among rules, and where its sign stands first in their code; the contract of `first_writing`.
-- Assumes nothing.
use Rattle.std.specs.Prelude.{false, cond, ◌≡◌, List, [], ◌∷◌, ◌++◌, ℕ, suc, ◌<◌, eqb, leb, length, get_or, take, Option, Some, None}
use Rattle.lists.specs.Search.{In, keep, elem}
use Rattle.formula.specs.Formula.{Term, Atom, Form, Formula, Name}
use Rattle.formula.specs.Atoms.{atoms_of}
use Rattle.formula.specs.Same.{name_discrete, same_atom}
use Rattle.contact.specs.Numbering.{all_atoms, position, different_atoms}
use Rattle.solver.specs.Coded.{part}
use Rattle.ruleset.specs.declared.AtomPlace.{AtomPlace}
use Rattle.ruleset.specs.declared.Compiling.{Compiling}
use Rattle.ruleset.specs.Texts.{CompiledRules}

-- the atom with a number; of a number that none has, 0=0
abbrev pub atom_at : List (Atom Name) → ℕ → Atom Name
atom_at xs i = get_or xs i (Atom.empty Term.zero)

-- the atoms of the rule with a number
abbrev pub atoms_in : List (Formula Name) → ℕ → List (Atom Name)
atoms_in rules k = atoms_of (get_or rules k Form.truth)

-- the atoms that stand before the place
abbrev pub atoms_before : List (Formula Name) → AtomPlace → List (Atom Name)
atoms_before rules p = all_atoms (take p.rule rules) ++ take p.atom (atoms_in rules p.rule)

-- at the place is the different atom with the number i, as it was written first: none that stands before is the same
pub record Writing (rules : List (Formula Name)) (i : ℕ) (p : AtomPlace) : Type 0 where
  pub rule_there : p.rule < length rules
  pub atom_there : p.atom < length (atoms_in rules p.rule)
  pub is_atom : atom_at (atoms_in rules p.rule) p.atom ≡ atom_at (different_atoms rules) i
  pub none_before : (y : Atom Name) → In y (atoms_before rules p) → same_atom name_discrete y (atom_at (different_atoms rules) i) ≡ false

unfoldable pub WritingIs : Compiling → List ℕ → ℕ → AtomPlace → Type 0
WritingIs c code i p = (rules : List (Formula Name)) (kept : List ℕ) → CompiledRules rules c kept code → Writing rules i p

-- ---- in the code

-- the signs of atoms are those from 7 on
abbrev pub atom_signs : List ℕ → List ℕ
atom_signs cs = keep (leb 7) cs

-- how many of them stand before the first sign s
unfoldable pub signs_to : List ℕ → ℕ → ℕ
signs_to cs s = position eqb (atom_signs cs) s

-- where the sign s stands first, if it stands in a part: in which one, the first having the number k, and after how many signs of atoms there
unfoldable pub place_from : ℕ → List ℕ → ℕ → ℕ → List ℕ → Option AtomPlace
place_from s code from k [] = None
place_from s code from k (end ∷ ends) = let r = place_from s code end (suc k) ends in cond (elem s (part code from end)) (Some (record { rule = k; atom = signs_to (part code from end) s })) r
