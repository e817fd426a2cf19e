-- What is meant: the text of an atom as it was first written, for a program that prints trees; no document asks for it. Assumes nothing.
use Rattle.std.specs.Prelude.{cond, List, [], ℕ, ltb, length, get_or}
use Rattle.formula.specs.Formula.{Term, Atom, Form, Formula, Name}
use Rattle.contact.specs.Numbering.{different_atoms}
use Rattle.printing.specs.Text.{text_of}

-- the text of the different atom with this number, as it was written at its first place: that of the formula that is this atom alone;
-- none of a number that no atom has
unfoldable pub atom_text_of : List (Formula Name) → ℕ → List ℕ
atom_text_of rules which =
    let atoms = different_atoms rules in cond (ltb which (length atoms)) (text_of (Form.atom (get_or atoms which (Atom.empty Term.zero)))) []
