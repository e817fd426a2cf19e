-- What is computed: the number of a sign of a form, and whether it is an atom's; last, for proofs, that sign and number agree. Assumes nothing.
use Rattle.std.specs.Prelude.{Bool, true, false, cond, ◌≡◌, refl, ℕ, eqb}
use Rattle.small_sheets.specs.declared.Sign.{Sign}

-- A sign's number: its place among the signs.
abbrev pub code_of : Sign → ℕ
code_of Sign.Nothing = 0
code_of Sign.All = 1
code_of Sign.True = 2
code_of Sign.False = 3
code_of Sign.Rest = 4
code_of Sign.Not = 5
code_of Sign.Empty = 6
code_of Sign.SpacedEmpty = 7
code_of Sign.Common = 8
code_of Sign.Either = 9
code_of Sign.Contact = 10
code_of Sign.Part = 11
code_of Sign.And = 12
code_of Sign.Or = 13
code_of Sign.If = 14
code_of Sign.ExactlyIf = 15
code_of Sign.Name = 16
code_of Sign.Second = 17
code_of Sign.Third = 18
code_of Sign.Rule = 19

abbrev pub is_of_atom : Sign → Bool
is_of_atom Sign.Contact = true
is_of_atom Sign.Part = true
is_of_atom Sign.Empty = true
is_of_atom Sign.SpacedEmpty = true
is_of_atom _ = false

-- The same of a number: it is that of such a sign.
abbrev pub is_number_of_atom : ℕ → Bool
is_number_of_atom n = cond (eqb n 6) true (cond (eqb n 7) true (cond (eqb n 10) true (eqb n 11)))

-- For proofs: of a sign and of its number the answer is the same.
pub of_atom_by_code : (s : Sign) → is_of_atom s ≡ is_number_of_atom (code_of s)
of_atom_by_code Sign.Nothing = refl
of_atom_by_code Sign.All = refl
of_atom_by_code Sign.True = refl
of_atom_by_code Sign.False = refl
of_atom_by_code Sign.Rest = refl
of_atom_by_code Sign.Not = refl
of_atom_by_code Sign.Empty = refl
of_atom_by_code Sign.SpacedEmpty = refl
of_atom_by_code Sign.Common = refl
of_atom_by_code Sign.Either = refl
of_atom_by_code Sign.Contact = refl
of_atom_by_code Sign.Part = refl
of_atom_by_code Sign.And = refl
of_atom_by_code Sign.Or = refl
of_atom_by_code Sign.If = refl
of_atom_by_code Sign.ExactlyIf = refl
of_atom_by_code Sign.Name = refl
of_atom_by_code Sign.Second = refl
of_atom_by_code Sign.Third = refl
of_atom_by_code Sign.Rule = refl
