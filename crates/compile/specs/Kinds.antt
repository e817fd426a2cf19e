-- What is computed: what a token of the order asks for, by the number of its kind (specs/Arrays.antt of the lexer): 0 is ->, 1 <->, 2 |, 3
-- &, 4 +, 5 *, 6 -, 7 ~, 10 =0, 12 T, 13 F, 14 C, 15 <=, 16 0, 17 1, 18 a name. Sets are known by their members. Assumes nothing.
use Rattle.std.specs.Prelude.{Bool, true, cond, ℕ, ◌+◌, eqb, leb}
use Rattle.evalset.specs.Sets.{none_of, full_of, name_set, meet_of, join_of, minus_of}

-- how many sets it takes off the stack
unfoldable pub taken_by : ℕ → ℕ
taken_by k = cond (eqb k 4) 2 (cond (eqb k 5) 2 (cond (eqb k 14) 2 (cond (eqb k 15) 2 (cond (eqb k 6) 1 (cond (eqb k 10) 1 0)))))

-- it belongs to a term: + * - 0 1 or a name
unfoldable pub term_kind : ℕ → Bool
term_kind k = cond (eqb k 4) true (cond (eqb k 5) true (cond (eqb k 6) true (leb 16 k)))

-- it makes an atom: =0, C or <=
unfoldable pub atom_kind : ℕ → Bool
atom_kind k = cond (eqb k 10) true (cond (eqb k 14) true (eqb k 15))

-- how many names it is
unfoldable pub names_by : ℕ → ℕ
names_by k = cond (eqb k 18) 1 0

-- the set of a term's token: the name's number, and the sets that it is put on
unfoldable pub set_by : ℕ → ℕ → (ℕ → Bool) → (ℕ → Bool) → ℕ → Bool
set_by k name x y =
    cond (eqb k 16) none_of
    (cond (eqb k 17) full_of
    (cond (eqb k 18) (name_set name)
    (cond (eqb k 6) (minus_of full_of x)
    (cond (eqb k 5) (meet_of x y) (join_of x y)))))

-- its symbol, by which atoms are compared (specs/Symbols.antt of spelling): the name's number stands behind the five signs
unfoldable pub symbol_by : ℕ → ℕ → ℕ
symbol_by k name = cond (eqb k 16) 0 (cond (eqb k 17) 1 (cond (eqb k 6) 2 (cond (eqb k 5) 3 (cond (eqb k 4) 4 (5 + name)))))

-- an atom's first and second set: "the term of <=(x,y) being x*-y", and only a contact has a second
unfoldable pub first_by : ℕ → (ℕ → Bool) → (ℕ → Bool) → ℕ → Bool
first_by k x y = cond (eqb k 15) (minus_of x y) x

unfoldable pub second_by : ℕ → (ℕ → Bool) → ℕ → Bool
second_by k y = cond (eqb k 14) y none_of

-- the code of a formula's token that makes no atom
unfoldable pub sign_by : ℕ → ℕ
sign_by k = cond (eqb k 7) 0 (cond (eqb k 3) 1 (cond (eqb k 2) 2 (cond (eqb k 0) 3 (cond (eqb k 1) 4 (cond (eqb k 13) 5 6)))))
