-- For proofs: the contract of `signed`, which only `compile_rule` uses: the code of a sign, and the row of an atom that is none of those before,
-- over every list of atoms that the arrays keep, and every atom that the sign makes. Assumes nothing.
use Rattle.std.specs.Prelude.{Bool, true, false, ◌≡◌, List, ℕ, ◌+◌, ◌<◌, eqb, length, set}
use Rattle.formula.specs.Formula.{Atom}
use Rattle.spelling.specs.Kept.{Keeps, Spells, Compares, Stores}
use Rattle.kleene.specs.Code.{atom_sign}
use Rattle.compile.specs.Kinds.{atom_kind, sign_by}
use Rattle.compile.specs.Machine.{place_in}

-- a sign of an atom finds its row, shorter than the order, and there are atoms that the arrays keep
unfoldable pub Signing : List ℕ → List ℕ → List Bool → ℕ → List ℕ → ℕ → ℕ → Type 0
Signing kept lens contacts many row len kind = atom_kind kind ≡ true → Compares kept lens contacts many row len (eqb kind 14) × (len < 256)

-- the code is that of the sign, or of the atom's place; the row is kept where that is behind the atoms and below 16
pub record Signs (kept lens : List ℕ) (contacts : List Bool) (many : ℕ) (row : List ℕ) (len kind r : ℕ) (keptOut lensOut : List ℕ) : Type 0 where
  pub other : atom_kind kind ≡ false → r ≡ sign_by kind
  pub placed : atom_kind kind ≡ true → (atoms : List (Atom ℕ)) (a : Atom ℕ) → many ≡ length atoms → Keeps kept lens contacts atoms
      → Spells row len (eqb kind 14) a → r ≡ atom_sign (place_in atoms a)
  pub same : (r ≡ 7 + many → ⊥) → (keptOut ≡ kept) × (lensOut ≡ lens)
  pub stored : r ≡ 7 + many → many < 16 → (atom_kind kind ≡ true) × Stores kept row len many keptOut × (lensOut ≡ set lens many len)
