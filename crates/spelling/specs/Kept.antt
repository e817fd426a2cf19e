-- For proofs: when arrays keep the symbols of a list of atoms, two symbols a byte, and the contracts of the functions, which only our own
-- crates call. Assumes nothing.
use Rattle.std.specs.Prelude.{Bool, false, cond, ◌≡◌, List, ℕ, ◌+◌, ◌*◌, ◌/◌, ◌%◌, ◌≤◌, ◌<◌, eqb, length, get_or, take}
use Rattle.std.proofs.Math.Decide.{ℕ_discrete}
use Rattle.formula.specs.Formula.{Atom}
use Rattle.formula.specs.Atoms.{is_contact}
use Rattle.formula.specs.Same.{same_atom}
use Rattle.lists.specs.Search.{In}
use Rattle.contact.specs.Numbering.{position}
use Rattle.search.specs.Compiled.{atom_at}
use Rattle.spelling.specs.Symbols.{symbols_of}

-- the symbol at place i of atom j: 128 bytes an atom, the first symbol of a byte in its lower half
unfoldable pub symbol_at : List ℕ → ℕ → ℕ → ℕ
symbol_at kept j i = cond (eqb (i % 2) 0) (get_or kept (128 * j + i / 2) 0 % 16) (get_or kept (128 * j + i / 2) 0 / 16)

-- the arrays keep the symbols of the atoms, how many each has, at most 256, and which of them are contacts
pub record Keeps (kept lens : List ℕ) (contacts : List Bool) (atoms : List (Atom ℕ)) : Type 0 where
  pub whole : length kept ≡ 2048
  pub few : length atoms ≤ 16
  pub long : (j : ℕ) → j < length atoms → get_or lens j 0 ≡ length (symbols_of (atom_at atoms j))
  pub short : (j : ℕ) → j < length atoms → get_or lens j 0 ≤ 256
  pub symbols : (j i : ℕ) → j < length atoms → i < length (symbols_of (atom_at atoms j)) → symbol_at kept j i ≡ get_or (symbols_of (atom_at atoms j)) i 0
  pub signs : (j : ℕ) → j < length atoms → get_or contacts j false ≡ is_contact (atom_at atoms j)

-- a row of symbols, up to its length, is that of an atom
pub record Spells (row : List ℕ) (len : ℕ) (contact : Bool) (a : Atom ℕ) : Type 0 where
  pub row_is : take len row ≡ symbols_of a
  pub within : len ≤ length row
  pub short : len ≤ 256
  pub sign : contact ≡ is_contact a
  pub small : (s : ℕ) → In s (symbols_of a) → s < 16

-- ---- the number of an atom

-- there are such atoms
pub record Compares (kept lens : List ℕ) (contacts : List Bool) (many : ℕ) (row : List ℕ) (len : ℕ) (contact : Bool) : Type 0 where
  pub atoms : List (Atom ℕ)
  pub atom : Atom ℕ
  pub counted : many ≡ length atoms
  pub keeps : Keeps kept lens contacts atoms
  pub spells : Spells row len contact atom

-- the answer is the atom's place among those that are kept; how many they are where it is none of them
unfoldable pub Numbers : List ℕ → List ℕ → List Bool → ℕ → List ℕ → ℕ → Bool → ℕ → Type 0
Numbers kept lens contacts many row len contact r =
    (atoms : List (Atom ℕ)) (a : Atom ℕ) → many ≡ length atoms → Keeps kept lens contacts atoms → Spells row len contact a
    → r ≡ position (same_atom ℕ_discrete) atoms a

-- ---- one atom more

-- the array is whole, and the row's symbols are below 16
pub record Storing (kept row : List ℕ) (len number : ℕ) : Type 0 where
  pub whole : length kept ≡ 2048
  pub room : number < 16
  pub short : len ≤ 256
  pub small : (i : ℕ) → i < len → get_or row i 0 < 16

-- they stand at the number's place, and those of the numbers before it as they did
pub record Stores (kept : List ℕ) (row : List ℕ) (len number : ℕ) (out : List ℕ) : Type 0 where
  pub full : length out ≡ 2048
  pub there : (i : ℕ) → i < len → symbol_at out number i ≡ get_or row i 0
  pub elsewhere : (j i : ℕ) → j < number → i < 256 → symbol_at out j i ≡ symbol_at kept j i
