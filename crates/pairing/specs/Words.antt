-- What is computed, and for proofs what the test of rows ensures: atoms as the bits of a word. Of n atoms, atom i is bit n - 1 - i, as in
-- the number of a row. The word of a pair of evaluations has the atoms that the pair serves; a row's word has the atoms that it demands.
-- `Judges` is the contract of `judged`, which only our own crates call. Assumes nothing.
use Rattle.std.specs.Prelude.{Bool, true, not, ◌&&◌, ◌||◌, ◌≡◌, List, ℕ, ◌+◌, ◌-◌, ◌*◌, ◌/◌, ◌^◌, ◌≤◌, ◌<◌, eqb, length}
use Rattle.std.specs.Int.Bits.{bit_and, bit_xor}
use Rattle.formula.specs.Formula.{Atom}
use Rattle.formula.specs.Atoms.{is_contact}
use Rattle.lists.specs.Search.{In, any}
use Rattle.evalset.specs.Bit.{bit}
use Rattle.contact.specs.Plan.{may, mark, row_marks}
use Rattle.contact.specs.Check.{check}
use Rattle.contact.specs.Pairs.{serves}
use Rattle.search.specs.Rows.{row_bits}
use Rattle.search.specs.Compiled.{atom_at}
use Rattle.pairing.specs.Sums.{entry}

-- ---- words of atoms

-- the word that has bit n - 1 - i where f passes i
pub record Spelt (n : ℕ) (f : ℕ → Bool) (w : ℕ) : Type 0 where
  pub small : w < 2 ^ n
  pub bits : (p : ℕ) → p < n → bit w p ≡ f (n - 1 - p)

-- the word of the atoms that are contacts
abbrev pub Contacts : List (Atom ℕ) → ℕ → Type 0
Contacts atoms w = Spelt (length atoms) (λ i. is_contact (atom_at atoms i)) w

-- the pair serves atom i
abbrev pub serves_at : List (Atom ℕ) → ℕ → ℕ → ℕ → Bool
serves_at atoms e f i = serves e f (mark (atom_at atoms i) true)

-- the word of a pair
abbrev pub IsWord : List (Atom ℕ) → ℕ → ℕ → ℕ → Type 0
IsWord atoms e f w = Spelt (length atoms) (serves_at atoms e f) w

-- the list has the words of the pairs of evaluations that points may have over so many names, and no other
pub record Serving (names : ℕ) (atoms : List (Atom ℕ)) (ws : List ℕ) : Type 0 where
  pub each : {w : ℕ} → In w ws → (e : ℕ) × (f : ℕ) × (may names e ≡ true) × (may names f ≡ true) × IsWord atoms e f w
  pub every : (e f : ℕ) → may names e ≡ true → may names f ≡ true → (w : ℕ) × In w ws × IsWord atoms e f w

-- ---- the test of rows

-- the word has no bit outside `left`
unfoldable pub within : ℕ → ℕ → Bool
within left k = eqb (bit_and k (4294967295 - left)) 0

-- some word has none of the atoms before its last s
unfoldable pub lone : ℕ → List ℕ → Bool
lone s ws = any (λ w. eqb (w / 2 ^ s) 0) ws

-- the demanded atoms of a row, by the contacts
abbrev pub demanded : ℕ → ℕ → ℕ
demanded contacts row = bit_xor row contacts

-- the test of a row by a table: the words within what it demands have all of that, and one is there even if it demands nothing
unfoldable pub row_test : List ℕ → Bool → ℕ → ℕ → ℕ → Bool
row_test table one contacts low row =
    eqb (entry table (bit_and (demanded contacts row) low)) (demanded contacts row) && (one || not (eqb (demanded contacts row) 0))

-- by the table made of the list ws, the test of the 2 ^ d rows under the row is the check of each; s atoms come after them
unfoldable pub Judges : List ℕ → ℕ → ℕ → ℕ → ℕ → List ℕ → Type 0
Judges ws contacts s d row table =
    (names : ℕ) (atoms : List (Atom ℕ)) (k : ℕ) → k + d + s ≡ length atoms → length atoms ≤ 16 → row < 2 ^ k → Contacts atoms contacts
    → Serving names atoms ws → (e : ℕ) → e < 2 ^ d
    → row_test table (lone s ws) (contacts / 2 ^ s) (2 ^ d - 1) (row * 2 ^ d + e) ≡ check names (row_marks atoms (row_bits (k + d) (row * 2 ^ d + e)))
