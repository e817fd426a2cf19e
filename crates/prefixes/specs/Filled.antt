-- For proofs: what the private functions ensure, the array of bits filled up to a place. The row of m atoms with the number p has the place
-- 2 ^ m + p. Assumes nothing.
use Rattle.std.specs.Prelude.{Bool, false, ◌&&◌, ◌||◌, ◌≡◌, List, ℕ, ◌+◌, ◌^◌, ◌≤◌, ◌<◌, eqb, length}
use Rattle.formula.specs.Formula.{Atom}
use Rattle.contact.specs.Plan.{row_marks}
use Rattle.contact.specs.Check.{check}
use Rattle.search.specs.Rows.{row_bits}
use Rattle.search.specs.Compiled.{limit}
use Rattle.pairing.specs.Words.{Contacts, Serving}
use Rattle.pairing.specs.Listed.{seen_at}

-- the bit at h is set, if the value is true
pub record Marked (h : ℕ) (value : Bool) (before after : List ℕ) : Type 0 where
  pub long : length after ≡ length before
  pub bits : (j : ℕ) → seen_at after j ≡ (seen_at before j || (eqb j h && value))

-- those from top + start up to top + end, by the test of their numbers
pub record Tested (test : ℕ → Bool) (top start end : ℕ) (before after : List ℕ) : Type 0 where
  pub long : length after ≡ length before
  pub under : (h : ℕ) → h < top + start → seen_at after h ≡ seen_at before h
  pub here : (row : ℕ) → start ≤ row → row < end → seen_at after (top + row) ≡ (seen_at before (top + row) || test row)
  pub over : (h : ℕ) → top + end ≤ h → seen_at after h ≡ seen_at before h

-- the bits below `place` are the checks of their rows, and those from there on are clear
pub record FilledTo (names : ℕ) (atoms : List (Atom ℕ)) (place : ℕ) (bits : List ℕ) : Type 0 where
  pub are : (m row : ℕ) → m ≤ length atoms → row < 2 ^ m → 2 ^ m + row < place → seen_at bits (2 ^ m + row) ≡ check names (row_marks atoms (row_bits m row))
  pub none : (h : ℕ) → place ≤ h → seen_at bits h ≡ false

-- n atoms, of which the list has the words of pairs
pub record Source (ws : List ℕ) (contacts n names : ℕ) (atoms : List (Atom ℕ)) : Type 0 where
  pub counted : n ≡ length atoms
  pub few : n ≤ limit
  pub contacts_are : Contacts atoms contacts
  pub serving : Serving names atoms ws

-- filled from one place to another
pub record Fills (ws : List ℕ) (contacts n from to : ℕ) (before after : List ℕ) : Type 0 where
  pub long : length after ≡ length before
  pub fills : (names : ℕ) (atoms : List (Atom ℕ)) → Source ws contacts n names atoms → FilledTo names atoms from before → FilledTo names atoms to after
