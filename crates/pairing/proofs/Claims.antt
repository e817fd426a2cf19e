-- The claims of this crate, each with the file that proves it: the list has the words of all pairs, and a row passes a table's test
-- exactly if some floor that counts gives its atoms their values, be they all atoms or the first ones. A function's contract is what is assumed of
-- its result here, under its name in specs/. Assumes nothing.
use mathlib.Core.Bool.{Bool, true}
use mathlib.Core.Path.{◌≡◌, sym, subst}
use mathlib.Core.Logic.{◌↔◌}
use mathlib.Core.List.{List, map}
use Prim.Native.Nat.{ℕ, ◌+◌, ◌-◌, ◌*◌, ◌/◌, ◌^◌, ◌≤◌, ◌<◌}
use native.Mathlib.Omega.{arith}
use lib.ListN.{length, take, length-map}
use Rattle.formula.specs.Formula.{Atom}
use Rattle.lists.specs.Search.{In, below}
use Rattle.contact.specs.Meaning.{Floor}
use Rattle.contact.specs.Question.{plain, Counts}
use Rattle.contact.specs.Numbering.{AtomBelow}
use Rattle.contact.specs.Row.{is, RealisesPart}
use Rattle.contact.specs.Plan.{row_marks}
use Rattle.contact.specs.Check.{check}
use Rattle.contact.proofs.Claims as contact
use Rattle.search.specs.declared.Chart.{Chart}
use Rattle.search.specs.Rows.{row_bits}
use Rattle.search.specs.Compiled.{Compiled, contact_at}
use Rattle.search.proofs.Rows.{row_length}
use Rattle.pairing.specs.Words.{Spelt, Contacts, Serving, lone, row_test, Judges}
use Rattle.pairing.specs.Listed.{ListSays}
use Rattle.pairing.proofs.Serving

-- ---- the list (Listing, Serving)

-- words_of lists the words of the pairs of evaluations that points may have, each pair's and no other
pub listed_serves : (chart : Chart) (list list' : List ℕ) (r : ℕ) → ListSays chart list list' r → (atoms : List (Atom ℕ)) → Compiled chart atoms
    → Serving chart.names atoms (take r list')
listed_serves chart list list' r says = says.are

-- contacts_of has the atoms that are contacts
pub contacts_are : (chart : Chart) (atoms : List (Atom ℕ)) (w : ℕ) → Compiled chart atoms → Spelt chart.atoms (contact_at chart) w → Contacts atoms w
contacts_are = Serving.contacts_spelt

-- ---- the test (Judging)

module _ (names : ℕ) (atoms : List (Atom ℕ)) (ws : List ℕ) (contacts s d k row : ℕ) (table : List ℕ) (judges : Judges ws contacts s d row table)
    (whole : k + d + s ≡ length atoms) (few : length atoms ≤ 16) (low : row < 2 ^ k) (are : Contacts atoms contacts) (serving : Serving names atoms ws) where
  -- the test of a row is its check
  pub judged_is : (e : ℕ) → e < 2 ^ d
      → row_test table (lone s ws) (contacts / 2 ^ s) (2 ^ d - 1) (row * 2 ^ d + e) ≡ check names (row_marks atoms (row_bits (k + d) (row * 2 ^ d + e)))
  unfolding Judges
  judged_is = judges names atoms k whole few low are serving

  -- so it is passed exactly if some floor that counts gives the row's atoms their values
  pub judged_exactly : ((a : Atom ℕ) → In a atoms → AtomBelow names a) → (e : ℕ) → e < 2 ^ d
      → (row_test table (lone s ws) (contacts / 2 ^ s) (2 ^ d - 1) (row * 2 ^ d + e) ≡ true)
      ↔ ∥ ((F : Floor ℕ) × Counts plain (below names) F × RealisesPart F atoms (map is (row_bits (k + d) (row * 2 ^ d + e)))) ∥₁
  judged_exactly named e l =
      let w =
      contact.check_exactly plain names atoms (map is (row_bits (k + d) (row * 2 ^ d + e))) named
      (omega (arith, length-map (row_bits (k + d) (row * 2 ^ d + e)) is, row_length (k + d) (row * 2 ^ d + e))) in
      subst (λ (b : Bool). (b ≡ true) ↔ ∥ ((F : Floor ℕ) × Counts plain (below names) F × RealisesPart F atoms (map is (row_bits (k + d) (row * 2 ^ d + e)))) ∥₁) (sym (judged_is e l))
      w
