-- What is computed, and for proofs what the functions ensure: the list of the different words of pairs, and what is put into a table.
-- `ListSays` is the contract of `words_of`, which only our own crates call. Assumes nothing.
use Rattle.std.specs.Prelude.{Bool, true, false, ◌&&◌, ◌||◌, ◌≡◌, List, [], ◌∷◌, ◌⊎◌, ℕ, zero, suc, ◌+◌, ◌*◌, ◌/◌, ◌%◌, ◌^◌, ◌≤◌, ◌<◌, eqb, length, get_or, take}
use Rattle.std.specs.Int.Bits.{bit_and}
use Rattle.formula.specs.Formula.{Atom}
use Rattle.lists.specs.Search.{In, any, collect, below}
use Rattle.evalset.specs.Bit.{bit}
use Rattle.evalset.specs.Sets.{room}
use Rattle.evalset.specs.Most.{most}
use Rattle.search.specs.declared.Chart.{Chart}
use Rattle.search.specs.Compiled.{limit, Compiled, contact_at}
use Rattle.pairing.specs.Sums.{entry}
use Rattle.pairing.specs.Words.{Spelt, Serving, within}

-- ---- pairs

-- how many pairs n evaluations have, each one with those up to it
unfoldable pub pair_count : ℕ → ℕ
pair_count zero = 0
pair_count (suc n) = pair_count n + suc n

-- the first n of an array
unfoldable pub entries_of : List ℕ → ℕ → List ℕ
entries_of words n = collect (λ f. entry words f ∷ []) (below n)

-- the words up to e fit the list, and have a bit each among the words that are seen
abbrev pub Small : List ℕ → ℕ → ℕ → Type 0
Small words e long = (f : ℕ) → f ≤ e → (entry words f < 65536) × (entry words f < 64 * long)

-- ---- the list

-- the word k was seen
abbrev pub seen_at : List ℕ → ℕ → Bool
seen_at seen k = bit (get_or seen (k / 64) 0) (k % 64)

-- what was seen is in the list
abbrev pub Seen : List ℕ → List ℕ → Type 0
Seen seen ws = (k : ℕ) → seen_at seen k ≡ true → In k ws

-- the words ks are noted: the list's first places, up to r, have what the first `count` had, and ks
pub record Noted (ks seen list : List ℕ) (count : ℕ) (seen' list' : List ℕ) (r : ℕ) : Type 0 where
  pub long_seen : length seen' ≡ length seen
  pub long_list : length list' ≡ length list
  pub few : r ≤ count + length ks
  pub only : {w : ℕ} → In w (take r list') → In w (take count list) ⊎ In w ks
  pub noted : Seen seen (take count list) → Seen seen' (take r list')
  pub there : Seen seen (take count list) → {w : ℕ} → In w (take count list) ⊎ In w ks → In w (take r list')

-- nothing was seen yet, and there is room for every word; the evaluations are the chart's
pub record Listable (chart : Chart) (contacts top : ℕ) (seen list : List ℕ) : Type 0 where
  pub few : chart.atoms ≤ limit
  pub contacts_are : Spelt chart.atoms (contact_at chart) contacts
  pub some : 0 < top
  pub fits : top ≤ room
  pub top_is : chart.names ≤ most → top ≡ 2 ^ chart.names
  pub none : (k : ℕ) → seen_at seen k ≡ false
  pub bits : 2 ^ chart.atoms ≤ 64 * length seen
  pub places : pair_count top ≤ length list

-- the first r places have the words of the chart's pairs
pub record ListSays (chart : Chart) (list list' : List ℕ) (r : ℕ) : Type 0 where
  pub long : length list' ≡ length list
  pub fits : r ≤ length list'
  pub are : (atoms : List (Atom ℕ)) → Compiled chart atoms → Serving chart.names atoms (take r list')

-- ---- a table

-- r is t, and the words of which h passes the bits
pub record Takes (h : ℕ → ℕ → Bool) (t r : List ℕ) : Type 0 where
  pub long : length r ≡ length t
  pub bits : (s p : ℕ) → bit (entry r s) p ≡ (bit (entry t s) p || h s p)

-- the word is put at s, and has bit p
unfoldable pub puts : ℕ → ℕ → ℕ → ℕ → ℕ → Bool
puts left low k s p = within left k && (eqb (bit_and k low) s && bit k p)

-- one of the words, without its last t atoms, is
unfoldable pub puts_all : ℕ → ℕ → ℕ → List ℕ → ℕ → ℕ → Bool
puts_all t left low ws s p = any (λ w. puts left low (w / 2 ^ t) s p) ws
