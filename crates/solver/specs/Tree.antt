-- What is computed, and for proofs what the private functions ensure: sets of rows under a row, how a search cuts the atoms, what it leaves
-- out and what it finds. `FirstRowSays` is the contract of `first_row`, which only our own crates call. Assumes nothing.
use Rattle.std.specs.Prelude.{Bool, true, false, not, ◌&&◌, ◌≡◌, List, [], ◌∷◌, ◌++◌, map, ℕ, ◌+◌, ◌-◌, ◌*◌, ◌/◌, ◌^◌, ◌≤◌, ◌<◌, min, length, get_or, Option, None, Some}
use Rattle.formula.specs.Formula.{Atom, Form}
use Rattle.lists.specs.Search.{first, below}
use Rattle.evalset.specs.Bit.{word_levels, bit}
use Rattle.evalset.specs.Most.{most}
use Rattle.contact.specs.Question.{Question, plain, building}
use Rattle.contact.specs.Row.{Row, is, unknown, PartialRow}
use Rattle.contact.specs.Plan.{Mark, row_marks}
use Rattle.contact.specs.Check.{check, passes, good, first_row}
use Rattle.contact.specs.Tableau.{refutes, closes, under}
use Rattle.kleene.specs.Rails.{Duo, sure, duo_of, word_rows}
use Rattle.search.specs.declared.Asked.{Asked}
use Rattle.search.specs.declared.Chart.{Chart}
use Rattle.search.specs.Asked.{question_of}
use Rattle.search.specs.Rows.{row_bits, row_number}
use Rattle.search.specs.Compiled.{limit, Compiled}
use Rattle.search.specs.Planned.{marks_in}
use Rattle.search.specs.Building.{BuildingSays}
use Rattle.pairing.specs.Words.{Contacts, lone, row_test}
use Rattle.pairing.specs.Listed.{seen_at, pair_count}
use Rattle.solver.specs.declared.Cut.{Cut}
use Rattle.solver.specs.Coded.{SafeFrom, Coded}

-- ---- rows under a row

-- a row with d atoms more, the e-th such row; the other atoms are undecided
abbrev pub extended : List Bool → ℕ → ℕ → PartialRow
extended row d e = map is (row ++ row_bits d e)

-- atom i's value there, on rails
abbrev pub decided_at : ℕ → ℕ → ℕ → ℕ → ℕ → Duo
decided_at k row d e i = duo_of (get_or (extended (row_bits k row) d e) i unknown)

-- where each atom is true in these rows, up to the undecided ones
pub record YesLeaves (row k d : ℕ) (ts : List ℕ) : Type 0 where
  pub are : (i : ℕ) → i < k + d → (e : ℕ) → e < 2 ^ d → sure (bit (get_or ts i 0) e) ≡ decided_at k row d e i
  pub none : (i : ℕ) → k + d ≤ i → get_or ts i 0 ≡ 0

-- and where each of the first n is false
pub record NoLeaves (n : ℕ) (ts fs : List ℕ) : Type 0 where
  pub are : (i : ℕ) → i < n → (e : ℕ) → e < word_rows → bit (get_or fs i 0) e ≡ not (bit (get_or ts i 0) e)
  pub none : (i : ℕ) → n ≤ i → get_or fs i 0 ≡ 0

-- the word is of rows with d atoms more
abbrev pub Low : ℕ → ℕ → Type 0
Low d r = (e : ℕ) → bit r e ≡ true → e < 2 ^ d

-- some rule refutes those that are not in it
pub record UnrefutedSays (code ends : List ℕ) (row k d : ℕ) (r : ℕ) : Type 0 where
  pub low : Low d r
  pub refuted : (many : ℕ) (rules : List (Form ℕ)) → Coded many code ends rules → (e : ℕ) → e < 2 ^ d → bit r e ≡ false
      → refutes rules (extended (row_bits k row) d e) ≡ true

-- ---- words of whole rows, where a word has an atom's value in each row

-- the first k leaves are those of the row; the others are as before
pub record RowLeaves (row k : ℕ) (before leaves : List ℕ) : Type 0 where
  pub size : length leaves ≡ 16
  pub are : (i : ℕ) → i < k → (e : ℕ) → e < word_rows → bit (get_or leaves i 0) e ≡ get_or (row_bits k row) i false
  pub kept : (i : ℕ) → k ≤ i → get_or leaves i 0 ≡ get_or before i 0

-- the next d leaves are those of the word
pub record WordLeaves (k d : ℕ) (leaves : List ℕ) : Type 0 where
  pub size : length leaves ≡ 16
  pub are : (i : ℕ) → k ≤ i → i < k + d → (e : ℕ) → e < word_rows → bit (get_or leaves i 0) e ≡ not (bit e (k + d - 1 - i))

-- the rows that no rule refutes, where the rules have no other atoms than those of the rows
pub record WholeSays (code ends : List ℕ) (row k d : ℕ) (r : ℕ) : Type 0 where
  pub low : Low d r
  pub are : (many : ℕ) (rules : List (Form ℕ)) → Coded many code ends rules → many ≤ k + d → (e : ℕ) → e < 2 ^ d
      → bit r e ≡ not (refutes rules (extended (row_bits k row) d e))

-- ---- what the code and the chart come from

-- atoms, and rules over their numbers
pub record ComesFrom (code ends : List ℕ) (chart : Chart) (atoms : List (Atom ℕ)) (rules : List (Form ℕ)) : Type 0 where
  pub compiled : Compiled chart atoms
  pub coded : Coded chart.atoms code ends rules

-- the code can be run, and the chart has no more atoms than there is room for
pub record Runnable (code ends : List ℕ) (chart : Chart) : Type 0 where
  pub safe : SafeFrom code 0 ends
  pub atoms_fit : chart.atoms ≤ limit

-- the answer for the row that is found, a list of none or one: its number
abbrev pub answer_for : List Row → Option ℕ
answer_for [] = None
answer_for (row ∷ rows) = Some (row_number row)

-- the first of a set of rows, counted from `start`
abbrev pub answer_of : ℕ → List ℕ → Option ℕ
answer_of start [] = None
answer_of start (e ∷ es) = Some (start + e)

-- ---- the search

-- a word has room for its rows, and a table for those of a block and for all words
pub record Fits (cut : Cut) : Type 0 where
  pub blocks : cut.k ≤ 6
  pub words : cut.w ≤ 4
  pub rows : cut.r ≤ word_levels
  pub contacts_fit : cut.contacts < 65536

-- and what it has of the pairs is so, where ws has their words
pub record CutFor (ws : List ℕ) (cut : Cut) : Type 0 where
  pub fits : Fits cut
  pub lone_is : cut.lone ≡ lone 0 ws
  pub above_is : cut.above ≡ lone cut.r ws

-- n atoms are cut, for what is asked
pub record CutOf (ws : List ℕ) (contacts n : ℕ) (asked : Asked) (cut : Cut) : Type 0 where
  pub for_list : CutFor ws cut
  pub asked_is : cut.asked ≡ asked
  pub all : n ≡ cut.k + cut.w + cut.r
  pub contacts_is : cut.contacts ≡ contacts

-- what is lent for the words: their leaves, and a stack for the runs
abbrev pub Lent : Cut → List ℕ → List ℕ → Type 0
Lent cut leaves stack = WordLeaves (cut.k + cut.w) cut.r leaves × (length stack ≡ 128)

-- atoms, and rules over their numbers, of which the search has the code, the chart and the cut
pub record Given (code ends : List ℕ) (chart : Chart) (cut : Cut) : Type 0 where
  pub atoms : List (Atom ℕ)
  pub rules : List (Form ℕ)
  pub compiled : Compiled chart atoms
  pub counted : length atoms ≡ cut.k + cut.w + cut.r
  pub coded : Coded (length atoms) code ends rules
  pub contacts_are : Contacts atoms cut.contacts

module _ {code ends : List ℕ} {chart : Chart} {cut : Cut} (g : Given code ends chart cut) where
  -- the test of the 2 ^ d rows under the row of k atoms by the table is their check
  abbrev pub Tested : List ℕ → Bool → ℕ → ℕ → ℕ → ℕ → ℕ → Type 0
  Tested table one contacts low k row d =
      (e : ℕ) → e < 2 ^ d
      → row_test table one contacts low (row * 2 ^ d + e) ≡ check chart.names (row_marks g.atoms (row_bits (k + d) (row * 2 ^ d + e)))

  -- so for the rows of a block, by its table
  abbrev pub RowsTested : List ℕ → ℕ → Type 0
  RowsTested table row = Tested table cut.lone cut.contacts (2 ^ (cut.w + cut.r) - 1) cut.k row (cut.w + cut.r)

  -- and for its words, by the table of all words
  abbrev pub WordsTested : List ℕ → ℕ → Type 0
  WordsTested upper row = Tested upper cut.above (cut.contacts / 2 ^ cut.r) (2 ^ (cut.k + cut.w) - 1) cut.k row cut.w

  -- of the 2 ^ d rows under the row of k atoms, those that are not in the set close
  abbrev pub Left : ℕ → ℕ → ℕ → ℕ → Type 0
  Left k row d set =
      (e : ℕ) → e < 2 ^ d → bit set e ≡ false
      → closes plain chart.names g.atoms g.rules (map is (row_bits (k + d) (row * 2 ^ d + e))) ≡ true

  -- the row is good for what is asked
  abbrev pub good_for : Row → Bool
  good_for = good (question_of cut.asked) chart.names g.atoms g.rules

  -- the answer is the first good row under the row of k atoms, s atoms more
  abbrev pub Finds : ℕ → ℕ → ℕ → Option ℕ → Type 0
  Finds k row s r = r ≡ answer_for (first good_for (under (row_bits k row) s))

-- ---- of rows that pass the plain check, those that count

-- marks that pass the plain check pass that of the question too: of the plain question nothing more is asked
abbrev pub counts : Question → ℕ → List Mark → Bool
counts plain names ms = true
counts building names ms = passes building names ms

-- the first of a set of rows, counted from `start`, that counts
unfoldable pub ChosenSays : Question → Chart → (ℕ → Bool) → ℕ → Option ℕ → Type 0
ChosenSays q chart set start r =
    (atoms : List (Atom ℕ)) → Compiled chart atoms → r ≡ answer_of start (first (λ e. set e && counts q chart.names (marks_in chart atoms (start + e))) (below word_rows))

-- for one building
abbrev pub BuildingsSay : Chart → (ℕ → Bool) → ℕ → Option ℕ → Type 0
BuildingsSay = ChosenSays building

-- ---- rows that no piece meets

-- none of the rows from one on, before another
abbrev pub Shut : Chart → ℕ → ℕ → Type 0
Shut chart from end =
    (atoms : List (Atom ℕ)) → Compiled chart atoms → (f : ℕ) → from ≤ f → f < end → counts building chart.names (marks_in chart atoms f) ≡ false

-- none of the rows from this one on, before the end; where that is the row itself, some piece meets it
pub record ShutTo (chart : Chart) (row end : ℕ) : Type 0 where
  pub on : row ≤ end
  pub shut : Shut chart row end
  pub met : end ≡ row → BuildingSays chart row true

-- ---- the memory that is lent for the list

-- the number of evaluations of so many names: of the most where there are more
abbrev pub evaluation_count : ℕ → ℕ
evaluation_count names = 2 ^ min names most

-- no word was seen yet, and each has its bit
pub record Unseen (chart : Chart) (seen : List ℕ) : Type 0 where
  pub none : (k : ℕ) → seen_at seen k ≡ false
  pub bits : 2 ^ chart.atoms ≤ 64 * length seen

-- and there is room for the word of every pair
pub record Roomy (chart : Chart) (seen list : List ℕ) : Type 0 where
  pub unseen : Unseen chart seen
  pub places : pair_count (evaluation_count chart.names) ≤ length list

-- ---- the answer

-- what is found is the first good row under the row of no atoms, for all atoms and rules that the code and the chart come from
unfoldable pub SearchSays : Question → List ℕ → List ℕ → Chart → Option ℕ → Type 0
SearchSays q code ends chart r =
    (atoms : List (Atom ℕ)) (rules : List (Form ℕ)) → ComesFrom code ends chart atoms rules
    → r ≡ answer_for (first (good q chart.names atoms rules) (under [] (length atoms)))

-- so the answer is the number of the first row for the question, or that there is none
unfoldable pub FirstRowSays : Question → List ℕ → List ℕ → Chart → Option ℕ → Type 0
FirstRowSays q code ends chart r =
    (atoms : List (Atom ℕ)) (rules : List (Form ℕ)) → ComesFrom code ends chart atoms rules
    → r ≡ answer_for (first_row q chart.names atoms rules)
