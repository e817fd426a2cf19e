-- What is meant: lists of calls, and the standing rules, "a list made by the calls that were not refused", from the calls and the list
-- alone. A call is refused where its row of the table of calls (Rows) has another outcome than Done. Assumes nothing.
use Rattle.std.specs.Prelude.{ℕ, Bool, ◌≡◌, List, [], ◌∷◌, ◌++◌, map}
use Rattle.contact.specs.Question.{Question}
use Rattle.table.specs.Sheet.{Text, lines_of, filled}
use Rattle.table.specs.declared.Outcome.{Outcome}
use Rattle.table.specs.Rows.{AddRow, WithdrawRow, LoadRow, IsKth}

-- a call, with any text, number, buffer, plan words, tree words or places; ask for any question: `ask` of the code is that of the plain one, `ask_building` of the other
pub data Call : Type 0 where
  add : Text → Call
  withdraw : ℕ → Call
  load : Text → Call
  ask : Question → List ℕ → Call
  judge : List ℕ → Call
  print : ℕ → List ℕ → Call
  explain : List ℕ → Call
  check : List ℕ → Call
  still : List ℕ → Call
  clash : List Bool → Call

-- "The run it is compared with has one add for each standing rule, with that rule's text"
unfoldable pub adds : List Text → List Call
adds ss = map add ss

-- some row applies, and it is a refusal's
pub record IsRefused (Row : Outcome → Type 0) : Type 0 where
  pub outcome : Outcome
  pub row : Row outcome
  pub not_done : outcome ≡ Outcome.Done → ⊥

-- ss is rs with the k-th, from 1, taken out
pub record TakesOut (rs : List Text) (k : ℕ) (ss : List Text) : Type 0 where
  pub text : Text
  pub kth : IsKth rs k text
  pub left : ss ≡ kth.before ++ kth.later

-- where rs stand, these stand after a call: "Ask, judge and every refused call leave the list as it was"
pub data StandsAfter (rs : List Text) : Call → List Text → Type 0 where
  -- "add puts its rule last"
  added : {s : Text} → AddRow rs s Outcome.Done → StandsAfter rs (add s) (rs ++ s ∷ [])
  not_added : {s : Text} → IsRefused (AddRow rs s) → StandsAfter rs (add s) rs
  -- "withdraw k takes out the k-th"
  withdrawn : {k : ℕ} {ss : List Text} → WithdrawRow rs k Outcome.Done → TakesOut rs k ss → StandsAfter rs (withdraw k) ss
  not_withdrawn : {k : ℕ} → IsRefused (WithdrawRow rs k) → StandsAfter rs (withdraw k) rs
  -- "load puts its own list in their place, which is its lines that are not blank"
  loaded : {f : Text} → LoadRow f Outcome.Done → StandsAfter rs (load f) (filled (lines_of f))
  -- "and the old table is kept"
  not_loaded : {f : Text} → IsRefused (LoadRow f) → StandsAfter rs (load f) rs
  asked : {q : Question} {buffer : List ℕ} → StandsAfter rs (ask q buffer) rs
  judged : {words : List ℕ} → StandsAfter rs (judge words) rs
  printed : {k : ℕ} {buffer : List ℕ} → StandsAfter rs (print k buffer) rs
  explained : {buffer : List ℕ} → StandsAfter rs (explain buffer) rs
  checked : {words : List ℕ} → StandsAfter rs (check words) rs
  still_done : {words : List ℕ} → StandsAfter rs (still words) rs
  clashed : {places : List Bool} → StandsAfter rs (clash places) rs

-- where rs stand, these stand after the calls, one after the other
pub data StandsFrom : List Text → List Call → List Text → Type 0 where
  none : {rs : List Text} → StandsFrom rs [] rs
  next : {rs : List Text} {c : Call} {ss : List Text} {cs : List Call} {ts : List Text} → StandsAfter rs c ss → StandsFrom ss cs ts → StandsFrom rs (c ∷ cs) ts

-- the standing rules after a list of calls: "it starts empty"
abbrev pub Stands : List Call → List Text → Type 0
Stands cs rs = StandsFrom [] cs rs
