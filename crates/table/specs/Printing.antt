-- What is computed: what print gives (document 02, T-02), as a function of the list of standing texts and of what is lent beside the table,
-- and its contract. Rows says what is meant; proofs/Claims.antt ties the two. Assumes nothing.
use Rattle.std.specs.Prelude.{ℕ, ◌-◌, ◌≡◌, cond, List, [], leb, length, get_or}
use Rattle.lists.specs.Buffer.{over}
use Rattle.printing.specs.Prints.{printed_text}
use Rattle.table.specs.declared.Table.{Table}
use Rattle.table.specs.declared.PrintAnswer.{PrintAnswer}
use Rattle.table.specs.declared.PrintResult.{PrintResult}
use Rattle.table.specs.Sheet.{Text}
use Rattle.table.specs.Store.{table_of, rules_of}
use Rattle.table.specs.Calls.{judge_withdraw, if_withdrawn, FromUs}

-- the text ws: refusal 12 with the bytes needed, or the length written
abbrev pub text_answer : List ℕ → ℕ → PrintAnswer
text_answer ws room = cond (leb (length ws) room) (PrintAnswer.Text (length ws)) (PrintAnswer.ShortBuffer (length ws))

-- "what lies past it is kept"; of refusal 12 "the buffer keeps its contents"
abbrev pub text_bytes : List ℕ → List ℕ → List ℕ
text_bytes ws buffer = cond (leb (length ws) (length buffer)) (over ws buffer) buffer

-- refusal 10 comes where withdraw has it: "both as now"
unfoldable pub print_answer : List Text → ℕ → ℕ → PrintAnswer
print_answer rs k room = if_withdrawn (judge_withdraw rs k) (text_answer (printed_text (get_or rs (k - 1) [])) room) (PrintAnswer.NoSuchRule k)

unfoldable pub print_bytes : List Text → ℕ → List ℕ → List ℕ
print_bytes rs k buffer = if_withdrawn (judge_withdraw rs k) (text_bytes (printed_text (get_or rs (k - 1) [])) buffer) buffer

unfoldable pub printed : List Text → ℕ → List ℕ → PrintResult
printed rs k buffer = record { table = table_of rs; answer = print_answer rs k (length buffer) }

-- the result, and each byte of the buffer
pub record Prints (t : Table) (k : ℕ) (buffer : List ℕ) (r : PrintResult) (exit : List ℕ) : Type 0 where
  pub result : r ≡ printed (rules_of t) k buffer
  pub bytes : exit ≡ print_bytes (rules_of t) k buffer
  pub same : r.table ≡ t
  pub from_us : FromUs r.table
