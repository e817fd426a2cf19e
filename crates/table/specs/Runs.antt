-- What is computed: the table that a list of calls leaves, and its standing rules by the judgements of the calls. Which rules stand is
-- said by the rows of the table of calls in Stands; proofs/Claims.antt shows that these are the same. Assumes nothing.
use Rattle.std.specs.Prelude.{◌≡◌, List, [], ◌∷◌}
use Rattle.table.specs.declared.Table.{Table}
use Rattle.table.specs.Store.{table_of, rules_of}
use Rattle.table.specs.Sheet.{Text}
use Rattle.table.specs.Calls.{FromUs, add_rules, added, withdraw_rules, withdrawn, load_rules, loaded}
use Rattle.table.specs.Stands.{Call, add, withdraw, load, ask, judge, print, explain, check, still, clash, adds}

-- the table that a call gives back, by the functions that the contracts cite; "Ask passes the table on unchanged", and so do judge, print, explain, check_tree, still and clash
unfoldable pub step : Table → Call → Table
step t (add s) = (added (rules_of t) s).table
step t (withdraw k) = (withdrawn (rules_of t) k).table
step t (load f) = (loaded (rules_of t) f).table
step t (ask q buffer) = t
step t (judge words) = t
step t (print k buffer) = t
step t (explain buffer) = t
step t (check words) = t
step t (still words) = t
step t (clash places) = t

unfoldable pub run_from : Table → List Call → Table
run_from t [] = t
run_from t (c ∷ cs) = run_from (step t c) cs

-- "The first call gets the empty table; every later one gets the table that the call before it gave back, refused or not."
unfoldable pub run : List Call → Table
run cs = run_from (table_of []) cs

-- the standing rules after a call: "Ask, judge and every refused call leave the list as it was"
unfoldable pub after : List Text → Call → List Text
after rs (add s) = add_rules rs s
after rs (withdraw k) = withdraw_rules rs k
after rs (load f) = load_rules rs f
after rs (ask q buffer) = rs
after rs (judge words) = rs
after rs (print k buffer) = rs
after rs (explain buffer) = rs
after rs (check words) = rs
after rs (still words) = rs
after rs (clash places) = rs

unfoldable pub standing_from : List Text → List Call → List Text
standing_from rs [] = rs
standing_from rs (c ∷ cs) = standing_from (after rs c) cs

-- "it starts empty"
unfoldable pub standing : List Call → List Text
standing cs = standing_from [] cs

-- the claim for tables of demand 3, of one list of calls
pub record Faithful (cs : List Call) : Type 0 where
  -- the table meets what every call requires
  pub from_us : FromUs (run cs)
  -- it holds the standing rules
  pub holds : rules_of (run cs) ≡ standing cs
  -- it is that of the standing rules added in order to the empty table
  pub table : run cs ≡ run (adds (standing cs))
