-- The three demands. The table after a list of calls is that of the standing rules, and each call answers by a function of these rules and
-- of what is passed: its row applies first, its plan is the first row's, and the run that adds only the standing rules gets the
-- same. Assumes nothing.
use Prim.Native.Nat.{ℕ, ◌≤◌, ◌<◌}
use mathlib.Core.Path.{◌≡◌, refl, sym, ap, ◌∙◌, subst}
use mathlib.Core.Logic.{◌↔◌}
use mathlib.Core.Bool.{Bool, true}
use mathlib.Core.List.{List, [], ◌∷◌, ◌++◌}
use native.Mathlib.Omega.{arith}
use lib.ListN.{length, take, length-map}
use lib.Seq.{take_at}
use Rattle.syntax.specs.Rule.{meaning_of}
use Rattle.lists.specs.Buffer.{over}
use Rattle.formula.specs.Formula.{Formula, Name}
use Rattle.syntax.proofs.Claims.{text_means}
use Rattle.contact.specs.Meaning.{Floor, meets_all}
use Rattle.contact.specs.Question.{Question, plain, Counts, NoFloor}
use Rattle.plan.specs.Words.{Plan, words_of}
use Rattle.plan.specs.Given.{given_plan}
use Rattle.plan.specs.Plans.{row_plan, plans_of}
use Rattle.plan.proofs.Claims.{written_read, no_plan_given, given_exactly, given_at_most_one, given_is_plan, given_counts, given_meets, given_found, row_plan_exactly}
use Rattle.contact.specs.Numbering.{names_of}
use Rattle.contact.specs.Row.{Row}
use Rattle.contact.specs.Check.{first_row_of}
use Rattle.contact.proofs.Claims.{first_row_named}
use Rattle.table.specs.declared.Table.{Table}
use Rattle.table.specs.declared.Outcome.{Outcome}
use Rattle.table.specs.declared.AddResult.{AddResult}
use Rattle.table.specs.declared.WithdrawResult.{WithdrawResult}
use Rattle.table.specs.declared.LoadResult.{LoadResult}
use Rattle.table.specs.declared.AskResult.{AskResult}
use Rattle.table.specs.declared.JudgeResult.{JudgeResult}
use Rattle.table.specs.declared.PrintResult.{PrintResult}
use Rattle.table.specs.declared.ExplainResult.{ExplainResult}
use Rattle.table.specs.declared.CheckResult.{CheckResult}
use Rattle.table.specs.declared.StillResult.{StillResult}
use Rattle.table.specs.declared.ClashResult.{ClashResult}
use Rattle.table.specs.Clashing.{clash_answer, clash_places, clash_given, GivesClash}
use Rattle.clashing.specs.Clash.{IsClash}
use Rattle.clashing.specs.Clashing.{clash_of}
use Rattle.clashing.proofs.Claims.{clash_exactly, clash_none_meets, clash_needed, clash_length}
use Rattle.table.specs.Still.{still_answer, still_given, StillDoes}
use Rattle.table.specs.Explaining.{explain_answer, explain_words, explained, Explains, check_answer, tree_checked, Checks}
use Rattle.trees.specs.Trees.{Tree, words_of as treeWords}
use Rattle.trees.specs.OfRules.{IsWrittenTree}
use Rattle.trees.proofs.OfRules.{closed_no_plan, written_closed}
use Rattle.table.specs.Printing.{print_answer, print_bytes, printed, Prints}
use Rattle.printing.specs.Text.{text_of}
use Rattle.table.specs.Store.{table_of, rules_of}
use Rattle.table.specs.Sheet.{Text}
use Rattle.table.specs.Calls.{formulas_of, names_in, judge_add, add_rules, added, judge_withdraw, withdraw_rules, withdrawn, judge_load, load_rules, loaded, FromUs, Adds}
use Rattle.table.specs.Rules.{AreRules, CanStand}
use Rattle.table.proofs.Rules.{of_computed, can_rules, can_names}
use Rattle.table.specs.Asking.{ask_answer, ask_words, asked, Asks, judge_answer, judged, Judges}
use Rattle.table.specs.Numbers.{add_outcome, withdraw_outcome, load_outcome, ask_outcome, judge_outcome, print_outcome, explain_outcome, check_outcome, still_outcome, clash_outcome}
use Rattle.table.specs.Rows.{AddRow, WithdrawRow, LoadRow, SomeStand, AskRow, floor_of, JudgeRow, PrintRow, ExplainRow, CheckRow, Drawn, StillRow, ClashRow}
use Rattle.table.specs.Stands.{Call, adds, Stands}
use Rattle.table.specs.Runs.{step, run_from, run, standing}
use Rattle.table.proofs.Standing.{refused_else, not_withdrawn, not_loaded, stand_none, stand_first}
use Rattle.table.proofs.Results.{adds_of, withdraws_of, loads_of}
use Rattle.table.proofs.Printing.{prints_of}
use Rattle.table.proofs.PrintRows.{bytes_written, had_text, bytes_kept}
use Rattle.table.proofs.Explaining.{explains_of, checks_of}
use Rattle.table.proofs.Still.{stills_of}
use Rattle.table.proofs.Clashing.{clashes_of}
use Rattle.table.proofs.ClashRows.{clash_written, clash_kept, had_places}
use Rattle.table.proofs.TreeRows.{had_tree, tree_written, first_tree, tree_kept}
use Rattle.table.proofs.Asking.{asks_of, judges_of, words_none, words_written, words_short, first_words}
use Rattle.table.proofs.Claims as table
use Rattle.theorems.specs.Demands.{Called, Leaves, Exactly, Answered, Met, NotMet, Nowhere, Given, Meant, AskGives, Same, Reasons, InHand, Clashing}
use Rattle.plan.specs.Meant.{IsGiven, FirstUnmet}

-- ---- calls of the code leave the table of the run

called_runs : (t : Table) (cs : List Call) (u : Table) → Called t cs u → u ≡ run_from t cs
unfolding run_from
called_runs t cs u Called.none = refl
called_runs t cs u (Called.add {s = s} {r = r} {cs = ds} h l) = called_runs r.table ds u l ∙ ap (λ (x : Table). run_from x ds) (table.add_steps t s r h)
called_runs t cs u (Called.withdraw {k = k} {r = r} {cs = ds} h l) = called_runs r.table ds u l ∙ ap (λ (x : Table). run_from x ds) (table.withdraw_steps t k r h)
called_runs t cs u (Called.load {f = f} {r = r} {cs = ds} h l) = called_runs r.table ds u l ∙ ap (λ (x : Table). run_from x ds) (table.load_steps t f r h)
called_runs t cs u (Called.ask {q = q} {buffer = buffer} {r = r} {exit = exit} {cs = ds} h l) = called_runs r.table ds u l ∙ ap (λ (x : Table). run_from x ds) (table.ask_steps q t buffer r exit h)
called_runs t cs u (Called.judge {words = words} {r = r} {cs = ds} h l) = called_runs r.table ds u l ∙ ap (λ (x : Table). run_from x ds) (table.judge_steps t words r h)
called_runs t cs u (Called.print {k = k} {buffer = buffer} {r = r} {exit = exit} {cs = ds} h l) = called_runs r.table ds u l ∙ ap (λ (x : Table). run_from x ds) (table.print_steps t k buffer r exit h)
called_runs t cs u (Called.explain {buffer = buffer} {r = r} {exit = exit} {cs = ds} h l) = called_runs r.table ds u l ∙ ap (λ (x : Table). run_from x ds) (table.explain_steps t buffer r exit h)
called_runs t cs u (Called.check {words = words} {r = r} {cs = ds} h l) = called_runs r.table ds u l ∙ ap (λ (x : Table). run_from x ds) (table.check_steps t words r h)
called_runs t cs u (Called.still {words = words} {r = r} {cs = ds} h l) = called_runs r.table ds u l ∙ ap (λ (x : Table). run_from x ds) (table.still_steps t words r h)
called_runs t cs u (Called.clash {places = places} {r = r} {exit = exit} {cs = ds} h l) = called_runs r.table ds u l ∙ ap (λ (x : Table). run_from x ds) (table.clash_steps t places r exit h)

-- and every list of calls leaves one: the contracts can be met
calls_run : (cs : List Call) (t : Table) → FromUs t → Called t cs (run_from t cs)
unfolding run_from step asked judged printed explained tree_checked still_given clash_given
calls_run [] t v = Called.none
calls_run (Call.add s ∷ cs) t v = let h = adds_of t s (added (rules_of t) s) v refl in Called.add h (calls_run cs (added (rules_of t) s).table h.from_us)
calls_run (Call.withdraw k ∷ cs) t v = let h = withdraws_of t k (withdrawn (rules_of t) k) v refl in Called.withdraw h (calls_run cs (withdrawn (rules_of t) k).table h.from_us)
calls_run (Call.load f ∷ cs) t v = let h = loads_of t f (loaded (rules_of t) f) v refl in Called.load h (calls_run cs (loaded (rules_of t) f).table h.from_us)
calls_run (Call.ask q buffer ∷ cs) t v =
    Called.ask (asks_of q t v buffer (ask_answer q (rules_of t) (length buffer)) (ask_words q (rules_of t) buffer) refl refl) (calls_run cs t v)
calls_run (Call.judge words ∷ cs) t v = Called.judge (judges_of t v words (judge_answer (rules_of t) words) refl) (calls_run cs t v)
calls_run (Call.print k buffer ∷ cs) t v =
    Called.print (prints_of t v k buffer (print_answer (rules_of t) k (length buffer)) (print_bytes (rules_of t) k buffer) refl refl) (calls_run cs t v)
calls_run (Call.explain buffer ∷ cs) t v =
    Called.explain (explains_of t v buffer (explain_answer (rules_of t) (length buffer)) (explain_words (rules_of t) buffer) refl refl) (calls_run cs t v)
calls_run (Call.check words ∷ cs) t v = Called.check (checks_of t v words (check_answer (rules_of t) words) refl) (calls_run cs t v)
calls_run (Call.still words ∷ cs) t v = Called.still (stills_of t v words (still_answer (rules_of t) words) refl) (calls_run cs t v)
calls_run (Call.clash places ∷ cs) t v =
    Called.clash (clashes_of t v places (clash_answer (rules_of t) (length places)) (clash_places (rules_of t) places) refl refl) (calls_run cs t v)

pub left : (cs : List Call) (t : Table) → Leaves cs t → t ≡ run cs
unfolding run
left cs t l = called_runs (table_of []) cs t l

pub leaves_run : (cs : List Call) → Leaves cs (run cs)
unfolding run
leaves_run cs = calls_run cs (table_of []) (table.may_stand [] stand_none)

-- an answer that is the computed one has its row alone
by_row : {A : Type 0} (Row : Outcome → Type 0) (outcome : A → Outcome) {a b : A} → a ≡ b → Row (outcome b) → ((o : Outcome) → Row o → o ≡ outcome b)
    → Exactly Row (outcome a)
by_row Row outcome e w only = subst (λ o. Exactly Row o) (sym (ap outcome e)) (record { row = w; only = only })

-- ---- the words of the buffer

-- the plan that is given, of the formulas that are computed
given_computed : (q : Question) (rs : List Text) {fs : List (Formula Name)} → AreRules rs fs → (p : Plan) → IsGiven q fs p → IsGiven q (formulas_of rs) p
given_computed q rs {fs} are p = of_computed rs fs are (λ gs. IsGiven q gs p)

words_kept : (q : Question) (rs : List Text) (buffer : List ℕ) (o : Outcome) → AskRow q rs (length buffer) o → ((n : ℕ) → o ≡ Outcome.Plan n → ⊥) → ask_words q rs buffer ≡ buffer
unfolding ask_words
words_kept q rs buffer o (AskRow.none e) n = ap (λ (l : List Text). ask_words q l buffer) e
words_kept q rs buffer o (AskRow.without {fs} some are never) n = words_none q rs buffer some (of_computed rs fs are (λ gs. plans_of q gs ≡ []) ((no_plan_given q fs).1 never))
words_kept q rs buffer o (AskRow.short {p = p} some are g l) n = words_short q rs buffer some p (given_computed q rs are p g) l
words_kept q rs buffer o (AskRow.given {p = p} some are g l) n = absurd (n (length (words_of p)) refl)

-- where a plan is said there was room for it
had_room : (q : Question) (rs : List Text) (room : ℕ) (o : Outcome) → AskRow q rs room o → (n : ℕ) → o ≡ Outcome.Plan n → SomeStand rs × (n ≤ room)
had_room q rs room o (AskRow.none z) n f = absurd (let z : ◌≡◌ {A = ℕ} 0 1 = cc in omega arith)
had_room q rs room o (AskRow.without some are never) n f = absurd (let z : ◌≡◌ {A = ℕ} 0 1 = cc in omega arith)
had_room q rs room o (AskRow.short some are g l) n f = absurd (let z : ◌≡◌ {A = ℕ} 0 1 = cc in omega arith)
had_room q rs room o (AskRow.given {p = p} some are g l) n f = let z : length (words_of p) ≡ n = cc in (some, omega arith)

-- ---- plans

without_plan : (q : Question) (rs : List Text) (room : ℕ) (o : Outcome) → AskRow q rs room o → o ≡ Outcome.NoPlan → NoFloor q (formulas_of rs)
without_plan q rs room o (AskRow.none z) f = absurd (let z : ◌≡◌ {A = ℕ} 0 1 = cc in omega arith)
without_plan q rs room o (AskRow.without {fs} some are never) f = of_computed rs fs are (NoFloor q) never
without_plan q rs room o (AskRow.short some are g l) f = absurd (let z : ◌≡◌ {A = ℕ} 0 1 = cc in omega arith)
without_plan q rs room o (AskRow.given some are g l) f = absurd (let z : ◌≡◌ {A = ℕ} 0 1 = cc in omega arith)

-- where some floor that counts meets the rules there is a plan
plan_found : (q : Question) (rules : List (Formula Name)) (F : Floor Name) → Counts q (names_of rules) F → meets_all F rules ≡ true → (p : Plan) × IsGiven q rules p
plan_found q rules F counts m = go (plans_of q rules) refl (given_at_most_one q rules)
  where
    go : (ps : List Plan) → plans_of q rules ≡ ps → length ps ≤ 1 → (p : Plan) × IsGiven q rules p
    go [] e l = absurd ((no_plan_given q rules).0 e F counts m)
    go (p ∷ []) e l = (p, (given_exactly q rules p).0 e)
    go (p ∷ r ∷ ps) e l = absurd (omega arith)

-- the words of the plan of the first row decode to it, and it meets the rules
row_given : (q : Question) (rs : List Text) (fs : List (Formula Name)) → SomeStand rs → AreRules rs fs → length (names_of fs) ≤ 8 → (row : Row) → first_row_of q fs ≡ row ∷ [] → Given q rs (words_of (row_plan q fs row))
unfolding row_plan given_plan
row_given q rs fs some are few row found =
    let is = given_is_plan q fs few row found in
    record {
      met = record { some = some; formulas = fs; rules = are; plan = row_plan q fs row; decodes = record { is = is; words_are = refl; named = refl }; covered = record { somewhere = (given_counts q fs row found is).somewhere; shaped = tt }; meets = given_meets q fs row found is };
      counts = given_counts q fs row found is;
      is = record { row = row; first = first_row_named q fs row found; is = (row_plan_exactly q fs row found (row_plan q fs row)).0 refl };
      back = written_read (row_plan q fs row) is;
    }

-- ---- a list of calls

module _ (cs : List Call) where
  -- the table after the list holds the standing rules, and these can stand
  held : rules_of (run cs) ≡ standing cs
  held = (table.same_table cs).holds

  stands : CanStand (standing cs)
  stands = subst CanStand held (table.same_table cs).from_us.standing

  -- their formulas
  abbrev fs : List (Formula Name)
  fs = formulas_of (standing cs)

  are : AreRules (standing cs) fs
  are = can_rules (standing cs) stands

  -- ---- the answers as functions of the standing rules
  pub asked_by : (q : Question) (buffer : List ℕ) (r : AskResult) (exit : List ℕ) → Asks q (run cs) buffer r exit
      → (r.answer ≡ ask_answer q (standing cs) (length buffer)) × (exit ≡ ask_words q (standing cs) buffer)
  unfolding asked
  asked_by q buffer r exit h = (
    ap (λ (x : AskResult). x.answer) h.result ∙ ap (λ (rs : List Text). ask_answer q rs (length buffer)) held,
    h.words ∙ ap (λ (rs : List Text). ask_words q rs buffer) held,
  )

  judged_by : (words : List ℕ) (r : JudgeResult) → Judges (run cs) words r → r.answer ≡ judge_answer (standing cs) words
  unfolding judged
  judged_by words r h = ap (λ (x : JudgeResult). x.answer) h.result ∙ ap (λ (rs : List Text). judge_answer rs words) held

  ask_exactly : (q : Question) (buffer : List ℕ) (r : AskResult) (exit : List ℕ) → Asks q (run cs) buffer r exit → Exactly (AskRow q (standing cs) (length buffer)) (ask_outcome r.answer)
  ask_exactly q buffer r exit h =
      by_row (AskRow q (standing cs) (length buffer)) ask_outcome (asked_by q buffer r exit h).0 (table.ask_answered q (length buffer) (standing cs) fs are) (table.ask_answered_only q (length buffer) (standing cs))

  judge_exactly : (words : List ℕ) (r : JudgeResult) → Judges (run cs) words r → Exactly (JudgeRow (standing cs) words) (judge_outcome r.answer)
  judge_exactly words r h =
      by_row (JudgeRow (standing cs) words) judge_outcome (judged_by words r h) (table.judge_answered words (standing cs) fs are) (table.judge_answered_only words (standing cs))

  still_exactly : (words : List ℕ) (r : StillResult) → StillDoes (run cs) words r → Exactly (StillRow (standing cs) words) (still_outcome r.answer)
  unfolding still_given
  still_exactly words r h =
      by_row (StillRow (standing cs) words) still_outcome (ap (λ (x : StillResult). x.answer) h.result ∙ ap (λ (rs : List Text). still_answer rs words) held)
      (table.still_answered words (standing cs) stands) (table.still_answered_only words (standing cs) stands)

  printed_by : (k : ℕ) (buffer : List ℕ) (r : PrintResult) (exit : List ℕ) → Prints (run cs) k buffer r exit
      → (r.answer ≡ print_answer (standing cs) k (length buffer)) × (exit ≡ print_bytes (standing cs) k buffer)
  unfolding printed
  printed_by k buffer r exit h = (
    ap (λ (x : PrintResult). x.answer) h.result ∙ ap (λ (rs : List Text). print_answer rs k (length buffer)) held,
    h.bytes ∙ ap (λ (rs : List Text). print_bytes rs k buffer) held,
  )

  print_exactly : (k : ℕ) (buffer : List ℕ) (r : PrintResult) (exit : List ℕ) → Prints (run cs) k buffer r exit
      → Exactly (PrintRow (standing cs) k (length buffer)) (print_outcome r.answer)
  print_exactly k buffer r exit h =
      by_row (PrintRow (standing cs) k (length buffer)) print_outcome (printed_by k buffer r exit h).0 (table.print_answered k (length buffer) (standing cs) fs are)
      (table.print_answered_only k (length buffer) (standing cs))

  explained_by : (buffer : List ℕ) (r : ExplainResult) (exit : List ℕ) → Explains (run cs) buffer r exit
      → (r.answer ≡ explain_answer (standing cs) (length buffer)) × (exit ≡ explain_words (standing cs) buffer)
  unfolding explained
  explained_by buffer r exit h = (
    ap (λ (x : ExplainResult). x.answer) h.result ∙ ap (λ (rs : List Text). explain_answer rs (length buffer)) held,
    h.words ∙ ap (λ (rs : List Text). explain_words rs buffer) held,
  )

  explain_exactly : (buffer : List ℕ) (r : ExplainResult) (exit : List ℕ) → Explains (run cs) buffer r exit
      → Exactly (ExplainRow (standing cs) (length buffer)) (explain_outcome r.answer)
  explain_exactly buffer r exit h =
      by_row (ExplainRow (standing cs) (length buffer)) explain_outcome (explained_by buffer r exit h).0 (table.explain_answered (length buffer) (standing cs) fs are)
      (table.explain_answered_only (length buffer) (standing cs))

  tree_there : (buffer : List ℕ) (r : ExplainResult) (exit : List ℕ) → Explains (run cs) buffer r exit → (gs : List (Formula Name)) → AreRules (standing cs) gs → (w : Tree) → IsWrittenTree gs w
      → explain_outcome r.answer ≡ Outcome.Tree (length (treeWords w)) → exit ≡ over (treeWords w) buffer
  tree_there buffer r exit h gs rules w is e =
      let fits = had_tree (length buffer) (standing cs) (explain_outcome r.answer) (explain_exactly buffer r exit h).row (length (treeWords w)) e in
      (explained_by buffer r exit h).1 ∙ tree_written (standing cs) buffer gs fits.0 rules w is fits.1

  check_exactly : (words : List ℕ) (r : CheckResult) → Checks (run cs) words r → Exactly (CheckRow (standing cs) words) (check_outcome r.answer)
  unfolding tree_checked
  check_exactly words r h =
      by_row (CheckRow (standing cs) words) check_outcome (ap (λ (x : CheckResult). x.answer) h.result ∙ ap (λ (rs : List Text). check_answer rs words) held)
      (table.check_answered words (standing cs) stands) (table.check_answered_only words (standing cs) stands)

  clashed_by : (places : List Bool) (r : ClashResult) (exit : List Bool) → GivesClash (run cs) places r exit
      → (r.answer ≡ clash_answer (standing cs) (length places)) × (exit ≡ clash_places (standing cs) places)
  unfolding clash_given
  clashed_by places r exit h = (
    ap (λ (x : ClashResult). x.answer) h.result ∙ ap (λ (rs : List Text). clash_answer rs (length places)) held,
    h.written ∙ ap (λ (rs : List Text). clash_places rs places) held,
  )

  clash_exact : (places : List Bool) (r : ClashResult) (exit : List Bool) → GivesClash (run cs) places r exit
      → Exactly (ClashRow (standing cs) (length places)) (clash_outcome r.answer)
  clash_exact places r exit h =
      by_row (ClashRow (standing cs) (length places)) clash_outcome (clashed_by places r exit h).0 (table.clash_answered (length places) (standing cs) stands)
      (table.clash_answered_only (length places) (standing cs))

  -- ---- demand 1

  same_table : table_of (rules_of (run cs)) ≡ run cs
  same_table = sym (table.same_table cs).from_us.same

  answered : Answered (standing cs) (run cs)
  unfolding added withdrawn loaded add_rules withdraw_rules load_rules
  answered =
      let can : CanStand (standing cs) = stands in
      let us : FromUs (run cs) = (table.same_table cs).from_us in
      record {
        may_call = us;
        add = λ s r h. by_row (AddRow (standing cs) s) add_outcome (ap (λ (x : AddResult). x.answer) h.result ∙ ap (λ (rs : List Text). judge_add rs s) held) (table.add_answered (standing cs) s can)
            (table.add_answered_only (standing cs) s can);
        add_refused = λ s r h n. let e = h.result in
            ap (λ (x : AddResult). x.table) e ∙ ap table_of (refused_else (judge_add (rules_of (run cs)) s) _ _ (λ f. n (ap add_outcome (ap (λ (x : AddResult). x.answer) e ∙ f)))) ∙ same_table;
        withdraw = λ k r h. by_row (WithdrawRow (standing cs) k) withdraw_outcome (ap (λ (x : WithdrawResult). x.answer) h.result ∙ ap (λ (rs : List Text). judge_withdraw rs k) held)
            (table.withdraw_answered (standing cs) k) (table.withdraw_answered_only (standing cs) k);
        withdraw_refused = λ k r h n. let e = h.result in
            ap (λ (x : WithdrawResult). x.table) e ∙ ap table_of (not_withdrawn (judge_withdraw (rules_of (run cs)) k) _ _ (λ f. n (ap withdraw_outcome (ap (λ (x : WithdrawResult). x.answer) e ∙ f)))) ∙ same_table;
        load = λ f r h. by_row (LoadRow f) load_outcome (ap (λ (x : LoadResult). x.answer) h.result) (table.load_answered f) (table.load_answered_only f);
        load_refused = λ f r h n. let e = h.result in
            ap (λ (x : LoadResult). x.table) e ∙ ap table_of (not_loaded (judge_load f) _ _ (λ g. n (ap load_outcome (ap (λ (x : LoadResult). x.answer) e ∙ g)))) ∙ same_table;
        ask = ask_exactly;
        ask_same = λ q buffer r exit h. h.same;
        ask_written = λ q buffer r exit h gs rules p g e. let fits = had_room q (standing cs) (length buffer) (ask_outcome r.answer) (ask_exactly q buffer r exit h).row (length (words_of p)) e in
            (asked_by q buffer r exit h).1 ∙ words_written q (standing cs) buffer fits.0 p (given_computed q (standing cs) rules p g) fits.1;
        ask_kept = λ q buffer r exit h n. (asked_by q buffer r exit h).1 ∙ words_kept q (standing cs) buffer (ask_outcome r.answer) (ask_exactly q buffer r exit h).row n;
        judge = judge_exactly;
        judge_same = λ words r h. h.same;
        print = print_exactly;
        print_same = λ k buffer r exit h. h.same;
        print_written = λ k buffer r exit h s f at rule e. (printed_by k buffer r exit h).1
            ∙ bytes_written (standing cs) k buffer s f at rule (had_text (standing cs) k (length buffer) (print_outcome r.answer) (print_exactly k buffer r exit h).row (length (text_of f)) e);
        print_kept = λ k buffer r exit h n. (printed_by k buffer r exit h).1 ∙ bytes_kept (standing cs) k buffer (print_outcome r.answer) (print_exactly k buffer r exit h).row n;
        explain = explain_exactly;
        explain_same = λ buffer r exit h. h.same;
        explain_written = tree_there;
        explain_kept = λ buffer r exit h n. (explained_by buffer r exit h).1 ∙ tree_kept (standing cs) buffer (explain_outcome r.answer) (explain_exactly buffer r exit h).row n;
        check = check_exactly;
        check_same = λ words r h. h.same;
        still = still_exactly;
        still_same = λ words r h. h.same;
        clash = clash_exact;
        clash_same = λ places r exit h. h.same;
        clash_written = λ places r exit h gs rules s is e.
            let had = had_places (standing cs) (length places) (clash_outcome r.answer) (clash_exact places r exit h).row (length s) e in
            (clashed_by places r exit h).1 ∙ clash_written (standing cs) places gs had.0 rules s is had.1;
        clash_kept = λ places r exit h n. (clashed_by places r exit h).1 ∙ clash_kept (standing cs) places (clash_outcome r.answer) (clash_exact places r exit h).row n;
      }

  -- ---- demand 2

  -- the words of the plan that is given decode to it, and it meets the rules
  plan_given : (q : Question) → SomeStand (standing cs) → (p : Plan) → IsGiven q fs p → Given q (standing cs) (words_of p)
  unfolding names_in
  plan_given q some p g =
      let r = given_found q fs p g in
      subst (λ (x : Plan). Given q (standing cs) (words_of x)) (sym r.2) (row_given q (standing cs) fs some are (can_names (standing cs) stands) r.0 r.1)

  given : (q : Question) (buffer : List ℕ) (r : AskResult) (exit : List ℕ) → Asks q (run cs) buffer r exit → (n : ℕ) → ask_outcome r.answer ≡ Outcome.Plan n → Given q (standing cs) (take n exit)
  given q buffer r exit h n e = go (ask_outcome r.answer) (ask_exactly q buffer r exit h).row e
    where
      go : (o : Outcome) → AskRow q (standing cs) (length buffer) o → o ≡ Outcome.Plan n → Given q (standing cs) (take n exit)
      go o (AskRow.none z) f = absurd (let z : ◌≡◌ {A = ℕ} 0 1 = cc in omega arith)
      go o (AskRow.without some rules never) f = absurd (let z : ◌≡◌ {A = ℕ} 0 1 = cc in omega arith)
      go o (AskRow.short some rules g l) f = absurd (let z : ◌≡◌ {A = ℕ} 0 1 = cc in omega arith)
      go o (AskRow.given {p = p} some rules k l) f =
          let z : length (words_of p) ≡ n = cc in
          let g : IsGiven q fs p = given_computed q (standing cs) rules p k in
          let w : take n exit ≡ words_of p
          = ap (take n) (asked_by q buffer r exit h).1 ∙ ap (λ (k : ℕ). take k (ask_words q (standing cs) buffer)) (sym z) ∙ first_words q (standing cs) buffer some p g l in
          subst (Given q (standing cs)) (sym w) (plan_given q some p g)

  -- what judge says of the words
  record Judged (words : List ℕ) (o : Outcome) : Type 0 where
    yes : o ≡ Outcome.Yes → Met (standing cs) words
    unmet : (k : ℕ) → 0 < k → o ≡ Outcome.Unmet k → NotMet (standing cs) words k
    nowhere : o ≡ Outcome.Unmet 0 → Nowhere (standing cs) words

  -- nothing, where it is another answer
  not_judged : (words : List ℕ) (number carries : ℕ) → Judged words (Outcome.Refused number carries)
  not_judged words number carries =
      record {
        yes = λ f. absurd (let z : ◌≡◌ {A = ℕ} 0 1 = cc in omega arith);
        unmet = λ k l f. absurd (let z : ◌≡◌ {A = ℕ} 0 1 = cc in omega arith);
        nowhere = λ f. absurd (let z : ◌≡◌ {A = ℕ} 0 1 = cc in omega arith);
      }

  judged_so : (words : List ℕ) (o : Outcome) → JudgeRow (standing cs) words o → Judged words o
  judged_so words o (JudgeRow.none z) = not_judged words 11 0
  judged_so words o (JudgeRow.unread {j} some z) = not_judged words 13 j
  judged_so words o (JudgeRow.differ {p = p} some rules i w z) = not_judged words 14 p.names
  judged_so words o (JudgeRow.uncovered {fs = gs} {p = p} some rules d l i) =
      record {
        yes = λ f. absurd (let z : ◌≡◌ {A = ℕ} 0 1 = cc in omega arith);
        unmet = λ k l f. let z : 0 ≡ k = cc in absurd (omega arith);
        nowhere = λ f. record { some = some; formulas = gs; rules = rules; plan = p; decodes = d; named = l; point = i };
      }
  judged_so words o (JudgeRow.met {fs = gs} {p = p} some rules d c m) =
      record {
        yes = λ f. record { some = some; formulas = gs; rules = rules; plan = p; decodes = d; covered = c; meets = m };
        unmet = λ k l f. absurd (let z : ◌≡◌ {A = ℕ} 0 1 = cc in omega arith);
        nowhere = λ f. absurd (let z : ◌≡◌ {A = ℕ} 0 1 = cc in omega arith);
      }
  judged_so words o (JudgeRow.unmet {fs = gs} {p = p} {k = j} some rules d c u) =
      record {
        yes = λ f. absurd (let z : ◌≡◌ {A = ℕ} 0 1 = cc in omega arith);
        unmet = λ k l f. let z : j ≡ k = cc in
            record { some = some; formulas = gs; rules = rules; plan = p; decodes = d; covered = c; lowest = subst (λ (i : ℕ). FirstUnmet (floor_of d) 1 gs i) z u };
        nowhere = λ f. let z : j ≡ 0 = cc in absurd (omega (arith, u.number));
      }

  judged_yes : (words : List ℕ) (r : JudgeResult) → Judges (run cs) words r → (judge_outcome r.answer ≡ Outcome.Yes) ↔ Met (standing cs) words
  judged_yes words r h =
      let row = judge_exactly words r h in
      ((judged_so words (judge_outcome r.answer) row.row).yes, λ m. sym (row.only Outcome.Yes (JudgeRow.met m.some m.rules m.decodes m.covered m.meets)))

  judged_unmet : (words : List ℕ) (r : JudgeResult) → Judges (run cs) words r → (k : ℕ) → 0 < k → (judge_outcome r.answer ≡ Outcome.Unmet k) ↔ NotMet (standing cs) words k
  judged_unmet words r h k l =
      let row = judge_exactly words r h in (
        (judged_so words (judge_outcome r.answer) row.row).unmet k l,
        λ m. sym (row.only (Outcome.Unmet k) (JudgeRow.unmet m.some m.rules m.decodes m.covered m.lowest)),
      )

  judged_nowhere : (words : List ℕ) (r : JudgeResult) → Judges (run cs) words r → (judge_outcome r.answer ≡ Outcome.Unmet 0) ↔ Nowhere (standing cs) words
  judged_nowhere words r h =
      let row = judge_exactly words r h in (
        (judged_so words (judge_outcome r.answer) row.row).nowhere,
        λ m. sym (row.only (Outcome.Unmet 0) (JudgeRow.uncovered m.some m.rules m.decodes m.named m.point)),
      )

  meant : Meant (standing cs) (run cs)
  meant =
      record {
        formulas = fs;
        rules = are;
        one = λ s f g h k. sym (text_means s f h) ∙ text_means s g k;
        given = given;
        yes = judged_yes;
        unmet = judged_unmet;
        nowhere = judged_nowhere;
      }

  -- ---- demand 3

  -- none of the adds that put the standing rules into the empty table is refused
  pub taken : (before : List Text) (s : Text) (later : List Text) → standing cs ≡ before ++ s ∷ later
      → (u : Table) → Leaves (adds before) u → (r : AddResult) → Adds u s r → add_outcome r.answer ≡ Outcome.Done
  unfolding added
  taken before s later e u l r h =
      let can : CanStand (before ++ s ∷ later) = subst CanStand e stands in
      let before-held : rules_of u ≡ before = ap rules_of (left (adds before) u l) ∙ (table.same_table (adds before)).holds ∙ table.adds_stand before (stand_first before (s ∷ later) can) in
      ap add_outcome (ap (λ (x : AddResult). x.answer) h.result ∙ ap (λ (rs : List Text). judge_add rs s) before-held ∙ table.next_added before s later can)

  ask_gives : (q : Question) (buffer : List ℕ) (r : AskResult) (exit : List ℕ) → Asks q (run cs) buffer r exit → AskGives q (standing cs) buffer r exit
  ask_gives q buffer r exit h =
      let row = ask_exactly q buffer r exit h in
      record {
        formulas = fs;
        rules = are;
        none = λ e. sym (row.only (Outcome.Refused 11 0) (AskRow.none e));
        no_plan = λ some. (λ e. without_plan q (standing cs) (length buffer) (ask_outcome r.answer) row.row e, λ never. sym (row.only Outcome.NoPlan (AskRow.without some are never)));
        plan = λ some p g l. (sym (row.only (Outcome.Plan (length (words_of p))) (AskRow.given some are g l)), (asked_by q buffer r exit h).1 ∙ words_written q (standing cs) buffer some p g l);
        short = λ some p g l. (sym (row.only (Outcome.Refused 12 (length (words_of p))) (AskRow.short some are g l)), (asked_by q buffer r exit h).1 ∙ words_short q (standing cs) buffer some p g l);
        otherwise = plan_found q fs;
      }

  same_left : (u : Table) → Leaves (adds (standing cs)) u → run cs ≡ u
  same_left u l = (table.same_table cs).table ∙ sym (left (adds (standing cs)) u l)

  same : Same (standing cs) (run cs)
  same =
      record {
        gives = ask_gives;
        table = same_left;
        taken = taken;
        ask = λ u l q buffer r exit h s words k. (
          h.result ∙ ap (λ (t : Table). asked q (rules_of t) buffer) (same_left u l) ∙ sym k.result,
          h.words ∙ ap (λ (t : Table). ask_words q (rules_of t) buffer) (same_left u l) ∙ sym k.words,
        );
        judge = λ u l words r h s k. h.result ∙ ap (λ (t : Table). judged (rules_of t) words) (same_left u l) ∙ sym k.result;
        print = λ u l n buffer r exit h s bytes k. (
          h.result ∙ ap (λ (t : Table). printed (rules_of t) n buffer) (same_left u l) ∙ sym k.result,
          h.bytes ∙ ap (λ (t : Table). print_bytes (rules_of t) n buffer) (same_left u l) ∙ sym k.bytes,
        );
        explain = λ u l buffer r exit h s words k. (
          h.result ∙ ap (λ (t : Table). explained (rules_of t) buffer) (same_left u l) ∙ sym k.result,
          h.words ∙ ap (λ (t : Table). explain_words (rules_of t) buffer) (same_left u l) ∙ sym k.words,
        );
        check = λ u l words r h s k. h.result ∙ ap (λ (t : Table). tree_checked (rules_of t) words) (same_left u l) ∙ sym k.result;
        still = λ u l words r h s k. h.result ∙ ap (λ (t : Table). still_given (rules_of t) words) (same_left u l) ∙ sym k.result;
        clash = λ u l places r exit h s kept k. (
          h.result ∙ ap (λ (t : Table). clash_given (rules_of t) places) (same_left u l) ∙ sym k.result,
          h.written ∙ ap (λ (t : Table). clash_places (rules_of t) places) (same_left u l) ∙ sym k.written,
        );
      }

  -- ---- document 02, T-06

  accepted : (words : List ℕ) (r : CheckResult) → Checks (run cs) words r → check_outcome r.answer ≡ Outcome.Closed
      → (gs : List (Formula Name)) → AreRules (standing cs) gs → NoFloor plain gs
  accepted words r h e gs rules = go (check_outcome r.answer) (check_exactly words r h).row e
    where
      go : (o : Outcome) → CheckRow (standing cs) words o → o ≡ Outcome.Closed → NoFloor plain gs
      go o (CheckRow.none z) f = absurd (let z : ◌≡◌ {A = ℕ} 0 1 = cc in omega arith)
      go o (CheckRow.wrong some others z) f = absurd (let z : ◌≡◌ {A = ℕ} 0 1 = cc in omega arith)
      go o (CheckRow.closed {fs = hs} w some others c z) f = subst (NoFloor plain) (table.formulas_one (standing cs) hs gs others rules) (closed_no_plan hs w c)

  tree_closed : (buffer : List ℕ) (r : ExplainResult) (exit : List ℕ) → Explains (run cs) buffer r exit → (n : ℕ) → explain_outcome r.answer ≡ Outcome.Tree n
      → (s : CheckResult) → Checks (run cs) (take n exit) s → check_outcome s.answer ≡ Outcome.Closed
  tree_closed buffer r exit h n e s k = go (explain_outcome r.answer) (explain_exactly buffer r exit h).row e
    where
      go : (o : Outcome) → ExplainRow (standing cs) (length buffer) o → o ≡ Outcome.Tree n → check_outcome s.answer ≡ Outcome.Closed
      go o (ExplainRow.none z) f = absurd (let z : ◌≡◌ {A = ℕ} 0 1 = cc in omega arith)
      go o (ExplainRow.plan some rules F counts meets) f = absurd (let z : ◌≡◌ {A = ℕ} 0 1 = cc in omega arith)
      go o (ExplainRow.short t some rules w l) f = absurd (let z : ◌≡◌ {A = ℕ} 0 1 = cc in omega arith)
      go o (ExplainRow.tree {fs = gs} w some rules is l) f =
          let z : length (treeWords w) ≡ n = cc in
          let words : treeWords w ≡ take n exit
          = sym (ap (take n) (explained_by buffer r exit h).1 ∙ ap (λ (k : ℕ). take k (explain_words (standing cs) buffer)) (sym z) ∙ first_tree (standing cs) buffer gs some rules w is l) in
          sym ((check_exactly (take n exit) s k).only Outcome.Closed (CheckRow.closed w some rules (written_closed gs w is) words))

  tree_or_plan : SomeStand (standing cs) → (buffer : List ℕ) (r : ExplainResult) (exit : List ℕ) → Explains (run cs) buffer r exit
      → (lent : List ℕ) (s : AskResult) (words : List ℕ) → Asks plain (run cs) lent s words
      → (explain_outcome r.answer ≡ Outcome.Refused 17 0 → ⊥) ↔ (ask_outcome s.answer ≡ Outcome.NoPlan)
  tree_or_plan some buffer r exit h lent s words k = (
    λ none. sym ((ask_exactly plain lent s words k).only Outcome.NoPlan (AskRow.without some are (λ F counts meets.
        none (sym ((explain_exactly buffer r exit h).only (Outcome.Refused 17 0) (ExplainRow.plan some are F counts meets)))))),
    λ e f. go (explain_outcome r.answer) (explain_exactly buffer r exit h).row f
        (without_plan plain (standing cs) (length lent) (ask_outcome s.answer) (ask_exactly plain lent s words k).row e),
  )
    where
      go : (o : Outcome) → ExplainRow (standing cs) (length buffer) o → o ≡ Outcome.Refused 17 0 → NoFloor plain fs → ⊥
      go o (ExplainRow.none z) f none = absurd (some z)
      go o (ExplainRow.plan {fs = gs} also rules F counts meets) f none = none F (of_computed (standing cs) gs rules (λ hs. Counts plain (names_of hs) F) counts) (of_computed (standing cs) gs rules (λ hs. meets_all F hs ≡ true) meets)
      go o (ExplainRow.short t also rules w l) f none = absurd (let z : ◌≡◌ {A = ℕ} 12 17 = cc in omega arith)
      go o (ExplainRow.tree t also rules w l) f none = absurd (let z : ◌≡◌ {A = ℕ} 0 1 = cc in omega arith)

  -- ---- document 02, T-09

  in_hand : InHand (standing cs) (run cs)
  in_hand =
      record {
        drawn = λ some words r h gs rules. (
          λ e. drawn_so words (still_outcome r.answer) (still_exactly words r h).row e gs rules,
          λ d. sym ((still_exactly words r h).only Outcome.AsDrawn (StillRow.drawn some rules d)),
        );
        no = λ words r h lent s exit k. (
          λ e. not_so words (still_outcome r.answer) (still_exactly words r h).row e lent s exit k,
          λ e. said_none words r h (ask_outcome s.answer) (ask_exactly plain lent s exit k).row e,
        );
      }
    where
      drawn_so : (words : List ℕ) (o : Outcome) → StillRow (standing cs) words o → o ≡ Outcome.AsDrawn → (gs : List (Formula Name)) → AreRules (standing cs) gs → Drawn gs words
      drawn_so words o (StillRow.none z) f gs rules = absurd (let z : ◌≡◌ {A = ℕ} 0 1 = cc in omega arith)
      drawn_so words o (StillRow.drawn {fs = hs} some others d) f gs rules = subst (λ (x : List (Formula Name)). Drawn x words) (table.formulas_one (standing cs) hs gs others rules) d
      drawn_so words o (StillRow.yes some others n F c m) f gs rules = absurd (let z : ◌≡◌ {A = ℕ} 0 1 = cc in omega arith)
      drawn_so words o (StillRow.no some others n) f gs rules = absurd (let z : ◌≡◌ {A = ℕ} 0 1 = cc in omega arith)

      not_so : (words : List ℕ) (o : Outcome) → StillRow (standing cs) words o → o ≡ Outcome.No → (lent : List ℕ) (s : AskResult) (exit : List ℕ) → Asks plain (run cs) lent s exit
          → ask_outcome s.answer ≡ Outcome.NoPlan
      not_so words o (StillRow.none z) f lent s exit k = absurd (let z : ◌≡◌ {A = ℕ} 0 1 = cc in omega arith)
      not_so words o (StillRow.drawn some others d) f lent s exit k = absurd (let z : ◌≡◌ {A = ℕ} 0 1 = cc in omega arith)
      not_so words o (StillRow.yes some others n F c m) f lent s exit k = absurd (let z : ◌≡◌ {A = ℕ} 0 1 = cc in omega arith)
      not_so words o (StillRow.no some others n) f lent s exit k = sym ((ask_exactly plain lent s exit k).only Outcome.NoPlan (AskRow.without some others n))

      said_none : (words : List ℕ) (r : StillResult) → StillDoes (run cs) words r → {room : ℕ} (o : Outcome) → AskRow plain (standing cs) room o → o ≡ Outcome.NoPlan
          → still_outcome r.answer ≡ Outcome.No
      said_none words r h o (AskRow.none z) f = absurd (let z : ◌≡◌ {A = ℕ} 0 1 = cc in omega arith)
      said_none words r h o (AskRow.without some rules never) f = sym ((still_exactly words r h).only Outcome.No (StillRow.no some rules never))
      said_none words r h o (AskRow.short some rules g l) f = absurd (let z : ◌≡◌ {A = ℕ} 0 1 = cc in omega arith)
      said_none words r h o (AskRow.given some rules g l) f = absurd (let z : ◌≡◌ {A = ℕ} 0 1 = cc in omega arith)

  reasons : Reasons (standing cs) (run cs)
  reasons = record { accepted = accepted; written = tree_closed; told = tree_or_plan }

  -- ---- which rules clash

  clash_is : (places : List Bool) (r : ClashResult) (exit : List Bool) → GivesClash (run cs) places r exit → (n : ℕ) → clash_outcome r.answer ≡ Outcome.Clash n
      → (gs : List (Formula Name)) → AreRules (standing cs) gs → IsClash gs (take n exit)
  clash_is places r exit h n e gs rules =
      let had = had_places (standing cs) (length places) (clash_outcome r.answer) (clash_exact places r exit h).row n e in
      let set = clash_of fs in
      let is : IsClash fs set = (clash_exactly fs had.2 set).0 refl in
      let many : n ≡ length (standing cs) = counted (clash_outcome r.answer) (clash_exact places r exit h).row e in
      let long : length set ≡ n = clash_length fs ∙ length-map (standing cs) meaning_of ∙ sym many in
      let first : take n exit ≡ set = ap (take n) ((clashed_by places r exit h).1 ∙ clash_written (standing cs) places fs had.0 are set is had.1) ∙ take_at set _ n long in
      subst (λ (hs : List (Formula Name)). IsClash hs (take n exit)) (table.formulas_one (standing cs) fs gs are rules) (subst (IsClash fs) (sym first) is)
    where
      counted : {room n : ℕ} (o : Outcome) → ClashRow (standing cs) room o → o ≡ Outcome.Clash n → n ≡ length (standing cs)
      counted o (ClashRow.none z) f = absurd (let z : ◌≡◌ {A = ℕ} 0 1 = cc in omega arith)
      counted o (ClashRow.plan some others F counts meets) f = absurd (let z : ◌≡◌ {A = ℕ} 0 1 = cc in omega arith)
      counted o (ClashRow.short some others never l) f = absurd (let z : ◌≡◌ {A = ℕ} 0 1 = cc in omega arith)
      counted o (ClashRow.clash some others never l) f = cc

  clashing : Clashing (standing cs) (run cs)
  clashing =
      record {
        answered = λ places r exit h room lent s words k. (
          λ e. let had = had_places (standing cs) (length places) (clash_outcome r.answer) (clash_exact places r exit h).row (length (standing cs)) e in
              sym ((ask_exactly plain lent s words k).only Outcome.NoPlan (AskRow.without had.0 are had.2)),
          λ e. said_clash places r exit h room (ask_outcome s.answer) (ask_exactly plain lent s words k).row e,
        );
        is = clash_is;
        none = λ places r exit h n e gs rules. clash_none_meets gs (take n exit) (clash_is places r exit h n e gs rules);
        needed = λ places r exit h n e gs rules. clash_needed gs (take n exit) (clash_is places r exit h n e gs rules);
      }
    where
      said_clash : (places : List Bool) (r : ClashResult) (exit : List Bool) → GivesClash (run cs) places r exit → length (standing cs) ≤ length places → {lent : ℕ} (o : Outcome)
          → AskRow plain (standing cs) lent o → o ≡ Outcome.NoPlan → clash_outcome r.answer ≡ Outcome.Clash (length (standing cs))
      said_clash places r exit h room o (AskRow.none z) f = absurd (let z : ◌≡◌ {A = ℕ} 0 1 = cc in omega arith)
      said_clash places r exit h room o (AskRow.without some rules never) f =
          sym ((clash_exact places r exit h).only (Outcome.Clash (length (standing cs))) (ClashRow.clash some rules never room))
      said_clash places r exit h room o (AskRow.short some rules g l) f = absurd (let z : ◌≡◌ {A = ℕ} 0 1 = cc in omega arith)
      said_clash places r exit h room o (AskRow.given some rules g l) f = absurd (let z : ◌≡◌ {A = ℕ} 0 1 = cc in omega arith)

-- ---- the calls of the code

-- what holds of the computed table and rules holds of the table that is left and of the rules that stand
carried : (cs : List Call) (P : List Text → Table → Type 0) → P (standing cs) (run cs) → (t : Table) (rs : List Text) → Leaves cs t → Stands cs rs → P rs t
carried cs P h t rs l s =
    subst (P rs) (sym (left cs t l)) (subst (λ (ss : List Text). P ss (run cs)) (sym (table.stands_computed cs rs s)) h)

pub demand_one : (cs : List Call) (t : Table) (rs : List Text) → Leaves cs t → Stands cs rs → Answered rs t
demand_one cs = carried cs Answered (answered cs)

pub demand_two : (cs : List Call) (t : Table) (rs : List Text) → Leaves cs t → Stands cs rs → Meant rs t
demand_two cs = carried cs Meant (meant cs)

pub demand_three : (cs : List Call) (t : Table) (rs : List Text) → Leaves cs t → Stands cs rs → Same rs t
demand_three cs = carried cs Same (same cs)

pub reasons_hold : (cs : List Call) (t : Table) (rs : List Text) → Leaves cs t → Stands cs rs → Reasons rs t
reasons_hold cs = carried cs Reasons (reasons cs)

pub in_hand_holds : (cs : List Call) (t : Table) (rs : List Text) → Leaves cs t → Stands cs rs → InHand rs t
in_hand_holds cs = carried cs InHand (in_hand cs)

pub rules_clash : (cs : List Call) (t : Table) (rs : List Text) → Leaves cs t → Stands cs rs → Clashing rs t
rules_clash cs = carried cs Clashing (clashing cs)
