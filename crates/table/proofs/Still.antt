-- Still meets its definition: words that are read are a plan, whose arrays with the rules' number of names hold it as one of these names; it is
-- judged by the compiled rules, and the search's row decides where it does not meet them. Assumes nothing.
use Prim.Native.Nat.{ℕ, ◌≤◌, ◌<◌}
use mathlib.Core.Path.{◌≡◌, refl, sym, ap, ap₂, subst, ◌∙◌}
use mathlib.Core.Bool.{Bool, true, false, not, ◌&&◌, cond}
use mathlib.Core.List.{List, [], ◌∷◌}
use mathlib.Mathlib.Data.Bool.Basic.{eq-false_of_not-eq-true}
use native.Mathlib.Omega.{arith}
use lib.ListN.{length}
use borrow.Author.Tests.{le-leb, lt-leb}
use Rattle.formula.specs.Formula.{Formula, Name}
use Rattle.evalset.specs.Most.{most}
use Rattle.contact.specs.Meaning.{Floor, meets_all}
use Rattle.contact.specs.Question.{plain}
use Rattle.contact.specs.Numbering.{names_of}
use Rattle.contact.specs.Row.{Row}
use Rattle.contact.specs.Check.{first_row_of}
use Rattle.contact.proofs.Claims.{meets_same}
use Rattle.std.specs.Prelude.{Option, Ok, Err}
use Rattle.plan.specs.declared.NotAPlan.{NotAPlan}
use Rattle.plan.specs.declared.PlanArrays.{PlanArrays}
use Rattle.plan.specs.Words.{Plan, IsPlan}
use Rattle.plan.specs.Wider.{widened, widened_arrays}
use Rattle.plan.specs.Reader.{Reading, plan, refused, read_of, ReadingSays}
use Rattle.plan.specs.Arrays.{Reads}
use Rattle.plan.specs.Stored.{Stored}
use Rattle.plan.specs.Judging.{Judgement, yes, unmet, judge, uncovered}
use Rattle.plan.specs.Floor.{named_floor}
use Rattle.plan.proofs.Exact.{exact}
use Rattle.plan.proofs.Claims.{judge_yes}
use Rattle.plan.proofs.Wider.{widened_plan, widened_stored, widened_floor}
use Rattle.judging.specs.declared.Judged.{Judged}
use Rattle.judging.specs.Values.{judged_of}
use Rattle.judging.specs.Judges.{judged_plan}
use Rattle.solver.specs.Tree.{answer_for}
use Rattle.ruleset.specs.declared.Compiling.{Compiling}
use Rattle.ruleset.specs.Texts.{CompiledRules, FirstRowIs, JudgedIs}
use Rattle.table.specs.declared.Table.{Table}
use Rattle.table.specs.declared.StillAnswer.{StillAnswer}
use Rattle.table.specs.declared.StillResult.{StillResult}
use Rattle.table.specs.Store.{rules_of}
use Rattle.table.specs.Sheet.{Text}
use Rattle.table.specs.Calls.{formulas_of, FromUs}
use Rattle.table.specs.Still.{drawn_plan, drawn_reading, drawn_of, row_answer, still_answer, still_given, StillDoes, is_met, found_still, DrawnIs, InHandIs}
use Rattle.table.proofs.Lines.{none_stand}
use Rattle.table.proofs.Asking.{some_stand}
use Rattle.table.proofs.StillRows.{still_some}

-- ---- what is drawn

-- "Judge answers yes" exactly if every rule is met
yes_meets : (F : Floor Name) (rules : List (Formula Name)) (j : Judgement) → judge F rules ≡ j → is_met (judged_of j) ≡ meets_all F rules
yes_meets F rules yes e = sym ((judge_yes F rules).0 e)
yes_meets F rules (unmet k) e =
    sym (eq-false_of_not-eq-true (λ m. let d : unmet k ≡ yes = sym e ∙ (judge_yes F rules).1 m in let z : ◌≡◌ {A = ℕ} 0 1 = cc in omega arith))

-- and it is covered
met_both : (b : Bool) (j : Judged) → is_met (cond b Judged.Uncovered j) ≡ (not b && is_met j)
met_both true j = refl
met_both false j = refl

-- the words are no plan
pub drawn_unread : (words : List ℕ) (e : NotAPlan) → Reads words (Err e) → (c : Compiling) (code : List ℕ) → DrawnIs c code words false
unfolding DrawnIs drawn_of
drawn_unread words e reads c code rules kept compiled = sym (go (read_of words) (exact words) reads)
  where
    go : (x : Reading) (h : ReadingSays words x) → x ≡ refused e.at → drawn_reading rules words x h ≡ false
    go (plan p) h q = absurd (let z : ◌≡◌ {A = ℕ} 0 1 = cc in omega arith)
    go (refused j) h q = refl

module _ (words : List ℕ) (arrays : PlanArrays) (reads : Reads words (Ok arrays)) (c : Compiling) (code : List ℕ) where
  -- they are one: what holds of each plan that the arrays hold
  drawn_read : (b : Bool)
      → ((rules : List (Formula Name)) (kept : List ℕ) → CompiledRules rules c kept code → (p : Plan) (h : IsPlan p) → Stored arrays p → b ≡ drawn_plan rules p h)
      → DrawnIs c code words b
  unfolding DrawnIs drawn_of
  drawn_read b says rules kept compiled = go (read_of words) (exact words) reads.1
    where
      go : (x : Reading) (h : ReadingSays words x) → x ≡ plan reads.0 → b ≡ drawn_reading rules words x h
      go (plan p) h q = let z : p ≡ reads.0 = cc in says rules kept compiled p h.0 (subst (Stored arrays) (sym z) reads.2)
      go (refused j) h q = absurd (let z : ◌≡◌ {A = ℕ} 0 1 = cc in omega arith)

  abbrev names : ℕ
  names = c.known.atoms.chart.names

  -- of more names than the rules
  pub drawn_more : names < arrays.names → DrawnIs c code words false
  drawn_more l =
      drawn_read false (λ rules kept compiled p h stored.
      let more : length (names_of rules) < p.names = omega (arith, l, stored.names, compiled.known.names_counted) in
      sym (ap (λ (b : Bool). b && (not (uncovered (widened (length (names_of rules)) p)) && meets_all (named_floor rules p h) rules))
      (lt-leb p.names (length (names_of rules)) more)))

  -- of no more: it is judged as one of the rules' names
  pub drawn_judged : arrays.names ≤ names → (j : Judged) → JudgedIs c code (widened_arrays names arrays) j
      → (b : Bool) → b ≡ is_met j → DrawnIs c code words b
  unfolding JudgedIs
  drawn_judged l j says b is =
      drawn_read b (λ rules kept compiled p h stored.
      let n : ℕ = length (names_of rules) in
      let count : names ≡ n = compiled.known.names_counted in
      let fewer : p.names ≤ n = omega (arith, l, stored.names, count) in
      let few : names ≤ most = omega (arith, count, compiled.known.fits.names_fit) in
      let k : IsPlan (widened names p) = widened_plan names p (omega (arith, fewer, count)) few h in
      let by : j ≡ judged_plan rules (widened names p) k = says rules kept compiled (widened names p) k count (widened_stored names p arrays stored) in
      is ∙ ap is_met by ∙ met_both (uncovered (widened names p)) (judged_of (judge (named_floor rules (widened names p) k) rules))
      ∙ ap₂ (λ (m : ℕ) (t : Bool). not (uncovered (widened m p)) && t) count
      (yes_meets (named_floor rules (widened names p) k) rules _ refl
      ∙ meets_same (named_floor rules (widened names p) k) (named_floor rules p h) (widened_floor rules names p h k) rules)
      ∙ sym (ap (λ (t : Bool). t && (not (uncovered (widened n p)) && meets_all (named_floor rules p h) rules)) (le-leb p.names n fewer)))

-- ---- what still answers by the compiled rules

found_rows : (rows : List Row) → found_still (answer_for rows) ≡ row_answer rows
found_rows [] = refl
found_rows (row ∷ rows) = refl

module _ (words : List ℕ) (c : Compiling) (code : List ℕ) where
  -- where the words are drawn, whatever a search would find
  pub hand_drawn : DrawnIs c code words true → InHandIs c code words StillAnswer.AsDrawn
  unfolding DrawnIs InHandIs
  hand_drawn says rules kept compiled =
      ap (λ (d : Bool). cond d StillAnswer.AsDrawn (row_answer (first_row_of plain rules))) (says rules kept compiled)

  -- and where they are not, by the row that is found
  pub hand_found : DrawnIs c code words false → (r : Option ℕ) → FirstRowIs plain c code r → (a : StillAnswer) → a ≡ found_still r → InHandIs c code words a
  unfolding DrawnIs FirstRowIs InHandIs
  hand_found says r first a e rules kept compiled =
      e ∙ ap found_still (first rules kept compiled) ∙ found_rows (first_row_of plain rules)
      ∙ ap (λ (d : Bool). cond d StillAnswer.AsDrawn (row_answer (first_row_of plain rules))) (says rules kept compiled)

-- ---- still

abbrev pub still_result : Table → StillAnswer → StillResult
still_result t a = record { table = t; answer = a }

module _ (t : Table) (v : FromUs t) (words : List ℕ) where
  pub stills_of : (a : StillAnswer) → a ≡ still_answer (rules_of t) words → StillDoes t words (still_result t a)
  unfolding still_given
  stills_of a e = record { result = ap₂ still_result v.same e; same = refl; from_us = v }

  pub stills_none : t.count ≤ 0 → StillDoes t words (still_result t StillAnswer.NoRule)
  unfolding still_answer
  stills_none h = stills_of StillAnswer.NoRule (sym (ap (λ (rs : List Text). still_answer rs words) (none_stand t v h)))

  -- the answer by the compiled rules
  pub stills_by : 0 < t.count → (c : Compiling) (kept code : List ℕ) → CompiledRules (formulas_of (rules_of t)) c kept code → (a : StillAnswer) → InHandIs c code words a
      → StillDoes t words (still_result t a)
  unfolding InHandIs
  stills_by h c kept code compiled a says =
      stills_of a (says (formulas_of (rules_of t)) kept compiled ∙ sym (still_some (rules_of t) (some_stand t v h) words))
