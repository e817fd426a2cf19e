-- What ask wrote is the plan that is given, so that the lines of its words are that plan's text; where it wrote none there is none, because a
-- rule stands and the words are enough. Assumes nothing.
use Prim.Native.Nat.{ℕ, ◌+◌, ◌*◌, ◌≤◌}
use mathlib.Core.Path.{◌≡◌, refl, sym, ap, ap₂, subst, ◌∙◌}
use mathlib.Core.List.{List, [], ◌∷◌, map}
use native.Mathlib.Omega.{arith}
use lib.ListN.{length}
use types.Run.{OneOf, miss}
use denote.Enum.Declared.{tag_of}
use Rattle.lists.specs.Buffer.{over}
use Rattle.formula.specs.Formula.{Formula, Name}
use Rattle.lexer.specs.Text.{bytes}
use Rattle.contact.specs.Question.{Question, plain, building}
use Rattle.contact.specs.Numbering.{names_of, different_atoms}
use Rattle.evalset.specs.Most.{most}
use Rattle.names.specs.Gather.{arrays_of, known_of}
use Rattle.names.specs.declared.Names.{Names}
use Rattle.names.proofs.Arrays.{known_back}
use Rattle.plan.specs.Words.{Plan, IsPlan, words_of}
use Rattle.plan.specs.Plans.{plans_of}
use Rattle.plan.proofs.Claims.{no_plan_given, given_exactly, given_found, given_is_plan, given_words, given_points, room_words, room_points}
use Rattle.table.specs.declared.Table.{Table}
use Rattle.table.specs.declared.AskAnswer.{AskAnswer}
use Rattle.table.specs.declared.AskResult.{AskResult}
use Rattle.table.specs.declared.LoadAnswer.{LoadAnswer}
use Rattle.table.specs.declared.LoadResult.{LoadResult}
use Rattle.table.specs.contracts.AskAnswer.{the_type}
use Rattle.table.specs.contracts.LoadAnswer.{the_type as load-type}
use Rattle.table.specs.contracts.Outcome.{the_type as outcome-type}
use Rattle.table.specs.Store.{rules_of}
use Rattle.table.specs.Sheet.{Text, lines_of, filled}
use Rattle.table.specs.Calls.{formulas_of, names_in, atoms_in, judge_load, if_loaded, load_rules, loaded, FromUs, Loads}
use Rattle.table.specs.Asking.{found_words, ask_words, asked, Asks}
use Rattle.table.specs.Rows.{SomeStand, AskRow, LoadRow}
use Rattle.plan.specs.Meant.{IsGiven}
use Rattle.table.proofs.Claims.{ask_answered, load_answered, rules_back}
use Rattle.table.specs.declared.Outcome.{Outcome}
use Rattle.table.specs.Numbers.{load_outcome, ask_outcome}
use Rattle.table.proofs.Rules.{of_computed, can_read, can_names, can_atoms}
use Rattle.table.proofs.Standing.{not_loaded}
use Rattle.table.proofs.Asking.{words_written}
use Rattle.report.specs.Output.{plans_text, rules_text, outcome_text, sheet_text}
use Rattle.report.specs.Lines.{plan_text, ended}
use Rattle.report.specs.Pieces.{plan_line_at, lines_from}
use Rattle.report.specs.Lent.{of_sheet, Lends}
use Rattle.report.specs.declared.TextAnswer.TheVariants as TextAnswer
use Rattle.report.specs.Putting.{word_room, text_room}
use Rattle.report.proofs.Lent.{lends_lines}
use Rattle.report.proofs.Short.{names_short}
use Rattle.report.proofs.Bounds.{plan_few}
use Rattle.report.proofs.PlanLines.{plan_lines}

-- a case that is another than the first is no plan
pub told_other : (a : AskAnswer) → OneOf (1 ∷ 2 ∷ 3 ∷ []) (tag_of the_type a) → (n : ℕ) → a ≡ AskAnswer.Plan n → ⊥
told_other a h n e = miss (1 ∷ 2 ∷ 3 ∷ []) 0 tt (subst (λ (x : AskAnswer). OneOf (1 ∷ 2 ∷ 3 ∷ []) (tag_of the_type x)) e h)

-- an outcome that is another than a refusal on a line has no text
pub no_refusal_text : (o : Outcome) → OneOf (0 ∷ 1 ∷ 2 ∷ 3 ∷ 4 ∷ 5 ∷ 6 ∷ 7 ∷ 8 ∷ 9 ∷ 10 ∷ 11 ∷ []) (tag_of outcome-type o) → outcome_text o ≡ []
no_refusal_text Outcome.Done h = refl
no_refusal_text (Outcome.Plan words) h = refl
no_refusal_text Outcome.NoPlan h = refl
no_refusal_text Outcome.Yes h = refl
no_refusal_text (Outcome.Unmet rule) h = refl
no_refusal_text (Outcome.Text n) h = refl
no_refusal_text (Outcome.Tree n) h = refl
no_refusal_text Outcome.Closed h = refl
no_refusal_text Outcome.AsDrawn h = refl
no_refusal_text Outcome.No h = refl
no_refusal_text (Outcome.Clash n) h = refl
no_refusal_text (Outcome.Refused number carried) h = refl
no_refusal_text (Outcome.RefusedLine number line place) h = absurd (miss (0 ∷ 1 ∷ 2 ∷ 3 ∷ 4 ∷ 5 ∷ 6 ∷ 7 ∷ 8 ∷ 9 ∷ 10 ∷ 11 ∷ []) 12 tt h)

-- the outcome of a plan is a plan's alone
is_plan : (a : AskAnswer) {n : ℕ} → ask_outcome a ≡ Outcome.Plan n → a ≡ AskAnswer.Plan n
is_plan (AskAnswer.Plan k) {n} e = let z : k ≡ n = cc in ap AskAnswer.Plan z
is_plan AskAnswer.NoPlan e = absurd (let z : ◌≡◌ {A = ℕ} 0 1 = cc in omega arith)
is_plan AskAnswer.NoRule e = absurd (let z : ◌≡◌ {A = ℕ} 0 1 = cc in omega arith)
is_plan (AskAnswer.ShortBuffer k) e = absurd (let z : ◌≡◌ {A = ℕ} 0 1 = cc in omega arith)

-- where there is no plan no word is written
kept : (q : Question) (buffer : List ℕ) (rs : List Text) → plans_of q (formulas_of rs) ≡ [] → ask_words q rs buffer ≡ buffer
unfolding ask_words
kept q buffer [] e = refl
kept q buffer (s ∷ rs) e = ap (λ (ps : List Plan). found_words ps buffer) e

-- a question was put where some rule stands, with room for every plan
pub record Asking (q : Question) (t : Table) (buffer : List ℕ) (r : AskResult) (exit : List ℕ) : Type 0 where
  pub from_us : FromUs t
  pub some : SomeStand (rules_of t)
  pub room : word_room q ≤ length buffer
  pub asks : Asks q t buffer r exit

module _ {q : Question} {t : Table} {buffer : List ℕ} {r : AskResult} {exit : List ℕ} (h : Asking q t buffer r exit) where
  abbrev rules : List (Formula Name)
  rules = formulas_of (rules_of t)

  few_atoms : length (different_atoms rules) ≤ 16
  unfolding atoms_in
  few_atoms = can_atoms (rules_of t) h.from_us.standing

  few_names : length (names_of rules) ≤ most
  unfolding names_in
  few_names = can_names (rules_of t) h.from_us.standing

  -- the plan has room, and so has its text
  words_room : (p : Plan) → plans_of q rules ≡ p ∷ [] → length (words_of p) ≤ word_room q
  words_room p only = go q only
    where
      go : (k : Question) → plans_of k rules ≡ p ∷ [] → length (words_of p) ≤ word_room k
      go plain e = given_words rules few_atoms p e
      go building e = room_words building rules p e few_names

  text_room_lem : (p : Plan) → IsPlan p → plans_of q rules ≡ p ∷ [] → length (plan_text (names_of rules) p) ≤ text_room q
  unfolding names_in
  text_room_lem p is only = go q only
    where
      few : (n contacts : ℕ) → n ≤ 256 → length p.points ≤ n → length (words_of p) ≤ 2 + n + contacts → length (plan_text (names_of rules) p) ≤ 24 + n * 147 + contacts * 16
      few = plan_few (names_of rules) few_names (names_short (rules_of t) (can_read (rules_of t) h.from_us.standing)) p is

      go : (k : Question) → plans_of k rules ≡ p ∷ [] → length (plan_text (names_of rules) p) ≤ text_room k
      go plain e = few 32 496 (omega arith) (given_points rules few_atoms p e) (given_words rules few_atoms p e)
      go building e = few 255 32385 (omega arith) (room_points building rules p e few_names) (room_words building rules p e few_names)

  row : AskRow q (rules_of t) (length buffer) (ask_outcome r.answer)
  unfolding asked
  row =
      subst (λ (a : AskAnswer). AskRow q (rules_of t) (length buffer) (ask_outcome a)) (sym (ap (λ (x : AskResult). x.answer) h.asks.result))
      (ask_answered q (length buffer) (rules_of t) h.from_us.standing.formulas h.from_us.standing.rules)

  -- where ask gives no plan there is none
  pub no_plans : ((n : ℕ) → r.answer ≡ AskAnswer.Plan n → ⊥) → plans_of q rules ≡ []
  no_plans other = go (ask_outcome r.answer) row refl
    where
      go : (o : Outcome) → AskRow q (rules_of t) (length buffer) o → ask_outcome r.answer ≡ o → plans_of q rules ≡ []
      go o (AskRow.none e) f = absurd (h.some e)
      go o (AskRow.without {fs} z are never) f = of_computed (rules_of t) fs are (λ gs. plans_of q gs ≡ []) ((no_plan_given q fs).1 never)
      go o (AskRow.short {fs} {p} z are g l) f =
          absurd (omega (arith, h.room, words_room p ((given_exactly q rules p).1 (of_computed (rules_of t) fs are (λ gs. IsGiven q gs p) g))))
      go o (AskRow.given {p = p} z are g l) f = absurd (other (length (words_of p)) (is_plan r.answer f))

  -- and the words are as they were
  pub words_kept : ((n : ℕ) → r.answer ≡ AskAnswer.Plan n → ⊥) → exit ≡ buffer
  words_kept other = h.asks.words ∙ kept q buffer (rules_of t) (no_plans other)

  pub no_text : ((n : ℕ) → r.answer ≡ AskAnswer.Plan n → ⊥) → ended (bytes "NO PLAN") ≡ rules_text q rules
  unfolding rules_text
  no_text other = sym (ap (plans_text (names_of rules)) (no_plans other))

  -- where it gives one
  pub record Wrote (n : ℕ) : Type 0 where
    pub plan : Plan
    pub is : IsPlan plan
    pub only : plans_of q rules ≡ plan ∷ []
    pub size : n ≡ length (words_of plan)
    pub words : exit ≡ over (words_of plan) buffer

  pub plan_written : (n : ℕ) → r.answer ≡ AskAnswer.Plan n → Wrote n
  plan_written n e = go (ask_outcome r.answer) row (ap ask_outcome e)
    where
      go : (o : Outcome) → AskRow q (rules_of t) (length buffer) o → o ≡ Outcome.Plan n → Wrote n
      go o (AskRow.none z) f = absurd (h.some z)
      go o (AskRow.without z are never) f = absurd (let z : ◌≡◌ {A = ℕ} 0 1 = cc in omega arith)
      go o (AskRow.short z are g l) f = absurd (let z : ◌≡◌ {A = ℕ} 0 1 = cc in omega arith)
      go o (AskRow.given {fs} {p} z are k l) f =
          let g : IsGiven q rules p = of_computed (rules_of t) fs are (λ gs. IsGiven q gs p) k in
          record {
            plan = p;
            is = let w = given_found q rules p g in subst IsPlan (sym w.2) (given_is_plan q rules few_names w.0 w.1);
            only = (given_exactly q rules p).1 g;
            size = let z : n ≡ length (words_of p) = cc in z;
            words = h.asks.words ∙ words_written q (rules_of t) buffer h.some p g l;
          }

  module _ (n : ℕ) (e : r.answer ≡ AskAnswer.Plan n) where
    abbrev it : Wrote n
    it = plan_written n e

    given_text : plan_text (names_of rules) it.plan ≡ rules_text q rules
    unfolding rules_text
    given_text = sym (ap (plans_text (names_of rules)) it.only)

    -- its words are lent
    pub plan_lent : {text out : List ℕ} → Lends text (map words_of (plans_of q rules)) buffer exit out out (TextAnswer.Lines n)
    plan_lent = lends_lines (words_of it.plan) (ap (map words_of) it.only) it.size it.words refl

    pub plan_told : (names : Names) → names ≡ arrays_of (names_in (rules_of t)) → lines_from (plan_line_at (known_of names) exit) 0 n ≡ rules_text q rules
    unfolding names_in over
    plan_told names are =
        ap₂ (λ (ns : List Name) (k : ℕ). lines_from (plan_line_at ns exit) 0 k) (ap known_of are ∙ known_back (names_in (rules_of t))) it.size
        ∙ plan_lines (names_of rules) exit it.plan it.is (room_points q rules it.plan it.only few_names) (room_words q rules it.plan it.only few_names) _ it.words
        ∙ given_text

    pub plan_room : length (rules_text q rules) ≤ text_room q
    plan_room = subst (λ (l : List ℕ). length l ≤ text_room q) given_text (text_room_lem it.plan it.is it.only)

-- ---- a sheet

pub told_not_loaded : (a : LoadAnswer) → OneOf (1 ∷ 2 ∷ 3 ∷ []) (tag_of load-type a) → a ≡ LoadAnswer.Loaded → ⊥
told_not_loaded a h e = miss (1 ∷ 2 ∷ 3 ∷ []) 0 tt (subst (λ (x : LoadAnswer). OneOf (1 ∷ 2 ∷ 3 ∷ []) (tag_of load-type x)) e h)

module _ (t : Table) (file : Text) (r : LoadResult) (loads : Loads t file r) where
  pub answer_is : r.answer ≡ judge_load file
  unfolding loaded
  answer_is = ap (λ (x : LoadResult). x.answer) loads.result

  -- a refused sheet has its refusal's text
  pub refused_text : (given : List (Formula Name) → List ℕ) → (r.answer ≡ LoadAnswer.Loaded → ⊥)
      → outcome_text (load_outcome r.answer) ≡ sheet_text given file
  unfolding sheet_text
  refused_text given other =
      ap (λ (a : LoadAnswer). outcome_text (load_outcome a)) answer_is
      ∙ sym (not_loaded (judge_load file) (given (formulas_of (filled (lines_of file)))) (outcome_text (load_outcome (judge_load file))) (λ e. other (answer_is ∙ e)))

  -- and is given nothing
  pub refused_none : {A : Type 0} (given : List (Formula Name) → List A) → (r.answer ≡ LoadAnswer.Loaded → ⊥) → of_sheet given file ≡ []
  unfolding of_sheet
  refused_none given other = not_loaded (judge_load file) (given (formulas_of (filled (lines_of file)))) [] (λ e. other (answer_is ∙ e))

  module _ (e : r.answer ≡ LoadAnswer.Loaded) where
    pub good : judge_load file ≡ LoadAnswer.Loaded
    good = sym answer_is ∙ e

    pub held : rules_of r.table ≡ filled (lines_of file)
    unfolding loaded load_rules
    held =
        ap (λ (x : LoadResult). rules_of x.table) loads.result ∙ rules_back (load_rules (rules_of t) file)
        ∙ ap (λ (a : LoadAnswer). if_loaded a (filled (lines_of file)) (rules_of t)) good

    -- in a loaded sheet some rule stands
    pub loaded_some : SomeStand (rules_of r.table)
    loaded_some z = go (load_outcome (judge_load file)) (load_answered file) (ap load_outcome good) (sym held ∙ z)
      where
        go : (o : Outcome) → LoadRow file o → o ≡ Outcome.Done → filled (lines_of file) ≡ [] → ⊥
        go o (LoadRow.long h) f = absurd (let z : ◌≡◌ {A = ℕ} 0 1 = cc in omega arith)
        go o (LoadRow.blank h k) f = absurd (let z : ◌≡◌ {A = ℕ} 0 1 = cc in omega arith)
        go o (LoadRow.line h k) f = absurd (let z : ◌≡◌ {A = ℕ} 0 1 = cc in omega arith)
        go o (LoadRow.loads h none can) f = none

    -- and its text is that of its rules
    pub loaded_text : (given : List (Formula Name) → List ℕ) → given (formulas_of (rules_of r.table)) ≡ sheet_text given file
    unfolding sheet_text
    loaded_text given =
        ap (λ (rs : List Text). given (formulas_of rs)) held
        ∙ sym (ap (λ (a : LoadAnswer). if_loaded a (given (formulas_of (filled (lines_of file)))) (outcome_text (load_outcome a))) good)

    pub loaded_given : {A : Type 0} (given : List (Formula Name) → List A) → given (formulas_of (rules_of r.table)) ≡ of_sheet given file
    unfolding of_sheet
    loaded_given {A} given =
        ap (λ (rs : List Text). given (formulas_of rs)) held
        ∙ sym (ap (λ (a : LoadAnswer). if_loaded a (given (formulas_of (filled (lines_of file)))) []) good)
