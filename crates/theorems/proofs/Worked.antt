-- Every worked sheet holds: the standing rules and the words of their plan are computed from the rule texts, one equation over the
-- table of rows, and what ask gives follows for any buffer. Assumes nothing.
use mathlib.Core.Path.{◌≡◌, refl, ap, ◌∙◌, subst}
use mathlib.Core.Bool.{Bool, true, false, cond, decide}
use mathlib.Core.List.{List, [], ◌∷◌, map, nil≢cons, cons≢nil, head-eq_of_cons-eq}
use Prim.Native.Nat.{ℕ}
use lib.Dec.{leb}
use lib.ListN.{length}
use borrow.Author.Tests.{le-leb, lt-leb}
use native.Mathlib.Decide.{ℕ_discrete}
use Rattle.formula.specs.Same.{name_discrete, equal_atom, same_atom}
use Rattle.lexer.specs.Class.{class_of, is_blank, is_alphanumeric, is_sign}
use Rattle.lexer.specs.Spelling.{signs, starts, constant_kind}
use Rattle.lexer.specs.Cutter.{longest, sign_piece, run_length, run_piece, piece_of, cut_from}
use Rattle.lexer.specs.Arrays.{lexed}
use Rattle.syntax.specs.Machine.{run as runMachine, reading}
use Rattle.syntax.specs.Postfix.{puts}
use Rattle.syntax.specs.Rule.{rule_of, meaning_of}
use Rattle.lists.specs.Search.{In}
use Rattle.evalset.specs.Bit.{bit}
use Rattle.lists.proofs.Truth.{clash}
use Rattle.lists.proofs.Lists.{map_same}
use Rattle.lists.specs.Buffer.{over}
use Rattle.contact.specs.Row.{rules_true}
use Rattle.contact.specs.Question.{plain}
use Rattle.contact.specs.Plan.{separated, may, allowed, fills, partners, leads, given}
use Rattle.contact.specs.Check.{check, points_for, good, first_row}
use Rattle.names.specs.Gather.{rule_tokens, with_name, names_after, gathered_of, gathered}
use Rattle.names.specs.Ninth.{places_of}
use Rattle.plan.specs.Words.{Plan, before, words_of}
use Rattle.plan.specs.Links.{pair_of, row_to, links_to}
use Rattle.plan.specs.Given.{given_plan}
use Rattle.plan.specs.Plans.{row_plan, plans_of}
use Rattle.table.specs.declared.Table.{Table}
use Rattle.table.specs.declared.Outcome.{Outcome}
use Rattle.table.specs.declared.AskAnswer.{AskAnswer}
use Rattle.table.specs.Sheet.{Text}
use Rattle.table.specs.Calls.{formulas_of, names_in, atoms_in, judge_names, judge_atoms, judge_room, judge_text, judge_add, add_rules, judge_withdraw, without, withdraw_rules, is_none}
use Rattle.table.specs.Stands.{Call, adds, Stands}
use Rattle.table.specs.Runs.{after, standing_from, standing}
use Rattle.table.specs.Asking.{plan_answer, found_answer, ask_answer, found_words, ask_words, Asks}
use Rattle.table.specs.Numbers.{ask_outcome}
use Rattle.table.proofs.Claims.{standing_stands}
use Rattle.theorems.specs.Worked.{Answer, words, no_plan_said, WorkedSheet, worked_sheets, Gives, AskedFor, Holds}
use Rattle.theorems.specs.Demands.{Leaves}
use Rattle.theorems.proofs.Demands.{left, asked_by}

-- ---- computed

-- rules, whether they are none, and the words of each of their plans, none or one
record Computed : Type 0 where
  pub rules : List Text
  pub none : Bool
  pub plans : List (List ℕ)

-- what the definitions give for a row
abbrev computed : WorkedSheet → Computed
computed row =
    record {
      rules = standing row.calls;
      none = is_none (standing row.calls);
      plans = map words_of (plans_of plain (formulas_of (standing row.calls)));
    }

-- what is written in it
abbrev plans_in : Answer → List (List ℕ)
plans_in (words ws) = ws ∷ []
plans_in no_plan_said = []

abbrev written : WorkedSheet → Computed
written row = record { rules = row.rules; none = false; plans = plans_in row.answer }

sheets_computed : map computed worked_sheets ≡ map written worked_sheets
unfolding class_of is_blank is_alphanumeric is_sign signs starts constant_kind longest sign_piece run_length run_piece piece_of cut_from lexed runMachine reading puts rule_of meaning_of decide ℕ_discrete name_discrete equal_atom same_atom bit rules_true separated may allowed fills partners leads check given points_for good first_row places_of rule_tokens with_name names_after gathered_of gathered pair_of row_to links_to before words_of given_plan row_plan plans_of names_in atoms_in judge_names judge_atoms judge_room judge_text judge_add add_rules judge_withdraw without withdraw_rules after standing_from standing adds
sheets_computed = refl

-- ---- asked

-- what ask computes where the rules rs stand: this outcome, and these words
record Asked (rs : List Text) (buffer : List ℕ) (o : Outcome) (exit : List ℕ) : Type 0 where
  pub answer : ask_outcome (ask_answer plain rs (length buffer)) ≡ o
  pub words : ask_words plain rs buffer ≡ exit

module _ (buffer : List ℕ) (s : Text) (rs : List Text) where
  -- ask, by the plans of the rules
  asked_for : (a : Answer) (plans : List Plan) → plans_of plain (formulas_of (s ∷ rs)) ≡ plans → map words_of plans ≡ plans_in a → AskedFor a buffer (Asked (s ∷ rs) buffer)
  unfolding ask_answer ask_words
  asked_for no_plan_said [] e f =
      record { answer = ap (λ (ps : List Plan). ask_outcome (found_answer ps (length buffer))) e; words = ap (λ (ps : List Plan). found_words ps buffer) e }
  asked_for no_plan_said (p ∷ ps) e f = absurd (cons≢nil f)
  asked_for (words ws) [] e f = absurd (nil≢cons f)
  asked_for (words ws) (p ∷ ps) e f = (λ h. fits true (le-leb (length ws) (length buffer) h), λ h. fits false (lt-leb (length ws) (length buffer) h))
    where
      fits : (b : Bool) → leb (length ws) (length buffer) ≡ b
          → Asked (s ∷ rs) buffer (ask_outcome (cond b (AskAnswer.Plan (length ws)) (AskAnswer.ShortBuffer (length ws)))) (cond b (over ws buffer) buffer)
      fits b g =
          let h = head-eq_of_cons-eq f in
          record {
            answer = ap ask_outcome (ap (λ (qs : List Plan). found_answer qs (length buffer)) e ∙ ap (λ (vs : List ℕ). plan_answer (length vs) (length buffer)) h
                ∙ ap (λ c. cond c (AskAnswer.Plan (length ws)) (AskAnswer.ShortBuffer (length ws))) g);
            words = ap (λ (qs : List Plan). found_words qs buffer) e ∙ ap (λ (vs : List ℕ). cond (leb (length vs) (length buffer)) (over vs buffer) buffer) h
                ∙ ap (λ c. cond c (over ws buffer) buffer) g;
          }

-- the same where some rule stands
asked : (buffer : List ℕ) (a : Answer) (rs : List Text) → is_none rs ≡ false → map words_of (plans_of plain (formulas_of rs)) ≡ plans_in a → AskedFor a buffer (Asked rs buffer)
asked buffer a [] h e = clash refl h
asked buffer a (s ∷ rs) h e = asked_for buffer s rs a (plans_of plain (formulas_of (s ∷ rs))) refl e

-- what is computed is what ask gives on the table that the calls leave
gives : (cs : List Call) (t : Table) → Leaves cs t → (buffer : List ℕ) (o : Outcome) (ws : List ℕ) → Asked (standing cs) buffer o ws → Gives t buffer o ws
gives cs t l buffer o ws a r exit h =
    let e = asked_by cs plain buffer r exit (subst (λ u. Asks plain u buffer r exit) (left cs t l) h) in
    (ap ask_outcome e.0 ∙ a.answer, e.1 ∙ a.words)

-- and so for a row's answer
each : {S G : Outcome → List ℕ → Type 0} → ((o : Outcome) (exit : List ℕ) → S o exit → G o exit) → (a : Answer) (buffer : List ℕ) → AskedFor a buffer S → AskedFor a buffer G
each f (words ws) buffer h = (λ l. f _ _ (h.0 l), λ l. f _ _ (h.1 l))
each f no_plan_said buffer h = f _ _ h

-- ---- the claim

-- "P1 to P12 are shown to follow from the definitions by a single claim over their table."
pub worked : (row : WorkedSheet) → In row worked_sheets → Holds row
worked row i =
    let e = map_same computed written i sheets_computed in
    record {
      stand = subst (Stands row.calls) (ap (λ (o : Computed). o.rules) e) (standing_stands row.calls);
      answered = λ t l buffer. each (gives row.calls t l buffer) row.answer buffer
          (asked buffer row.answer (standing row.calls) (ap (λ (o : Computed). o.none) e) (ap (λ (o : Computed). o.plans) e));
    }
