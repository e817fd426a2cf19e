-- Ask and judge are answered by the row that applies, and by no other: there is a plan exactly if it is that of the first row, and words
-- are read exactly if they are those of a plan. Assumes nothing.
use Prim.Native.Nat.{ℕ, ◌≤◌, ◌<◌}
use mathlib.Core.Path.{◌≡◌, refl, sym, ap, ◌∙◌, subst}
use mathlib.Core.Logic.{◌↔◌}
use mathlib.Core.Bool.{Bool, true, false, cond}
use mathlib.Core.List.{List, [], ◌∷◌, cons≢nil}
use native.Mathlib.Omega.{arith}
use native.Mathlib.Bridge.{le_prop}
use native.Mathlib.Decide.{ℕ_discrete as dec_eq}
use lib.Dec.{leb, eqb}
use lib.ListN.{length}
use borrow.Author.Tests.{leb-true, leb-false, le-leb, lt-leb, eq-eqb, ne_eqb}
use Rattle.formula.specs.Formula.{Formula, Name}
use Rattle.contact.specs.Meaning.{Floor, renamed}
use Rattle.contact.specs.Question.{Question}
use Rattle.contact.specs.Numbering.{names_of, number_of}
use Rattle.plan.specs.Words.{Plan, IsPlan, words_of, Refusal}
use Rattle.plan.specs.Reader.{Reading, plan, refused, read_of, ReadingSays}
use Rattle.plan.specs.Plans.{plans_of}
use Rattle.plan.specs.Judging.{Judgement, judge, uncovered}
use Rattle.plan.proofs.Exact.{exact}
use Rattle.plan.specs.Floor.{plan_floor, named_floor}
use Rattle.plan.proofs.Claims.{plan_is_read, refused_exactly, uncovered_exactly, covered_exactly, judge_yes, judge_unmet, no_plan_given, given_exactly, given_at_most_one}
use Rattle.table.specs.declared.AskAnswer.{AskAnswer}
use Rattle.table.specs.declared.JudgeAnswer.{JudgeAnswer}
use Rattle.table.specs.Sheet.{Text}
use Rattle.table.specs.Rules.{AreRules}
use Rattle.table.specs.Calls.{formulas_of}
use Rattle.table.specs.Asking.{plan_answer, found_answer, ask_answer, judgement_answer, judge_decoded, judge_plan, judge_reading, judge_answer}
use Rattle.std.specs.Prelude.{Result, Ok, Err}
use Rattle.plan.specs.declared.NotAPlan.{NotAPlan}
use Rattle.plan.specs.declared.PlanArrays.{PlanArrays}
use Rattle.plan.specs.Arrays.{Reads}
use Rattle.table.specs.declared.Outcome.{Outcome}
use Rattle.table.proofs.Rules.{AllRead, are_formulas, formulas_are}
use Rattle.table.proofs.Asking.{asked_some, judged_some}
use Rattle.table.specs.Numbers.{ask_outcome, judge_outcome, plan_outcome}
use Rattle.table.specs.Rows.{SomeStand, AskRow, Decodes, floor_of, JudgeRow}
use Rattle.plan.specs.Meant.{IsGiven}

-- ---- ask

module _ (q : Question) (room : ℕ) where
  -- where a rule stands, the plans decide
  found_row : (rs : List Text) (fs : List (Formula Name)) → SomeStand rs → AreRules rs fs → (ps : List Plan) → plans_of q fs ≡ ps → length ps ≤ 1 → AskRow q rs room (ask_outcome (found_answer ps room))
  found_row rs fs some are [] e l = AskRow.without some are ((no_plan_given q fs).0 e)
  found_row rs fs some are (p ∷ []) e l = go (leb (length (words_of p)) room) refl
    where
      go : (b : Bool) → leb (length (words_of p)) room ≡ b → AskRow q rs room (ask_outcome (cond b (AskAnswer.Plan (length (words_of p))) (AskAnswer.ShortBuffer (length (words_of p)))))
      go true t = AskRow.given some are ((given_exactly q fs p).0 e) (leb-true (length (words_of p)) room t)
      go false t = AskRow.short some are ((given_exactly q fs p).0 e) (leb-false (length (words_of p)) room t)
  found_row rs fs some are (p ∷ r ∷ ps) e l = absurd (omega arith)

  pub ask_row : (rs : List Text) → AllRead rs → AskRow q rs room (ask_outcome (ask_answer q rs room))
  unfolding ask_answer
  ask_row [] read = AskRow.none refl
  ask_row (s ∷ rs) read =
      found_row (s ∷ rs) (formulas_of (s ∷ rs)) cons≢nil (formulas_are (s ∷ rs) read) (plans_of q (formulas_of (s ∷ rs))) refl (given_at_most_one q (formulas_of (s ∷ rs)))

  -- the answer, where these are the plans of the rules
  asked_plans : (rs : List Text) (fs : List (Formula Name)) → SomeStand rs → AreRules rs fs → (ps : List Plan) → plans_of q fs ≡ ps → ask_answer q rs room ≡ found_answer ps room
  asked_plans rs fs some are ps e =
      asked_some q rs some room ∙ ap (λ (qs : List Plan). found_answer qs room) (ap (plans_of q) (sym (are_formulas rs fs are)) ∙ e)

  asked_given : (rs : List Text) (fs : List (Formula Name)) → SomeStand rs → AreRules rs fs → (p : Plan) → IsGiven q fs p → ask_answer q rs room ≡ plan_answer (length (words_of p)) room
  asked_given rs fs some are p g = asked_plans rs fs some are (p ∷ []) ((given_exactly q fs p).1 g)

  by_room : (n : ℕ) (b : Bool) → leb n room ≡ b → cond b (AskAnswer.Plan n) (AskAnswer.ShortBuffer n) ≡ plan_answer n room
  by_room n b e = ap (λ (t : Bool). cond t (AskAnswer.Plan n) (AskAnswer.ShortBuffer n)) (sym e)

  pub ask_row_only : (rs : List Text) (o : Outcome) → AskRow q rs room o → o ≡ ask_outcome (ask_answer q rs room)
  unfolding ask_answer
  ask_row_only rs o (AskRow.none e) = sym (ap (λ (l : List Text). ask_outcome (ask_answer q l room)) e)
  ask_row_only rs o (AskRow.without {fs} some are never) = sym (ap ask_outcome (asked_plans rs fs some are [] ((no_plan_given q fs).1 never)))
  ask_row_only rs o (AskRow.short {fs} {p} some are g l) =
      ap ask_outcome (by_room (length (words_of p)) false (lt-leb (length (words_of p)) room l) ∙ sym (asked_given rs fs some are p g))
  ask_row_only rs o (AskRow.given {fs} {p} some are g l) =
      ap ask_outcome (by_room (length (words_of p)) true (le-leb (length (words_of p)) room l) ∙ sym (asked_given rs fs some are p g))

-- ---- judge

module _ (words : List ℕ) where
  -- rules that stand, and their formulas
  module _ (rs : List Text) (fs : List (Formula Name)) (some : SomeStand rs) (are : AreRules rs fs) where
    -- where the words are a plan of as many names, its floor decides
    met_row : (p : Plan) (d : Decodes fs words p) (b : Bool) → uncovered p ≡ b → (j : Judgement) → judge (floor_of d) fs ≡ j
        → JudgeRow rs words (judge_outcome (cond b JudgeAnswer.Uncovered (judgement_answer j)))
    met_row p d true u j e = let w = (uncovered_exactly p).0 u in JudgeRow.uncovered some are d w.0 w.1
    met_row p d false u Judgement.yes e = JudgeRow.met some are d ((covered_exactly fs p d.is d.named).0 u) ((judge_yes (floor_of d) fs).0 e)
    met_row p d false u (Judgement.unmet k) e = JudgeRow.unmet some are d ((covered_exactly fs p d.is d.named).0 u) ((judge_unmet (floor_of d) fs k).0 e)

    plan_row : (p : Plan) (h : IsPlan p) → words_of p ≡ words → JudgeRow rs words (judge_outcome (judge_plan fs p h))
    plan_row p h w = go (dec_eq p.names (length (names_of fs)))
      where
        answer : Bool → JudgeAnswer
        answer b = cond b (judge_decoded fs p h) (JudgeAnswer.NamesDiffer p.names)

        go : Dec (p.names ≡ length (names_of fs)) → JudgeRow rs words (judge_outcome (answer (eqb p.names (length (names_of fs)))))
        go (yes e) = subst (λ (b : Bool). JudgeRow rs words (judge_outcome (answer b))) (sym (eq-eqb p.names (length (names_of fs)) e))
            (met_row p (record { is = h; words_are = w; named = e }) (uncovered p) refl (judge (named_floor fs p h) fs) refl)
        go (no e) = subst (λ (b : Bool). JudgeRow rs words (judge_outcome (answer b))) (sym (ne_eqb p.names (length (names_of fs)) e)) (JudgeRow.differ some are h w e)

    reading_row : (r : Reading) (h : ReadingSays words r) → JudgeRow rs words (judge_outcome (judge_reading fs words r h))
    reading_row (plan p) h = plan_row p h.0 h.1
    reading_row (refused j) h = JudgeRow.unread some h

  pub judge_row : (rs : List Text) → AllRead rs → JudgeRow rs words (judge_outcome (judge_answer rs words))
  unfolding judge_answer
  judge_row [] read = JudgeRow.none refl
  judge_row (s ∷ rs) read = reading_row (s ∷ rs) (formulas_of (s ∷ rs)) cons≢nil (formulas_are (s ∷ rs) read) (read_of words) (exact words)

  -- the judgement of a plan is that of its floor, however it was shown to be a plan
  same_floor : (p : Plan) (a b : IsPlan p) → plan_floor p a ≡ plan_floor p b
  unfolding plan_floor
  same_floor p a b = ap (λ (s : 0 < length p.points). plan_floor p (record { few = a.few; some = s; ascend = a.ascend; rise = a.rise })) (le_prop a.some b.some)

  same_plan : (rules : List (Formula Name)) (q p : Plan) → q ≡ p → (a : IsPlan q) (b : IsPlan p) → judge_plan rules q a ≡ judge_plan rules p b
  same_plan rules q p e a =
      subst (λ (x : Plan). (b : IsPlan x) → judge_plan rules q a ≡ judge_plan rules x b) e
      (λ b. ap
      (λ (F : Floor ℕ). cond (eqb q.names (length (names_of rules)))
      (cond (uncovered q) JudgeAnswer.Uncovered (judgement_answer (judge (renamed (number_of rules) F) rules))) (JudgeAnswer.NamesDiffer q.names))
      (same_floor q a b))

  judged_plan : (rs : List Text) → SomeStand rs → (p : Plan) (h : IsPlan p) → words_of p ≡ words → judge_answer rs words ≡ judge_plan (formulas_of rs) p h
  judged_plan rs some p h w =
      judged_some rs some words ∙ go (read_of words) (exact words) (sym (ap read_of w) ∙ plan_is_read p h)
    where
      go : (r : Reading) (s : ReadingSays words r) → r ≡ plan p → judge_reading (formulas_of rs) words r s ≡ judge_plan (formulas_of rs) p h
      go (plan q) s e = let z : q ≡ p = cc in same_plan (formulas_of rs) q p z s.0 h
      go (refused j) s e = absurd (let z : ◌≡◌ {A = ℕ} 0 1 = cc in omega arith)

  by_names : (fs : List (Formula Name)) (p : Plan) (h : IsPlan p) (b : Bool) → eqb p.names (length (names_of fs)) ≡ b
      → judge_plan fs p h ≡ cond b (judge_decoded fs p h) (JudgeAnswer.NamesDiffer p.names)
  by_names fs p h b e = ap (λ (t : Bool). cond t (judge_decoded fs p h) (JudgeAnswer.NamesDiffer p.names)) e

  module _ (rs : List Text) (fs : List (Formula Name)) (some : SomeStand rs) (are : AreRules rs fs) where
    judged_as : (p : Plan) (h : IsPlan p) → words_of p ≡ words → judge_answer rs words ≡ judge_plan fs p h
    judged_as p h w = judged_plan rs some p h w ∙ ap (λ (gs : List (Formula Name)). judge_plan gs p h) (sym (are_formulas rs fs are))

    decoded_judged : (p : Plan) (d : Decodes fs words p) (b : Bool) → uncovered p ≡ b
        → judge_answer rs words ≡ cond b JudgeAnswer.Uncovered (judgement_answer (judge (floor_of d) fs))
    decoded_judged p d b u =
        judged_as p d.is d.words_are ∙ by_names fs p d.is true (eq-eqb p.names (length (names_of fs)) d.named)
        ∙ ap (λ (t : Bool). cond t JudgeAnswer.Uncovered (judgement_answer (judge (floor_of d) fs))) u

  pub judge_row_only : (rs : List Text) (o : Outcome) → JudgeRow rs words o → o ≡ judge_outcome (judge_answer rs words)
  unfolding judge_answer
  judge_row_only rs o (JudgeRow.none e) = sym (ap (λ (l : List Text). judge_outcome (judge_answer l words)) e)
  judge_row_only rs o (JudgeRow.unread {j} some r) = sym (ap judge_outcome (judged_some rs some words ∙ go (read_of words) (exact words) ((refused_exactly words j).1 r)))
    where
      go : (x : Reading) (s : ReadingSays words x) → x ≡ refused j → judge_reading (formulas_of rs) words x s ≡ JudgeAnswer.NotAPlan j
      go (plan q) s e = absurd (let z : ◌≡◌ {A = ℕ} 0 1 = cc in omega arith)
      go (refused i) s e = let z : i ≡ j = cc in ap JudgeAnswer.NotAPlan z
  judge_row_only rs o (JudgeRow.differ {fs} {p} some are h w n) =
      sym (ap judge_outcome (judged_as rs fs some are p h w ∙ by_names fs p h false (ne_eqb p.names (length (names_of fs)) n)))
  judge_row_only rs o (JudgeRow.uncovered {fs} {p} some are d l i) = sym (ap judge_outcome (decoded_judged rs fs some are p d true ((uncovered_exactly p).1 (l, i))))
  judge_row_only rs o (JudgeRow.met {fs} {p} some are d c m) =
      let u = (covered_exactly fs p d.is d.named).1 c in
      sym (ap judge_outcome (decoded_judged rs fs some are p d false u ∙ ap judgement_answer ((judge_yes (floor_of d) fs).1 m)))
  judge_row_only rs o (JudgeRow.unmet {fs} {p} {k} some are d c n) =
      let u = (covered_exactly fs p d.is d.named).1 c in
      sym (ap judge_outcome (decoded_judged rs fs some are p d false u ∙ ap judgement_answer ((judge_unmet (floor_of d) fs k).1 n)))

-- ---- plan words alone

-- they are refused with 13 exactly where words up to here begin no plan, or end early
pub words_refused : (words : List ℕ) (q : Result PlanArrays NotAPlan) → Reads words q → (j : ℕ) → (plan_outcome q ≡ Outcome.Refused 13 j) ↔ Refusal words j
words_refused words (Ok arrays) reads j = (
  λ e. absurd (let z : ◌≡◌ {A = ℕ} 0 1 = cc in omega arith),
  λ r. absurd (let e : plan reads.0 ≡ refused j = sym reads.1 ∙ (refused_exactly words j).1 r in let z : ◌≡◌ {A = ℕ} 0 1 = cc in omega arith),
)
words_refused words (Err e) reads j = (
  λ f. let z : e.at ≡ j = cc in (refused_exactly words j).0 (reads ∙ ap refused z),
  λ r. let f : refused e.at ≡ refused j = sym reads ∙ (refused_exactly words j).1 r in let z : e.at ≡ j = cc in ap (Outcome.Refused 13) z,
)
