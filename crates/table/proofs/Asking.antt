-- Ask and judge meet their definitions: the plans given of the standing rules are none, or one that is written, and words that are read are
-- judged as a plan. Assumes nothing.
use Prim.Native.Nat.{ℕ, ◌≤◌, ◌<◌}
use mathlib.Core.Path.{◌≡◌, refl, sym, ap, ap₂, subst, ◌∙◌}
use mathlib.Core.Bool.{Bool, true, false, cond}
use mathlib.Core.List.{List, [], ◌∷◌}
use native.Mathlib.Omega.{arith}
use lib.Dec.{leb}
use lib.ListN.{length, take}
use lib.Seq.{take-append_seam}
use borrow.Author.Tests.{le-leb, lt-leb, eq-eqb, ne_eqb}
use Rattle.lists.specs.Buffer.{over}
use Rattle.contact.specs.Question.{Question}
use Rattle.contact.specs.Numbering.{names_of}
use Rattle.plan.specs.declared.PlanArrays.{PlanArrays}
use Rattle.std.specs.Prelude.{Result, Ok, Err}
use Rattle.lists.specs.declared.ShortBuffer.{ShortBuffer}
use Rattle.plan.specs.declared.NotAPlan.{NotAPlan}
use Rattle.plan.specs.Words.{Plan, words_of}
use Rattle.plan.specs.Reader.{Reading, plan, refused, read_of, ReadingSays}
use Rattle.plan.specs.Arrays.{Reads, Writes}
use Rattle.plan.specs.Stored.{Stored}
use Rattle.plan.specs.Plans.{plans_of}
use Rattle.plan.specs.Judging.{Judgement, yes, unmet, judge, uncovered}
use Rattle.plan.proofs.Claims.{given_exactly}
use Rattle.plan.proofs.Exact.{exact}
use Rattle.plan.specs.Floor.{named_floor}
use Rattle.judging.specs.declared.Judged.{Judged}
use Rattle.judging.specs.Values.{judged_of}
use Rattle.ruleset.specs.declared.Compiling.{Compiling}
use Rattle.ruleset.specs.Texts.{CompiledRules, JudgedIs}
use Rattle.table.specs.declared.Table.{Table}
use Rattle.table.specs.declared.AskAnswer.{AskAnswer}
use Rattle.table.specs.declared.AskResult.{AskResult}
use Rattle.table.specs.declared.JudgeAnswer.{JudgeAnswer}
use Rattle.table.specs.declared.JudgeResult.{JudgeResult}
use Rattle.table.specs.Store.{rules_of}
use Rattle.table.specs.Sheet.{Text}
use Rattle.table.specs.Calls.{formulas_of, FromUs}
use Rattle.table.specs.Asking.{found_answer, ask_answer, found_words, ask_words, asked, Asks, judgement_answer, judge_decoded, judge_reading, judge_answer, judged, Judges}
use Rattle.table.specs.Steps.{JudgementIs, judged_answer}
use Rattle.table.specs.Rows.{SomeStand}
use Rattle.table.proofs.Lines.{count_is, none_stand}
use Rattle.plan.specs.Meant.{IsGiven}

-- ---- where some rule stands

pub asked_some : (q : Question) (rs : List Text) → SomeStand rs → (room : ℕ) → ask_answer q rs room ≡ found_answer (plans_of q (formulas_of rs)) room
unfolding ask_answer
asked_some q [] some room = absurd (some refl)
asked_some q (s ∷ rs) some room = refl

words_some : (q : Question) (rs : List Text) → SomeStand rs → (buffer : List ℕ) → ask_words q rs buffer ≡ found_words (plans_of q (formulas_of rs)) buffer
unfolding ask_words
words_some q [] some buffer = absurd (some refl)
words_some q (s ∷ rs) some buffer = refl

pub judged_some : (rs : List Text) → SomeStand rs → (words : List ℕ) → judge_answer rs words ≡ judge_reading (formulas_of rs) words (read_of words) (exact words)
unfolding judge_answer
judged_some [] some words = absurd (some refl)
judged_some (s ∷ rs) some words = refl

pub some_stand : (t : Table) → FromUs t → 0 < t.count → SomeStand (rules_of t)
some_stand t v h e = omega (arith, count_is t v, ap length e)

-- the buffer, where a plan is given, where it is too long, and where there is none
module _ (q : Question) (rs : List Text) (buffer : List ℕ) (some : SomeStand rs) where
  pub words_none : plans_of q (formulas_of rs) ≡ [] → ask_words q rs buffer ≡ buffer
  words_none e = words_some q rs some buffer ∙ ap (λ (ps : List Plan). found_words ps buffer) e

  module _ (p : Plan) (g : IsGiven q (formulas_of rs) p) where
    words_fit : (b : Bool) → leb (length (words_of p)) (length buffer) ≡ b → ask_words q rs buffer ≡ cond b (over (words_of p) buffer) buffer
    words_fit b e =
        words_some q rs some buffer ∙ ap (λ (ps : List Plan). found_words ps buffer) ((given_exactly q (formulas_of rs) p).1 g) ∙ ap (λ (t : Bool). cond t (over (words_of p) buffer) buffer) e

    pub words_written : length (words_of p) ≤ length buffer → ask_words q rs buffer ≡ over (words_of p) buffer
    words_written l = words_fit true (le-leb (length (words_of p)) (length buffer) l)

    pub words_short : length buffer < length (words_of p) → ask_words q rs buffer ≡ buffer
    words_short l = words_fit false (lt-leb (length (words_of p)) (length buffer) l)

    pub first_words : length (words_of p) ≤ length buffer → take (length (words_of p)) (ask_words q rs buffer) ≡ words_of p
    unfolding over
    first_words l = ap (take (length (words_of p))) (words_written l) ∙ take-append_seam (words_of p) _

-- ---- ask

abbrev pub ask_result : Table → AskAnswer → AskResult
ask_result t a = record { table = t; answer = a }

module _ (q : Question) (t : Table) (v : FromUs t) (buffer : List ℕ) where
  pub asks_of : (a : AskAnswer) (exit : List ℕ) → a ≡ ask_answer q (rules_of t) (length buffer) → exit ≡ ask_words q (rules_of t) buffer
      → Asks q t buffer (ask_result t a) exit
  unfolding asked
  asks_of a exit e f = record { result = ap₂ ask_result v.same e; words = f; same = refl; from_us = v }

  pub asks_none : t.count ≤ 0 → Asks q t buffer (ask_result t AskAnswer.NoRule) buffer
  unfolding ask_answer ask_words
  asks_none h =
      let e = none_stand t v h in
      asks_of AskAnswer.NoRule buffer (sym (ap (λ (rs : List Text). ask_answer q rs (length buffer)) e)) (sym (ap (λ (rs : List Text). ask_words q rs buffer) e))

  -- some rule stands, and these are its plans, none or one
  pub asks_some : 0 < t.count → (plans : List Plan) → plans_of q (formulas_of (rules_of t)) ≡ plans
      → (a : AskAnswer) (exit : List ℕ) → a ≡ found_answer plans (length buffer) → exit ≡ found_words plans buffer → Asks q t buffer (ask_result t a) exit
  asks_some h plans e a exit f g =
      let some = some_stand t v h in
      asks_of a exit (f ∙ ap (λ (ps : List Plan). found_answer ps (length buffer)) (sym e) ∙ sym (asked_some q (rules_of t) some (length buffer)))
      (g ∙ ap (λ (ps : List Plan). found_words ps buffer) (sym e) ∙ sym (words_some q (rules_of t) some buffer))

-- the plan writer's answers, as ask's
abbrev pub written_answer : Result ℕ ShortBuffer → AskAnswer
written_answer (Ok n) = AskAnswer.Plan n
written_answer (Err e) = AskAnswer.ShortBuffer e.needed

-- what is written is what is asked for
pub wrote_plan : (p : Plan) (buffer : List ℕ) (w : Result ℕ ShortBuffer) (exit : List ℕ) → Writes p buffer w exit
    → (written_answer w ≡ found_answer (p ∷ []) (length buffer)) × (exit ≡ found_words (p ∷ []) buffer)
wrote_plan p buffer w exit h =
    let n = length (words_of p) in
    (ap written_answer h.answer ∙ either n (leb n (length buffer)), h.words)
  where
    either : (n : ℕ) (b : Bool) → written_answer (cond b (Ok n) (Err (record { needed = n }))) ≡ cond b (AskAnswer.Plan n) (AskAnswer.ShortBuffer n)
    either n true = refl
    either n false = refl

-- ---- judge

abbrev judge_result : Table → JudgeAnswer → JudgeResult
judge_result t a = record { table = t; answer = a }

-- both enums have the judgement's cases, and that of an uncovered plan
same_judgement : (b : Bool) (j : Judgement) → judged_answer (cond b Judged.Uncovered (judged_of j)) ≡ cond b JudgeAnswer.Uncovered (judgement_answer j)
same_judgement true j = refl
same_judgement false yes = refl
same_judgement false (unmet k) = refl

module _ (c : Compiling) (code : List ℕ) (arrays : PlanArrays) where
  pub judge_differs : (arrays.names ≡ c.known.atoms.chart.names → ⊥) → JudgementIs c code arrays (JudgeAnswer.NamesDiffer arrays.names)
  unfolding JudgementIs
  judge_differs differ rules kept compiled p h stored =
      ap JudgeAnswer.NamesDiffer stored.names
      ∙ sym (ap (λ (b : Bool). cond b (judge_decoded rules p h) (JudgeAnswer.NamesDiffer p.names))
      (ne_eqb p.names (length (names_of rules)) (λ e. differ (stored.names ∙ e ∙ sym compiled.known.names_counted))))

  pub judge_equal : arrays.names ≡ c.known.atoms.chart.names → (j : Judged) → JudgedIs c code arrays j → (a : JudgeAnswer) → a ≡ judged_answer j → JudgementIs c code arrays a
  unfolding JudgedIs JudgementIs
  judge_equal e j says a f rules kept compiled p h stored =
      let named : p.names ≡ length (names_of rules) = sym stored.names ∙ e ∙ compiled.known.names_counted in
      f ∙ ap judged_answer (says rules kept compiled p h named stored) ∙ same_judgement (uncovered p) (judge (named_floor rules p h) rules)
      ∙ sym (ap (λ (b : Bool). cond b (judge_decoded rules p h) (JudgeAnswer.NamesDiffer p.names))
      (eq-eqb p.names (length (names_of rules)) named))

module _ (t : Table) (v : FromUs t) (words : List ℕ) where
  pub judges_of : (a : JudgeAnswer) → a ≡ judge_answer (rules_of t) words → Judges t words (judge_result t a)
  unfolding judged
  judges_of a e = record { result = ap₂ judge_result v.same e; same = refl; from_us = v }

  pub judges_none : t.count ≤ 0 → Judges t words (judge_result t JudgeAnswer.NoRule)
  unfolding judge_answer
  judges_none h = judges_of JudgeAnswer.NoRule (sym (ap (λ (rs : List Text). judge_answer rs words) (none_stand t v h)))

  -- some rule stands
  judges_some : 0 < t.count → (a : JudgeAnswer) → a ≡ judge_reading (formulas_of (rules_of t)) words (read_of words) (exact words) → Judges t words (judge_result t a)
  judges_some h a e = judges_of a (e ∙ sym (judged_some (rules_of t) (some_stand t v h) words))

  -- the words are no plan
  pub judges_words : 0 < t.count → (e : NotAPlan) → Reads words (Err e) → Judges t words (judge_result t (JudgeAnswer.NotAPlan e.at))
  judges_words h e reads = judges_some h (JudgeAnswer.NotAPlan e.at) (sym (go (read_of words) (exact words) reads))
    where
      go : (x : Reading) (says : ReadingSays words x) → x ≡ refused e.at → judge_reading (formulas_of (rules_of t)) words x says ≡ JudgeAnswer.NotAPlan e.at
      go (plan p) says q = absurd (let z : ◌≡◌ {A = ℕ} 0 1 = cc in omega arith)
      go (refused j) says q = let z : j ≡ e.at = cc in ap JudgeAnswer.NotAPlan z

  -- they are one, and it is judged by the compiled rules
  pub judges_plan : 0 < t.count → (arrays : PlanArrays) → Reads words (Ok arrays) → (c : Compiling) (kept code : List ℕ) → CompiledRules (formulas_of (rules_of t)) c kept code
      → (a : JudgeAnswer) → JudgementIs c code arrays a → Judges t words (judge_result t a)
  unfolding JudgementIs
  judges_plan h arrays reads c kept code compiled a says = judges_some h a (go (read_of words) (exact words) reads.1)
    where
      go : (x : Reading) (s : ReadingSays words x) → x ≡ plan reads.0 → a ≡ judge_reading (formulas_of (rules_of t)) words x s
      go (plan p) s q = let z : p ≡ reads.0 = cc in says (formulas_of (rules_of t)) kept compiled p s.0 (subst (Stored arrays) (sym z) reads.2)
      go (refused j) s q = absurd (let z : ◌≡◌ {A = ℕ} 0 1 = cc in omega arith)
