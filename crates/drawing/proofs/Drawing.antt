-- What the entry gives part by part: the words of a plan, its first word's points, the plan of a table, and a sheet. Assumes nothing.
use mathlib.Core.Path.{◌≡◌, refl, sym, ap, ap₂, subst, ◌∙◌}
use mathlib.Core.Bool.{Bool, true, false, cond}
use mathlib.Core.List.{List, [], ◌∷◌, ◌++◌}
use Prim.Native.Nat.{ℕ, ◌+◌, ◌%◌, ◌≤◌, ◌<◌}
use native.Mathlib.Omega.{arith}
use lib.Dec.{leb}
use lib.ListN.{length, get_or, take, drop, length-append}
use lib.Seq.{take-append_seam}
use borrow.Author.Tests.{lt-ltb, le-ltb, le-leb, lt-leb}
use types.Run.{OneOf, miss}
use denote.Enum.Declared.{tag_of}
use Rattle.formula.specs.Formula.{Formula, Name}
use Rattle.lists.specs.Search.{collect}
use Rattle.lists.proofs.Search.{collect_append}
use Rattle.lists.proofs.Lists.{take_next}
use Rattle.lists.specs.Buffer.{over}
use Rattle.plan.specs.Words.{Plan, short_first, long_first, before, words_of}
use Rattle.plan.specs.Plans.{plans_of}
use Rattle.plan.proofs.Claims.{given_points, given_words}
use Rattle.contact.specs.Question.{plain}
use Rattle.table.specs.declared.LoadAnswer.{LoadAnswer}
use Rattle.table.specs.declared.LoadResult.{LoadResult}
use Rattle.table.specs.declared.Table.{Table}
use Rattle.table.specs.declared.Outcome.{Outcome}
use Rattle.table.specs.contracts.Outcome.{the_type as outcome-type}
use Rattle.table.specs.Sheet.{Text, lines_of, filled}
use Rattle.table.specs.Store.{rules_of}
use Rattle.table.specs.Calls.{formulas_of, atoms_in, judge_load, if_loaded, FromUs, Loads}
use Rattle.table.specs.Numbers.{load_outcome}
use Rattle.table.proofs.Rules.{can_atoms}
use Rattle.table.proofs.Standing.{not_loaded}
use Rattle.table.proofs.Claims.{load_answered}
use Rattle.report.proofs.Reporting.{answer_is, good, held}
use Rattle.drawing.specs.Drawn.{word_bytes, bytes_of, room_of, refusal_number, most}
use Rattle.drawing.specs.Drawing.{Drawing, drawing, draw_words, draw_plan, draw_plans, draw_rules, outcome_number, drawn, Fits}
use Rattle.drawing.proofs.Bounds.{load_fits}

-- ---- bytes of words

pub bytes_more : (ws : List ℕ) (i : ℕ) → i < length ws → bytes_of (take i ws) ++ word_bytes (get_or ws i 0) ≡ bytes_of (take (i + 1) ws)
unfolding bytes_of
bytes_more ws i h =
    sym (ap (collect word_bytes) (take_next ws i 0 h) ∙ collect_append word_bytes (take i ws) (get_or ws i 0 ∷ []))

pub bytes_start : (ws : List ℕ) → [] ≡ bytes_of (take 0 ws)
unfolding bytes_of
bytes_start [] = refl
bytes_start (w ∷ ws) = refl

-- ---- words of a plan

-- "Kind 1, first: .. bits 7..0 points"; for 7 and 8 names kind 8, "bits 15..0 points"
pub first_points : (p : Plan) → length p.points ≤ 255 → get_or (words_of p) 0 0 % 256 ≡ length p.points
unfolding words_of before
first_points p h = go (leb p.names 6)
  where
    go : (b : Bool) → cond b (short_first p.names (length p.points)) (long_first p.names (length p.points)) % 256 ≡ length p.points
    go true = omega arith
    go false = omega arith

-- what is computed of a plan, case by case
module _ (p : Plan) (buffer : List ℕ) where
  abbrev by_points : Bool → Drawing
  by_points b = cond b (drawing (refusal_number 18 0 (length p.points)) buffer) (draw_words (words_of p) buffer)

  abbrev by_room : Bool → Drawing
  by_room b = cond b (drawing (length (words_of p)) (over (bytes_of (words_of p)) buffer)) (drawing (refusal_number 12 0 (length (words_of p))) buffer)

  pub plan_many : most < length p.points → drawing (refusal_number 18 0 (length p.points)) buffer ≡ draw_plan p buffer
  unfolding draw_plan
  plan_many h = sym (ap by_points (lt-ltb most (length p.points) h))

  plan_few : length p.points ≤ most → draw_words (words_of p) buffer ≡ draw_plan p buffer
  unfolding draw_plan
  plan_few h = sym (ap by_points (le-ltb most (length p.points) h))

  pub plan_short : length p.points ≤ most → room_of buffer < length (words_of p) → drawing (refusal_number 12 0 (length (words_of p))) buffer ≡ draw_plan p buffer
  plan_short h l = sym (ap by_room (lt-leb (length (words_of p)) (room_of buffer) l)) ∙ plan_few h

  pub plan_given : length p.points ≤ most → length (words_of p) ≤ room_of buffer → drawing (length (words_of p)) (over (bytes_of (words_of p)) buffer) ≡ draw_plan p buffer
  plan_given h l = sym (ap by_room (le-leb (length (words_of p)) (room_of buffer) l)) ∙ plan_few h

-- and of its words, by what the code reads from them
module _ (words buffer : List ℕ) (p : Plan) (few : length p.points ≤ 255) (e : words_of p ≡ words) (points : ℕ) (first : points ≡ get_or words 0 0 % 256) where
  points_are : points ≡ length p.points
  points_are = first ∙ ap (λ (ws : List ℕ). get_or ws 0 0 % 256) (sym e) ∙ first_points p few

  pub drawn_many : (r : ℕ) → most < points → r ≡ refusal_number 18 0 points → drawing r buffer ≡ draw_plan p buffer
  drawn_many r h f = ap (λ (x : ℕ). drawing x buffer) (f ∙ ap (refusal_number 18 0) points_are) ∙ plan_many p buffer (omega (arith, points_are))

  pub drawn_short : (r : ℕ) → points ≤ most → room_of buffer < length words → r ≡ refusal_number 12 0 (length words) → drawing r buffer ≡ draw_plan p buffer
  drawn_short r h l f =
      ap (λ (x : ℕ). drawing x buffer) (f ∙ ap (λ (ws : List ℕ). refusal_number 12 0 (length ws)) (sym e))
      ∙ plan_short p buffer (omega (arith, points_are)) (omega (arith, ap length e))

  pub drawn_given : (r : ℕ) (exit : List ℕ) → points ≤ most → length words ≤ room_of buffer → r ≡ length words → exit ≡ over (bytes_of words) buffer
      → drawing r exit ≡ draw_plan p buffer
  drawn_given r exit h l f x =
      ap₂ drawing (f ∙ ap length (sym e)) (x ∙ ap (λ (ws : List ℕ). over (bytes_of ws) buffer) (sym e))
      ∙ plan_given p buffer (omega (arith, points_are)) (omega (arith, ap length e))

-- ---- rules

pub rules_none : (fs : List (Formula Name)) (buffer : List ℕ) → plans_of plain fs ≡ [] → drawing 0 buffer ≡ draw_rules fs buffer
unfolding draw_rules
rules_none fs buffer e = sym (ap (λ (ps : List Plan). draw_plans ps buffer) e)

pub rules_plan : (fs : List (Formula Name)) (buffer : List ℕ) (p : Plan) → plans_of plain fs ≡ p ∷ [] → draw_plan p buffer ≡ draw_rules fs buffer
unfolding draw_rules
rules_plan fs buffer p e = sym (ap (λ (ps : List Plan). draw_plans ps buffer) e)

-- the plan of a table has few points and words, and some word
pub plan_sizes : (t : Table) → FromUs t → (p : Plan) → plans_of plain (formulas_of (rules_of t)) ≡ p ∷ []
    → (length p.points ≤ 255) × (0 < length (words_of p)) × (length (words_of p) ≤ 530)
unfolding atoms_in words_of before
plan_sizes t v p e =
    let atoms = can_atoms (rules_of t) v.standing in
    let rules = formulas_of (rules_of t) in
    (omega (arith, given_points rules atoms p e), omega arith, given_words rules atoms p e)

-- the first words of what ask wrote are the plan's
module _ (ws buffer exit : List ℕ) (n : ℕ) (e : n ≡ length ws) (f : exit ≡ over ws buffer) where
  pub prefix_is : take n exit ≡ ws
  unfolding over
  prefix_is = ap₂ take e f ∙ take-append_seam ws (drop (length ws) buffer)

  pub prefix_within : n ≤ length exit
  unfolding over
  prefix_within = omega (arith, e, ap length f, length-append ws (drop (length ws) buffer))

-- ---- a sheet

-- an outcome that is another than a refusal on a line has no number
pub no_number : (o : Outcome) → OneOf (0 ∷ 1 ∷ 2 ∷ 3 ∷ 4 ∷ 5 ∷ 6 ∷ 7 ∷ 8 ∷ 9 ∷ 10 ∷ 11 ∷ []) (tag_of outcome-type o) → 0 ≡ outcome_number o
no_number Outcome.Done h = refl
no_number (Outcome.Plan words) h = refl
no_number Outcome.NoPlan h = refl
no_number Outcome.Yes h = refl
no_number (Outcome.Unmet rule) h = refl
no_number (Outcome.Text n) h = refl
no_number (Outcome.Tree n) h = refl
no_number Outcome.Closed h = refl
no_number Outcome.AsDrawn h = refl
no_number Outcome.No h = refl
no_number (Outcome.Clash n) h = refl
no_number (Outcome.Refused number carried) h = refl
no_number (Outcome.RefusedLine number line place) h = absurd (miss (0 ∷ 1 ∷ 2 ∷ 3 ∷ 4 ∷ 5 ∷ 6 ∷ 7 ∷ 8 ∷ 9 ∷ 10 ∷ 11 ∷ []) 12 tt h)

module _ (t : Table) (file : Text) (r : LoadResult) (loads : Loads t file r) where
  pub answer_fits : Fits (load_outcome r.answer)
  answer_fits = subst (λ (a : LoadAnswer). Fits (load_outcome a)) (sym (answer_is t file r loads)) (load_fits file (load_outcome (judge_load file)) (load_answered file))

  pub sheet_refused : (buffer : List ℕ) (n : ℕ) → (r.answer ≡ LoadAnswer.Loaded → ⊥) → n ≡ outcome_number (load_outcome r.answer) → drawing n buffer ≡ drawn file buffer
  unfolding drawn
  sheet_refused buffer n other e =
      let is = answer_is t file r loads in
      ap (λ (x : ℕ). drawing x buffer) (e ∙ ap (λ (a : LoadAnswer). outcome_number (load_outcome a)) is)
      ∙ sym (not_loaded (judge_load file) (draw_rules (formulas_of (filled (lines_of file))) buffer) (drawing (outcome_number (load_outcome (judge_load file))) buffer) (λ f. other (is ∙ f)))

  pub sheet_loaded : (buffer : List ℕ) → r.answer ≡ LoadAnswer.Loaded → draw_rules (formulas_of (rules_of r.table)) buffer ≡ drawn file buffer
  unfolding drawn
  sheet_loaded buffer e =
      ap (λ (rs : List Text). draw_rules (formulas_of rs) buffer) (held t file r loads e)
      ∙ sym (ap (λ (a : LoadAnswer). if_loaded a (draw_rules (formulas_of (filled (lines_of file))) buffer) (drawing (outcome_number (load_outcome a)) buffer)) (good t file r loads e))
