-- What is proved of the entry of the drawing program, `drawn`, which `vorzhadell_draw` gives by its contract: for every sheet and every buffer
-- the number and the bytes are what is meant (specs/Drawn.antt), and no others are; a refusal's number is taken apart into what it was made of;
-- and a plan that is drawn has at most 38 words. Assumes nothing.
use mathlib.Core.Path.{◌≡◌, refl, sym, ap, subst, ◌∙◌}
use mathlib.Core.List.{List, [], ◌∷◌}
use Prim.Native.Nat.{ℕ, ◌/◌, ◌%◌, ◌≤◌, ◌<◌}
use native.Mathlib.Omega.{arith}
use lib.Dec.{ltb, leb}
use lib.ListN.{length, get_or}
use borrow.Author.Tests.{ltb-true, ltb-false, leb-true, leb-false}
use Rattle.lists.proofs.Truth.{cases}
use Rattle.formula.specs.Formula.{Formula, Name}
use Rattle.contact.specs.Question.{plain}
use Rattle.plan.specs.Words.{Plan, words_of}
use Rattle.plan.specs.Meant.{IsGiven}
use Rattle.plan.specs.Plans.{plans_of}
use Rattle.plan.proofs.Claims.{no_plan_given, given_exactly, given_at_most_one}
use Rattle.table.specs.Sheet.{Text, lines_of, filled}
use Rattle.table.specs.Calls.{formulas_of, judge_load, if_loaded}
use Rattle.table.specs.Rows.{LoadRow}
use Rattle.table.specs.declared.LoadAnswer.{LoadAnswer}
use Rattle.table.specs.declared.Outcome.{Outcome}
use Rattle.table.specs.Numbers.{load_outcome}
use Rattle.table.proofs.Standing.{not_loaded}
use Rattle.table.proofs.LoadRows.{load_done}
use Rattle.table.proofs.Claims.{formulas_computed, load_answered, load_answered_only}
use Rattle.drawing.specs.Drawn.{room_of, refusal_number, most, Loaded, Refuses, sheet, many, short, Draws, given, none, refused}
use Rattle.drawing.specs.Drawing.{Drawing, drawing, draw_plan, draw_rules, outcome_number, drawn, Fits}
use Rattle.drawing.proofs.Bounds.{load_fits}
use Rattle.drawing.proofs.Sizes
use Rattle.drawing.proofs.Sizes.{points_few}
use Rattle.drawing.proofs.Drawing
use Rattle.drawing.proofs.Drawing.{plan_many, plan_short, plan_given, rules_none, rules_plan}

-- ---- three parts of a number

parts : (number line carried : ℕ) → 0 < number → line < 0x10000 → carried < 0x10000 → (0 < number)
    × (refusal_number number line carried / 0x100000000 ≡ number)
    × (refusal_number number line carried / 0x10000 % 0x10000 ≡ line)
    × (refusal_number number line carried % 0x10000 ≡ carried)
parts number line carried some h k = (some, omega arith, omega arith, omega arith)

module _ (file : Text) (buffer : List ℕ) where
  refused_sheet : {number line place : ℕ} → LoadRow file (Outcome.RefusedLine number line place) → drawing (refusal_number number line place) buffer ≡ drawn file buffer
  unfolding drawn
  refused_sheet row =
      let told = load_answered_only file _ row in
      ap (λ (o : Outcome). drawing (outcome_number o) buffer) told
      ∙ sym (not_loaded (judge_load file) (draw_rules (formulas_of (filled (lines_of file))) buffer) (drawing (outcome_number (load_outcome (judge_load file))) buffer)
      (λ e. let y = ap load_outcome e in absurd (let z : ◌≡◌ {A = ℕ} 0 1 = cc in omega arith)))

  loaded_sheet : {fs : List (Formula Name)} → Loaded file fs → draw_rules fs buffer ≡ drawn file buffer
  unfolding drawn
  loaded_sheet {fs} loaded =
      ap (λ (gs : List (Formula Name)). draw_rules gs buffer) (formulas_computed (filled (lines_of file)) fs loaded.rules)
      ∙ sym (ap (λ (a : LoadAnswer). if_loaded a (draw_rules (formulas_of (filled (lines_of file))) buffer) (drawing (outcome_number (load_outcome a)) buffer)) (load_done file loaded.done))

  -- ---- one number and one list of bytes only are meant

  pub draws_only : (n : ℕ) (bs : List ℕ) → Draws file buffer n bs → drawing n bs ≡ drawn file buffer
  draws_only n bs (given {fs} {p} loaded is h l) = plan_given p buffer h l ∙ rules_plan fs buffer p ((given_exactly plain fs p).1 is) ∙ loaded_sheet loaded
  draws_only n bs (none {fs} loaded never) = rules_none fs buffer ((no_plan_given plain fs).1 never) ∙ loaded_sheet loaded
  draws_only n bs (refused (sheet row)) = refused_sheet row
  draws_only n bs (refused (many {fs} {p} loaded is h)) = plan_many p buffer h ∙ rules_plan fs buffer p ((given_exactly plain fs p).1 is) ∙ loaded_sheet loaded
  draws_only n bs (refused (short {fs} {p} loaded is h l)) = plan_short p buffer h l ∙ rules_plan fs buffer p ((given_exactly plain fs p).1 is) ∙ loaded_sheet loaded

  -- ---- and they are meant

  abbrev Meant : Drawing → Type 0
  Meant d = Draws file buffer d.number d.bytes

  plan_draws : {fs : List (Formula Name)} {p : Plan} → Loaded file fs → IsGiven plain fs p → Meant (draw_plan p buffer)
  plan_draws {fs} {p} loaded is = cases (ltb most (length p.points))
      (λ e. subst Meant (plan_many p buffer (ltb-true _ _ e)) (refused (many loaded is (ltb-true _ _ e))))
      (λ e. let h = ltb-false most (length p.points) e in cases (leb (length (words_of p)) (room_of buffer))
      (λ f. subst Meant (plan_given p buffer h (leb-true _ _ f)) (given loaded is h (leb-true _ _ f)))
      (λ f. subst Meant (plan_short p buffer h (leb-false _ _ f)) (refused (short loaded is h (leb-false _ _ f)))))

  rules_draw : {fs : List (Formula Name)} → Loaded file fs → Meant (draw_rules fs buffer)
  rules_draw {fs} loaded = go (plans_of plain fs) refl
    where
      go : (ps : List Plan) → plans_of plain fs ≡ ps → Meant (draw_rules fs buffer)
      go [] e = subst Meant (rules_none fs buffer e) (none loaded ((no_plan_given plain fs).0 e))
      go (p ∷ []) e = subst Meant (rules_plan fs buffer p e) (plan_draws loaded ((given_exactly plain fs p).0 e))
      go (p ∷ another ∷ ps) e = absurd (omega (arith, given_at_most_one plain fs, ap length e))

  pub draws : Draws file buffer (drawn file buffer).number (drawn file buffer).bytes
  draws = go (load_outcome (judge_load file)) (load_answered file)
    where
      no : {number line place : ℕ} → LoadRow file (Outcome.RefusedLine number line place) → Meant (drawn file buffer)
      no row = subst Meant (refused_sheet row) (refused (sheet row))

      go : (o : Outcome) → LoadRow file o → Meant (drawn file buffer)
      go o (LoadRow.long h) = no (LoadRow.long h)
      go o (LoadRow.blank h e) = no (LoadRow.blank h e)
      go o (LoadRow.line h r) = no (LoadRow.line h r)
      go o (LoadRow.loads h some can) =
          let loaded : Loaded file can.formulas = record { done = LoadRow.loads h some can; rules = can.rules } in
          subst Meant (loaded_sheet loaded) (rules_draw loaded)

  -- ---- a refusal's number, taken apart; it is 2^32 or more

  pub taken_apart : {number line carried : ℕ} → Refuses file buffer number line carried → (0 < number)
      × (refusal_number number line carried / 0x100000000 ≡ number)
      × (refusal_number number line carried / 0x10000 % 0x10000 ≡ line)
      × (refusal_number number line carried % 0x10000 ≡ carried)
  unfolding Fits
  taken_apart (sheet row) =
      let small = load_fits file _ row _ _ _ refl in
      parts _ _ _ small.some (omega (arith, small.line_at_most)) (omega (arith, small.place_at_most))
  taken_apart (many {fs} {p} loaded is h) = parts _ _ _ (omega arith) (omega arith) (omega (arith, points_few file fs p loaded is))
  taken_apart (short {fs} {p} loaded is h l) = parts _ _ _ (omega arith) (omega arith) (omega (arith, Sizes.words_few fs p is h))

-- ---- and how many words there are

-- a plan that is drawn has at most 38 words, so that no number of words is a refusal's, and no buffer of 152 bytes is too short
pub words_few : (fs : List (Formula Name)) (p : Plan) → IsGiven plain fs p → length p.points ≤ most → length (words_of p) ≤ 38
words_few = Sizes.words_few

-- 18 carries the points, which the code takes from the first word: those of both kinds have them in their last byte
pub first_points : (p : Plan) → length p.points ≤ 255 → get_or (words_of p) 0 0 % 256 ≡ length p.points
first_points = Drawing.first_points
