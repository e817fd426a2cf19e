-- What is computed: what the entry of the drawing program gives for a sheet and a lent buffer, which is its contract. proofs/Claims.antt ties it
-- to what is meant (Drawn). For proofs: the contracts of the private functions. Assumes nothing.
use Rattle.std.specs.Prelude.{◌≡◌, cond, List, [], ◌∷◌, ℕ, ◌≤◌, ◌<◌, ltb, leb, length}
use Rattle.formula.specs.Formula.{Formula, Name}
use Rattle.contact.specs.Question.{plain}
use Rattle.lists.specs.Buffer.{over}
use Rattle.plan.specs.Words.{Plan, words_of}
use Rattle.plan.specs.Plans.{plans_of}
use Rattle.table.specs.Sheet.{Text, lines_of, filled}
use Rattle.table.specs.Calls.{formulas_of, judge_load, if_loaded}
use Rattle.table.specs.declared.Outcome.{Outcome}
use Rattle.table.specs.Numbers.{load_outcome}
use Rattle.drawing.specs.Drawn.{bytes_of, room_of, refusal_number, most}

-- the number that is returned, and the buffer after it
pub record Drawing : Type 0 where
  pub number : ℕ
  pub bytes : List ℕ

abbrev pub drawing : ℕ → List ℕ → Drawing
drawing n bs = record { number = n; bytes = bs }

-- the plan's words, or 12
abbrev pub draw_words : List ℕ → List ℕ → Drawing
draw_words ws buffer =
    cond (leb (length ws) (room_of buffer)) (drawing (length ws) (over (bytes_of ws) buffer)) (drawing (refusal_number 12 0 (length ws)) buffer)

-- or 18 ahead of it
unfoldable pub draw_plan : Plan → List ℕ → Drawing
draw_plan p buffer = cond (ltb most (length p.points)) (drawing (refusal_number 18 0 (length p.points)) buffer) (draw_words (words_of p) buffer)

abbrev pub draw_plans : List Plan → List ℕ → Drawing
draw_plans [] buffer = drawing 0 buffer
draw_plans (p ∷ ps) buffer = draw_plan p buffer

unfoldable pub draw_rules : List (Formula Name) → List ℕ → Drawing
draw_rules fs buffer = draw_plans (plans_of plain fs) buffer

-- a load that is refused has a line and a place
abbrev pub outcome_number : Outcome → ℕ
outcome_number Outcome.Done = 0
outcome_number (Outcome.Plan words) = 0
outcome_number Outcome.NoPlan = 0
outcome_number Outcome.Yes = 0
outcome_number (Outcome.Unmet rule) = 0
outcome_number (Outcome.Text n) = 0
outcome_number (Outcome.Tree n) = 0
outcome_number Outcome.Closed = 0
outcome_number Outcome.AsDrawn = 0
outcome_number Outcome.No = 0
outcome_number (Outcome.Clash n) = 0
outcome_number (Outcome.Refused number carried) = 0
outcome_number (Outcome.RefusedLine number line place) = refusal_number number line place

-- the contract of the entry
unfoldable pub drawn : Text → List ℕ → Drawing
drawn file buffer =
    if_loaded (judge_load file) (draw_rules (formulas_of (filled (lines_of file))) buffer) (drawing (outcome_number (load_outcome (judge_load file))) buffer)

-- that of `draw_words`: of words that are a plan's, with no more points than a byte holds
unfoldable pub DrawsWords : List ℕ → List ℕ → ℕ → List ℕ → Type 0
DrawsWords words buffer r exit = (p : Plan) → length p.points ≤ 255 → words_of p ≡ words → drawing r exit ≡ draw_plan p buffer

-- what a refused load's number, line and place are at most
pub record Small (number line place : ℕ) : Type 0 where
  pub some : 0 < number
  pub number_at_most : number ≤ 15
  pub line_at_most : line ≤ 8193
  pub place_at_most : place ≤ 256

-- an outcome for whose number there is room
unfoldable pub Fits : Outcome → Type 0
Fits o = (number line place : ℕ) → o ≡ Outcome.RefusedLine number line place → Small number line place
