-- What is computed: "Judge answers yes or the lowest unmet rule, from 1", and which plans are not judged by rules. Assumes nothing.
use Rattle.std.specs.Prelude.{Bool, not, ◌&&◌, cond, List, [], ◌∷◌, ℕ, suc, eqb}
use Rattle.formula.specs.Formula.{Formula}
use Rattle.lists.specs.Search.{elem}
use Rattle.contact.specs.Meaning.{Floor, meets}
use Rattle.plan.specs.Words.{Plan}

pub data Judgement : Type 0 where
  yes : Judgement
  unmet : ℕ → Judgement

-- the rules are numbered from k
abbrev pub judge_from : {N : Type 0} → ℕ → Floor N → List (Formula N) → Judgement
judge_from k F [] = yes
judge_from k F (f ∷ rules) = let r = judge_from (suc k) F rules in cond (meets F f) r (unmet k)

-- yes, or the lowest unmet rule
abbrev pub judge : {N : Type 0} → Floor N → List (Formula N) → Judgement
judge F rules = judge_from 1 F rules

-- document 02's, T-07: "a plan of one name or more with a point at evaluation 0"
unfoldable pub uncovered : Plan → Bool
uncovered p = not (eqb p.names 0) && elem 0 p.points
