-- What is meant: a judgement, and the plan that is given. The first row is meant with no algorithm (`IsFirstRow`); of the points and the
-- contacts of its plan the documents give the rule itself, which is `IsRowPlan`. `given_exactly` of proofs/Claims.antt ties the plan that is
-- found to this. Assumes nothing.
use Rattle.std.specs.Prelude.{◌≡◌, true, false, List, ◌∷◌, ◌++◌, ℕ, ◌+◌, length}
use Rattle.formula.specs.Formula.{Formula, Name}
use Rattle.contact.specs.Meaning.{Floor, meets, meets_all}
use Rattle.contact.specs.Question.{Question}
use Rattle.contact.specs.Row.{Row, IsFirstRow}
use Rattle.plan.specs.Words.{Plan}
use Rattle.plan.specs.Given.{IsRowPlan}

-- "the lowest unmet rule, from 1"
module _ {N : Type 0} (F : Floor N) where
  -- rule k, numbered from `one`, is not met and all before it are
  pub record FirstUnmet (one : ℕ) (rules : List (Formula N)) (k : ℕ) : Type 0 where
    pub earlier : List (Formula N)
    pub rule : Formula N
    pub later : List (Formula N)
    pub parts : earlier ++ (rule ∷ later) ≡ rules
    pub number : k ≡ one + length earlier
    pub met : meets_all F earlier ≡ true
    pub not_met : meets F rule ≡ false

-- the plan is that of the first realisable row that makes all rules true
pub record IsGiven (q : Question) (rules : List (Formula Name)) (p : Plan) : Type 0 where
  pub row : Row
  pub first : IsFirstRow q rules row
  pub is : IsRowPlan q rules row p
