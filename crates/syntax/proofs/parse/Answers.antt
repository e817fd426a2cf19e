-- `syntax::parse` meets its contract: no frame waits around all the tokens, so that the answer of `level` is the reading, and what
-- stands after it decides. Assumes nothing.
use mathlib.Core.Path.{refl}
use Rattle.std.proofs.Common.{rules}
use Rattle.syntax.proofs.Readers.{whole_term, whole_longer, whole_formula, whole_refused, parse_err}
use Rattle.syntax.proofs.parse.Goals as goal
use Rattle.syntax.proofs.parse.Goals.{then-v-via-then-v, then-v-via-else-v+then-v-kinds}

pub returns-in_err-v : goal.returns-in_err-v
returns-in_err-v c = parse_err _ _ _ (search rules) (whole_refused _ _ _ _ c.in_err-v.ensures _ refl)

pub returns-then-v : goal.returns-then-v
returns-then-v c =
    elim c.then-v.branch [
      | then-v-via-then-v w ↦ whole_term _ _ _ _ c.in_ok-v.ensures _ _ _ refl w.if-v.true
      | then-v-via-else-v+then-v-kinds w ↦ whole_longer _ _ _ _ c.in_ok-v.ensures _ _ _ refl w.if-v-kinds.true
    ]

pub returns : goal.returns
returns c = whole_formula _ _ _ _ c.in_ok-v.ensures _ _ _ refl c.if-v.false c.if-v-kinds.false
