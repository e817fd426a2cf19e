-- `spelling::matches` meets its contract, by the answers on the whole row and on its two parts. Assumes nothing.
use native.Mathlib.Omega.{arith}
use Rattle.lists.proofs.Truth.{clash}
use Rattle.spelling.specs.Comparing.{Agree}
use Rattle.spelling.proofs.Rows.{tells_one, tells_other, tells_not}
use Rattle.spelling.proofs.matches.Goals as goal

pub returns-then-agree : goal.returns-then-agree
returns-then-agree c = tells_one (c.agree.ensures.yes_is c.if-agree.true)

-- `not_whole`: the row as it is does not agree
pub returns-then-second-eq0 : goal.returns-then-second-eq0
returns-then-second-eq0 c =
    let not_whole : Agree c.args.kept.now c.args.number 0 c.args.row.now 0 c.args.len → ⊥ = λ g. clash (c.agree.ensures.is_yes g) c.if-agree.false in
    tells_other not_whole (tells_not (λ g. omega (arith, g.some, c.if-second-eq0.true)))

pub returns-then-agree-2 : goal.returns-then-agree-2
returns-then-agree-2 c =
    let parts = c in
    let not_whole : Agree c.args.kept.now c.args.number 0 c.args.row.now 0 c.args.len → ⊥ = λ g. clash (c.agree.ensures.is_yes g) c.if-agree.false in
    tells_other not_whole
    (record {
      yes_is = λ t. record { some = omega (arith, parts.if-second-eq0.false); before = parts.agree-2.ensures.yes_is c.if-agree-2.true; behind = c.agree-then-agree-2.ensures.yes_is t };
      is_yes = λ g. c.agree-then-agree-2.ensures.is_yes g.behind;
    })

pub returns : goal.returns
returns c =
    let not_whole : Agree c.args.kept.now c.args.number 0 c.args.row.now 0 c.args.len → ⊥ = λ g. clash (c.agree.ensures.is_yes g) c.if-agree.false in
    tells_other not_whole (tells_not (λ g. clash (c.agree-2.ensures.is_yes g.before) c.if-agree-2.false))
