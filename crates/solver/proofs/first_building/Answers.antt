-- `solver::first_building` meets its contract: so far the rows below some place are tried, and no piece meets those from there to `till`. Assumes
-- nothing.
use mathlib.Core.Path.{refl, sym, ◌∙◌}
use Prim.Native.Nat.{◌+◌}
use native.Mathlib.Omega.{arith}
use Rattle.evalset.specs.Bit.{bit}
use Rattle.kleene.specs.Rails.{word_rows}
use Rattle.evalset.proofs.Walk.{Step, step}
use Rattle.solver.specs.Tree.{ShutTo}
use Rattle.pairing.proofs.Walking.{places_fall}
use Rattle.solver.proofs.Choosing.{tried_none, none_met, none_left, met_first, tried_more}
use Rattle.solver.proofs.Shutting.{shut_less, shut_row}
use Rattle.solver.proofs.first_building.Goals as goal

pub loop-e-init : goal.loop-e-init
loop-e-init c = (0, tried_none _ _ _, λ atoms h f a b. absurd (omega arith))

pub returns : goal.returns
returns c = none_left _ _ _ _ _ c.loop-e.invariant.1 (sym c.word_least.ensures ∙ c.in_default.is)

-- `taken`: the row that was taken
pub overflow_add-row : goal.overflow_add-row
overflow_add-row c =
    let taken : Step word_rows c.loop-e.invariant.0 c.in-Some.e (bit c.args.set) (bit c.loop-e.rest) = step word_rows _ _ _ c.loop-e.invariant.1.rest_is _
    (sym c.in-Some.ensures) in
    omega (arith, taken.within)

pub passed_to-till-requires : goal.passed_to-till-requires
passed_to-till-requires c =
    let taken : Step word_rows c.loop-e.invariant.0 c.in-Some.e (bit c.args.set) (bit c.loop-e.rest) = step word_rows _ _ _ c.loop-e.invariant.1.rest_is _
    (sym c.in-Some.ensures) in
    (c.requires.1, omega (arith, taken.within))

-- `passed`: up to where no piece meets the rows from it on
pub returns-then-till-row : goal.returns-then-till-row
returns-then-till-row c =
    let taken : Step word_rows c.loop-e.invariant.0 c.in-Some.e (bit c.args.set) (bit c.loop-e.rest) = step word_rows _ _ _ c.loop-e.invariant.1.rest_is _
    (sym c.in-Some.ensures) in
    let passed : let a = c.args in ShutTo a.chart (a.start + c.in-Some.e) c.passed_to-till.result = let loop = c.loop-e in
    c.passed_to-till.ensures (shut_less _ _ _ _ (omega (arith, taken.low)) loop.invariant.2) in
    let t = c in
    met_first _ _ _ _ _ t.loop-e.invariant.1 _ taken _ (passed.met c.if-till-row.true) refl

pub loop-e-smaller : goal.loop-e-smaller
loop-e-smaller c = places_fall _ _ _ (sym c.in-Some.ensures) c.word_without-rest.ensures

pub loop-e-preserved : goal.loop-e-preserved
loop-e-preserved c =
    let taken : Step word_rows c.loop-e.invariant.0 c.in-Some.e (bit c.args.set) (bit c.loop-e.rest) = step word_rows _ _ _ c.loop-e.invariant.1.rest_is _
    (sym c.in-Some.ensures) in
    let passed : let a = c.args in ShutTo a.chart (a.start + c.in-Some.e) c.passed_to-till.result = let loop = c.loop-e in
    c.passed_to-till.ensures (shut_less _ _ _ _ (omega (arith, taken.low)) loop.invariant.2) in
    let t = c in
    let p = passed in (
      c.in-Some.e + 1,
      tried_more _ _ _ _ _ t.loop-e.invariant.1 _ taken _ (shut_row _ _ _ p c.if-till-row.false) refl _
          c.word_without-rest.ensures,
      shut_less _ _ _ _ (omega arith) p.shut,
    )
