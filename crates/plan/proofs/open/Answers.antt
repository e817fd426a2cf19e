-- `plan::open` meets its contract: each test that fails is the machine's, and what passes them all is its state. Assumes nothing.
use borrow.Enum.Refused.{opened}
use mathlib.Core.Path.{refl}
use native.Mathlib.Omega.{arith}
use lib.Pow.{pow_mono}
use Prim.Native.Nat.{◌≤◌}
use Rattle.plan.proofs.ReadLoop.{not_first, open_many, open_none, open_over, open_good}
use Rattle.evalset.specs.Most.{most}
use Rattle.plan.proofs.open.Goals as goal

pub returns-in_default : goal.returns-in_default
returns-in_default c = record { to = (not_first c.args.word (opened c.in_default.in_default-own.keys2), refl) }

pub returns-then-evaluations-count : goal.returns-then-evaluations-count
returns-then-evaluations-count c =
    let given = c.in-First in
    record {
      to = (
        open_over c.args.word given.names given.points
            given.is (omega arith) (omega arith) (omega arith),
        refl,
      );
    }

pub returns-else-evaluations-count : goal.returns-else-evaluations-count
returns-else-evaluations-count c =
    let given = c.in-First in
    record {
      to = open_good c.args.word given.names given.points
          given.is (omega arith) (omega arith) (omega arith);
    }

-- no point
pub returns-in_default-points : goal.returns-in_default-points
returns-in_default-points c =
    let given = c.in-First in
    record {
      to = (
        open_none c.args.word given.names given.points given.is
            (omega arith) (omega arith),
        refl,
      );
    }

-- more than 256 points, and so more than 2^names
pub returns-in_default-points-2 : goal.returns-in_default-points-2
returns-in_default-points-2 c =
    let given = c.in-First in
    let few : given.names ≤ most = omega arith in
    record {
      to = (
        open_over c.args.word given.names given.points given.is
            few (omega arith) (omega (arith, pow_mono few)),
        refl,
      );
    }

pub returns-in_default-names : goal.returns-in_default-names
returns-in_default-names c =
    let given = c.in-First in
    record {
      to = (open_many c.args.word given.names given.points given.is (omega arith), refl);
    }
