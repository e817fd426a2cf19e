-- `names::number_of` meets its contract: the name's place among those that are left, counted from i, is its place among all (the
-- invariant). Assumes nothing.
use mathlib.Core.Path.{◌≡◌, sym, ◌∙◌}
use Prim.Native.Nat.{◌≤◌}
use native.Mathlib.Omega.{arith}
use lib.ListN.{length}
use Rattle.evalset.specs.Most.{most}
use Rattle.names.proofs.Scans.{number_here, number_next, number_end}
use Rattle.names.proofs.number_of.Goals as goal

pub returns-then-same : goal.returns-then-same
returns-then-same c =
    let long : length c.args.names.list ≡ most = c.well_formed.0.1.1.0.1.0.1 in
    sym (number_here _ _ _ _ (omega arith) c.loop-i-test.true (sym c.same.ensures ∙ c.if-same.true)) ∙ c.loop-i.invariant

pub loop-i-preserved : goal.loop-i-preserved
loop-i-preserved c =
    let long : length c.args.names.list ≡ most = c.well_formed.0.1.1.0.1.0.1 in
    sym (number_next _ _ _ _ (omega arith) c.loop-i-test.true (sym c.same.ensures ∙ c.if-same.false)) ∙ c.loop-i.invariant

pub returns : goal.returns
returns c =
    let long : length c.args.names.list ≡ most = c.well_formed.0.1.1.0.1.0.1 in
    let all : c.loop-i.i ≡ c.args.names.count = omega arith in
    sym all ∙ sym (number_end _ _ _ _ (omega arith) (omega arith)) ∙ c.loop-i.invariant
