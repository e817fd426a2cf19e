-- `trees::rule_start` meets its contract. Assumes nothing.
use mathlib.Core.Path.{◌≡◌, ap}
use Prim.Native.Nat.{suc, ◌-◌}
use native.Mathlib.Omega.{arith}
use Rattle.trees.specs.Branch.{start_of}
use Rattle.trees.proofs.rule_start.Goals as goal

pub returns-else-j-eq0 : goal.returns-else-j-eq0
returns-else-j-eq0 c =
    let a = c.args in
    let z : suc (a.j - 1) ≡ a.j = omega arith in
    ap (start_of 0 a.ends.now) z
