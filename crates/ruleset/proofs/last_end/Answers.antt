-- `ruleset::last_end` meets its contract: the last part ends at the last of the ends. Assumes nothing.
use mathlib.Core.Path.{◌≡◌, sym, ap, ◌∙◌}
use Prim.Native.Nat.{ℕ, suc, ◌-◌}
use native.Mathlib.Omega.{arith}
use lib.ListN.{take}
use Rattle.ruleset.specs.Ends.{last_end}
use Rattle.ruleset.proofs.Coding.{last_at}
use Rattle.ruleset.proofs.last_end.Goals as goal

pub returns : goal.returns
returns c =
    let n = c.args.count in
    let e : suc (n - 1) ≡ n = omega arith in
    sym (last_at c.args.ends 0 (n - 1) (omega arith)) ∙ ap (λ (k : ℕ). last_end 0 (take k c.args.ends)) e
