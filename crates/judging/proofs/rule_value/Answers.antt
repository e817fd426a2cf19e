-- `judging::rule_value` meets its contract: a run whose atoms are all decided gives the rule's value. Assumes nothing.
use mathlib.Core.Path.{sym, ap, ◌∙◌}
use mathlib.Core.List.{[], List}
use Prim.Native.Nat.{ℕ}
use native.Mathlib.Omega.{arith}
use Rattle.evalset.proofs.Bits.{bit_zero}
use Rattle.kleene.specs.Rails.{exec, whole_at}
use Rattle.kleene.proofs.Claims.{whole_value}
use Rattle.judging.specs.Values.{RuleSays}
use Rattle.judging.proofs.rule_value.Goals as goal

pub returns : goal.returns
unfolding RuleSays
returns c = λ rule q w values.
    let a = c.args in
    let r = c.run_whole-value.result in
    sym (bit_zero r)
    ∙ whole_value rule a.atoms 0 r w
    (ap (λ (code : List ℕ). exec (whole_at a.atoms 0) code []) (sym q) ∙ c.run_whole-value.ensures.1 0 (omega arith)) values
