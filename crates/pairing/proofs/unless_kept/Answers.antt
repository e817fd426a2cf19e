-- `pairing::unless_kept` meets its contract. Assumes nothing.
use mathlib.Core.Bool.{Bool, cond}
use mathlib.Core.Path.{sym, ap, ◌∙◌}
use Rattle.evalset.specs.Bit.{bit}
use Rattle.evalset.specs.Sets.{drop_of}
use Rattle.pairing.proofs.unless_kept.Goals as goal

pub returns-then-keep : goal.returns-then-keep
returns-then-keep c =
    let a = c.args in
    sym (ap (λ (b : Bool). cond b (bit a.w) (drop_of (bit a.w) a.e)) c.if-keep.true)

pub returns-else-keep : goal.returns-else-keep
returns-else-keep c =
    let a = c.args in
    c.word_without.ensures ∙ sym (ap (λ (b : Bool). cond b (bit a.w) (drop_of (bit a.w) a.e)) c.if-keep.false)
