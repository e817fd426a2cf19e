-- `evalset::least` meets its contract: all words before were clear, and the lowest bit of the first that is not is the least member.
-- Assumes nothing.
use mathlib.Core.Path.{sym, ap, ◌∙◌}
use native.Mathlib.Omega.{arith}
use Rattle.evalset.specs.Bit.{word_bits, bit}
use Rattle.evalset.specs.Sets.{found_of}
use Rattle.evalset.proofs.Walk.{found_least, found_nothing}
use Rattle.evalset.proofs.Words.{clear_more, clear_all, least_at}
use Rattle.evalset.proofs.least.Goals as goal

pub loop-k-init : goal.loop-k-init
loop-k-init c = λ d l. absurd (omega arith)

pub overflow_add-result : goal.overflow_add-result
overflow_add-result c =
    let found = found_least (bit _) word_bits c.in-Some.e (sym c.word_least.ensures ∙ c.in-Some.is) in
    omega (arith, found.within)

pub returns-in-Some : goal.returns-in-Some
returns-in-Some c =
    let found = found_least (bit _) word_bits c.in-Some.e (sym c.word_least.ensures ∙ c.in-Some.is) in
    sym (ap found_of (least_at _ _ (omega arith) c.loop-k.invariant c.in-Some.e found))

pub loop-k-preserved : goal.loop-k-preserved
loop-k-preserved c =
    clear_more _ _ (omega arith) c.loop-k.invariant (found_nothing (bit _) word_bits (sym c.word_least.ensures ∙ c.in_default.is))

pub returns : goal.returns
returns c = sym (ap found_of (clear_all _ (λ d l. c.loop-k.invariant d (omega arith))))
