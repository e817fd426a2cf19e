-- `explaining::leaf` meets its contract: a decided atom has its value at each node of the block. Assumes nothing.
use mathlib.Core.Path.{sym, ◌∙◌}
use native.Mathlib.Omega.{arith}
use borrow.Author.Tests.{lt-ltb}
use Rattle.evalset.proofs.Bits.{bit_none, bit_ones}
use Rattle.kleene.specs.Rails.{yes_of, no_of, word_rows}
use Rattle.explaining.proofs.Values.{leaf_after, leaf_before}
use Rattle.explaining.proofs.leaf.Goals as goal

pub returns-then-i-k : goal.returns-then-i-k
returns-then-i-k c =
    let l = c.if-i-k.true in
    (leaf_after yes_of _ _ _ _ (omega (arith, l)) c.mask.ensures.0, leaf_after no_of _ _ _ _ (omega (arith, l)) c.mask.ensures.1)

pub returns-then-value_in : goal.returns-then-value_in
returns-then-value_in c =
    let l = c.if-i-k.false in
    let v = sym c.if-value_in.true ∙ c.value_in.ensures in (
      leaf_before yes_of _ _ _ _ _ (omega (arith, l)) v (λ e l. bit_ones word_rows e ∙ lt-ltb e word_rows l),
      leaf_before no_of _ _ _ _ _ (omega (arith, l)) v (λ e l. bit_none e),
    )

pub returns-else-value_in : goal.returns-else-value_in
returns-else-value_in c =
    let l = c.if-i-k.false in
    let v = sym c.if-value_in.false ∙ c.value_in.ensures in (
      leaf_before yes_of _ _ _ _ _ (omega (arith, l)) v (λ e l. bit_none e),
      leaf_before no_of _ _ _ _ _ (omega (arith, l)) v (λ e l. bit_ones word_rows e ∙ lt-ltb e word_rows l),
    )
