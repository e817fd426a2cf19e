-- `report::put_depths` meets its contract: the depth of a split, then those of its branches, which lie deeper (Reasons.antt). Assumes nothing.
use mathlib.Core.Path.{refl, ◌∙◌}
use lib.ListN.{length-set}
use native.Mathlib.Omega.{arith}
use Rattle.report.proofs.Reasons.{none_there, leaf_there, both_there}
use Rattle.report.proofs.+put_depths.Goals as goal

pub returns-then-words-at : goal.returns-then-words-at
returns-then-words-at t c = (refl, none_there _ _ _ _ _ _ c.if-words-at.true)

pub returns-in-0-to-15 : goal.returns-in-0-to-15
returns-in-0-to-15 t c =
    let a = c.args in (
      c.put_depths.ensures.0 ∙ c.put_depths-middle.ensures.0 ∙ length-set a.depths.now a.at a.depth,
      both_there _ _ _ _ (omega (arith, c.if-words-at.false, c.requires)) _ _ _ _ c.in-5.is c.put_depths-middle.ensures.1 c.put_depths.ensures.1,
    )

pub returns-in_default-depth : goal.returns-in_default-depth
returns-in_default-depth t c =
    let a = c.args in
    (length-set a.depths.now a.at a.depth, leaf_there _ _ _ _ (omega (arith, c.if-words-at.false, c.requires)) (λ e d. omega (arith, d)))

pub returns-in_default : goal.returns-in_default
returns-in_default t c =
    let a = c.args in
    (length-set a.depths.now a.at a.depth, leaf_there _ _ _ _ (omega (arith, c.if-words-at.false, c.requires)) (λ e d. omega (arith, e)))
