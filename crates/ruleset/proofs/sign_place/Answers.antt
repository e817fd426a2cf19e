-- `ruleset::sign_place` meets its contract: the place in the parts that are left is the place in all. Assumes nothing.
use mathlib.Core.Path.{refl, sym, ap, ◌∙◌}
use Prim.Native.Nat.{ℕ}
use native.Mathlib.Omega.{arith}
use Rattle.std.specs.Prelude.{Option, Some}
use Rattle.ruleset.specs.declared.AtomPlace.{AtomPlace}
use Rattle.ruleset.proofs.Scanning.{place_end, safe_next, place_here, place_later, contained}
use Rattle.ruleset.proofs.sign_place.Goals as goal

abbrev place_at : ℕ → ℕ → Option AtomPlace
place_at rule atom = Some (record { rule = rule; atom = atom })

pub loop-rule-init : goal.loop-rule-init
loop-rule-init c = (c.requires, refl)

pub slice_bounds-part-count : goal.slice_bounds-part-count
slice_bounds-part-count c =
    let a = c.args in
    let k = c.loop-rule in
    (safe_next a.sign a.code.now a.ends.now k.from k.rule (omega arith) k.invariant.0).0.ordered

pub returns-then-contains : goal.returns-then-contains
returns-then-contains c =
    let k = c.loop-rule in
    let a = c.args in
    let found = sym (c.contains.ensures.value ∙ contained a.sign _) ∙ c.if-contains.true in
    ap (λ (n : ℕ). place_at k.rule n) c.signs_to-atom.ensures ∙ sym (place_here a.sign a.code.now a.ends.now k.from k.rule (omega arith) found) ∙ k.invariant.1

pub loop-rule-preserved : goal.loop-rule-preserved
loop-rule-preserved c =
    let k = c.loop-rule in
    let a = c.args in
    let none = sym (c.contains.ensures.value ∙ contained a.sign _) ∙ c.if-contains.false in (
      (safe_next a.sign a.code.now a.ends.now k.from k.rule (omega arith) k.invariant.0).1,
      sym (place_later a.sign a.code.now a.ends.now k.from k.rule (omega arith) none) ∙ k.invariant.1,
    )

pub returns : goal.returns
returns c =
    let k = c.loop-rule in
    let a = c.args in
    sym (place_end a.sign a.code.now a.ends.now k.from k.rule (omega arith)) ∙ k.invariant.1
