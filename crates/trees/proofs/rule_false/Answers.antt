-- `trees::rule_false` meets its contract: the rule's part of the code is run on the branch's values. Assumes nothing.
use mathlib.Core.Path.{refl, sym, subst}
use Prim.Native.Nat.{ℕ, ◌-◌}
use native.Mathlib.Omega.{arith}
use lib.ListN.{get_or}
use Rattle.evalset.proofs.Bits.{bit_zero}
use Rattle.solver.specs.Coded.{PartSafe}
use Rattle.trees.proofs.Rules.{safe_at, rule_none, rule_past, rule_at}
use Rattle.trees.proofs.rule_false.Goals as goal

pub returns-then-k-eq0 : goal.returns-then-k-eq0
returns-then-k-eq0 c = let p = c.requires in (p.2, p.3, rule_none _ _ _ _ _ c.if-k-eq0.true)

pub returns-then-k-ends : goal.returns-then-k-ends
returns-then-k-ends c = let p = c.requires in (p.2, p.3, rule_past _ _ _ _ _ c.if-k-ends.true)

-- `this_part`: the rule's part of the code
pub slice_bounds-run_rails-count : goal.slice_bounds-run_rails-count
slice_bounds-run_rails-count c =
    let this_part : PartSafe c.args.code.now c.rule_start-from.result (get_or c.args.ends.now (c.args.k - 1) 0) = let a = c.args in
    subst (λ (x : ℕ). PartSafe a.code.now x (get_or a.ends.now (a.k - 1) 0)) (sym c.rule_start-from.ensures)
    (safe_at a.code.now 0 a.ends.now (a.k - 1) c.requires.0 (omega arith)) in
    this_part.ordered

pub slice_bounds-run_rails-start : goal.slice_bounds-run_rails-start
slice_bounds-run_rails-start c =
    let this_part : PartSafe c.args.code.now c.rule_start-from.result (get_or c.args.ends.now (c.args.k - 1) 0) = let a = c.args in
    subst (λ (x : ℕ). PartSafe a.code.now x (get_or a.ends.now (a.k - 1) 0)) (sym c.rule_start-from.ensures)
    (safe_at a.code.now 0 a.ends.now (a.k - 1) c.requires.0 (omega arith)) in
    omega (arith, this_part.ordered, this_part.within)

pub slice_bounds-run_rails-end : goal.slice_bounds-run_rails-end
slice_bounds-run_rails-end c =
    let this_part : PartSafe c.args.code.now c.rule_start-from.result (get_or c.args.ends.now (c.args.k - 1) 0) = let a = c.args in
    subst (λ (x : ℕ). PartSafe a.code.now x (get_or a.ends.now (a.k - 1) 0)) (sym c.rule_start-from.ensures)
    (safe_at a.code.now 0 a.ends.now (a.k - 1) c.requires.0 (omega arith)) in
    omega (arith, this_part.ordered, this_part.within)

pub run_rails-found-requires : goal.run_rails-found-requires
run_rails-found-requires c =
    let this_part : PartSafe c.args.code.now c.rule_start-from.result (get_or c.args.ends.now (c.args.k - 1) 0) = let a = c.args in
    subst (λ (x : ℕ). PartSafe a.code.now x (get_or a.ends.now (a.k - 1) 0)) (sym c.rule_start-from.ensures)
    (safe_at a.code.now 0 a.ends.now (a.k - 1) c.requires.0 (omega arith)) in
    let p = c.requires in (this_part.safe, p.2, p.3)

pub returns : goal.returns
returns c =
    let a = c.args in
    let k = c.run_rails-found in (
      k.ensures.0,
      k.ensures.1,
      rule_at a.code.now a.ends.now a.many a.b _ _ c.leaves-yes.ensures c.leaves-no.ensures a.k (a.k - 1) _ _ k.result.yes k.result.no
          (omega arith) c.rule_start-from.ensures refl (omega arith) k.ensures.2 _ (sym (bit_zero k.result.no)),
    )
