-- `explaining::falses` meets its contract: so far the first i rules have been run. Assumes nothing.
use mathlib.Core.Path.{◌≡◌, refl, sym, ap, ◌∙◌, subst}
use Prim.Native.Nat.{ℕ, suc, ◌+◌}
use native.Mathlib.Omega.{arith}
use lib.ListN.{length, get_or, length-set}
use Rattle.solver.specs.Coded.{PartSafe}
use Rattle.trees.specs.Branch.{start_of}
use Rattle.trees.proofs.Rules.{safe_at}
use Rattle.explaining.specs.Nodes.{FalsesSay}
use Rattle.explaining.proofs.Values.{falses_none, falses_more}
use Rattle.explaining.proofs.falses.Goals as goal

pub leaves-atoms-requires : goal.leaves-atoms-requires
leaves-atoms-requires c = c.requires.2

pub loop-i-init : goal.loop-i-init
loop-i-init c = (refl, refl, refl, refl, falses_none _ _ _ _ _)

-- `this_part`: the part that is run next
pub slice_bounds-run_rails-count : goal.slice_bounds-run_rails-count
slice_bounds-run_rails-count c =
    let this_part : let a = c.args in let k = c.loop-i in PartSafe a.code.now k.from (get_or a.ends.now k.i 0) = let k = c.loop-i in
    subst (λ (x : ℕ). PartSafe c.args.code.now x (get_or c.args.ends.now k.i 0)) (sym k.invariant.0)
    (safe_at c.args.code.now 0 c.args.ends.now k.i c.requires.0 (omega arith)) in
    this_part.ordered

pub slice_bounds-run_rails-start : goal.slice_bounds-run_rails-start
slice_bounds-run_rails-start c =
    let this_part : let a = c.args in let k = c.loop-i in PartSafe a.code.now k.from (get_or a.ends.now k.i 0) = let k = c.loop-i in
    subst (λ (x : ℕ). PartSafe c.args.code.now x (get_or c.args.ends.now k.i 0)) (sym k.invariant.0)
    (safe_at c.args.code.now 0 c.args.ends.now k.i c.requires.0 (omega arith)) in
    omega (arith, this_part.ordered, this_part.within)

pub slice_bounds-run_rails-end : goal.slice_bounds-run_rails-end
slice_bounds-run_rails-end c =
    let this_part : let a = c.args in let k = c.loop-i in PartSafe a.code.now k.from (get_or a.ends.now k.i 0) = let k = c.loop-i in
    subst (λ (x : ℕ). PartSafe c.args.code.now x (get_or c.args.ends.now k.i 0)) (sym k.invariant.0)
    (safe_at c.args.code.now 0 c.args.ends.now k.i c.requires.0 (omega arith)) in
    omega (arith, this_part.ordered, this_part.within)

pub run_rails-found-requires : goal.run_rails-found-requires
run_rails-found-requires c =
    let this_part : let a = c.args in let k = c.loop-i in PartSafe a.code.now k.from (get_or a.ends.now k.i 0) = let k = c.loop-i in
    subst (λ (x : ℕ). PartSafe c.args.code.now x (get_or c.args.ends.now k.i 0)) (sym k.invariant.0)
    (safe_at c.args.code.now 0 c.args.ends.now k.i c.requires.0 (omega arith)) in
    let k = c.loop-i in
    (this_part.safe, k.invariant.1, k.invariant.2)

pub offset_bounds-out-i : goal.offset_bounds-out-i
offset_bounds-out-i c = omega (arith, c.requires.1)

pub bounds-out-i : goal.bounds-out-i
bounds-out-i c = omega (arith, c.requires.1)

pub loop-i-preserved : goal.loop-i-preserved
loop-i-preserved c =
    let k = c.loop-i in
    let a = c.args in
    let ran = c.run_rails-found.ensures in
    let z : suc k.i ≡ k.i + 1 = omega arith in (
      ap (start_of 0 a.ends.now) z,
      ran.0,
      ran.1,
      length-set k.out k.i _ ∙ k.invariant.3,
      falses_more a.code.now a.ends.now a.h a.k _ _ c.leaves-atoms.ensures.0 c.leaves-atoms.ensures.1 k.i k.from _ _ _ k.out
          (omega arith) k.invariant.3 c.requires.1 k.invariant.0 refl ran.2 k.invariant.4,
    )

pub returns : goal.returns
returns c =
    let k = c.loop-i in
    let a = c.args in
    let z : k.i ≡ length a.ends.now = omega arith in
    (k.invariant.3, subst (λ (x : ℕ). FalsesSay a.code.now a.ends.now a.h a.k x k.out) z k.invariant.4)
