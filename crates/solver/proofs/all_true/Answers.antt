-- `solver::all_true` meets its contract: a row that is left is one that no part passed refutes.
-- Assumes nothing.
use mathlib.Core.Path.{◌≡◌, subst}
use mathlib.Core.List.{[], List}
use Prim.Native.Nat.{ℕ, ◌≤◌}
use native.Mathlib.Omega.{arith}
use lib.ListN.{length, get_or, drop, drop_of_length-le}
use Rattle.lists.proofs.Lists.{rest}
use Rattle.solver.specs.Coded.{PartSafe, SafeFrom}
use Rattle.solver.proofs.Codes.{Joined, joined_none, joined_next}
use Rattle.solver.proofs.Whole.{Known, outside, all_in, cut_by, rule_outside, SoFar, none_true, rest_true}
use Rattle.solver.proofs.all_true.Goals as goal

pub loop-end-init : goal.loop-end-init
loop-end-init c =
    (c.requires.0, c.requires.1, λ many rules h. joined_none (Known many c.args.leaves.now) many c.args.code.now rules c.args.ends.now _ (λ e row v. all_in e v.0) h)

pub returns-then-left-eq0 : goal.returns-then-left-eq0
returns-then-left-eq0 c =
    let loop = c.loop-end in
    let a = c.args in
    (loop.invariant.1, none_true a.code.now a.ends.now a.leaves.now loop.from loop.left _ loop.invariant.2 c.if-left-eq0.true)

-- `this_part`: the part that is run next
pub slice_bounds-run_whole-count : goal.slice_bounds-run_whole-count
slice_bounds-run_whole-count c =
    let this_part : PartSafe c.args.code.now c.loop-end.from (get_or c.args.ends.now c.loop-end.end-index 0) = let loop = c.loop-end in
    let a = c.args in
    (subst (SafeFrom a.code.now loop.from) (rest a.ends.now loop.end-index 0 (omega arith)) loop.invariant.0).0 in
    this_part.ordered

pub run_whole-left-requires : goal.run_whole-left-requires
run_whole-left-requires c =
    let this_part : PartSafe c.args.code.now c.loop-end.from (get_or c.args.ends.now c.loop-end.end-index 0) = let loop = c.loop-end in
    let a = c.args in
    (subst (SafeFrom a.code.now loop.from) (rest a.ends.now loop.end-index 0 (omega arith)) loop.invariant.0).0 in
    (this_part.safe, c.loop-end.invariant.1)

pub loop-end-preserved : goal.loop-end-preserved
loop-end-preserved c =
    let loop = c.loop-end in
    let a = c.args in
    let now-first = rest a.ends.now loop.end-index 0 (omega arith) in (
      (subst (SafeFrom a.code.now loop.from) now-first loop.invariant.0).1,
      c.run_whole-left.ensures.0,
      λ many rules h. joined_next (Known many a.leaves.now) many a.code.now rules loop.from _ _ (outside loop.left) (outside c.run_whole-left.result) _
          (rule_outside many a.code.now a.leaves.now loop.from _ c.run_whole-left.result c.run_whole-left.ensures.1)
          (cut_by loop.left c.run_whole-left.result)
          (subst (λ (es : List ℕ). Joined (Known many a.leaves.now) many a.code.now loop.from es (outside loop.left) rules) now-first
          (loop.invariant.2 many rules h)),
    )

pub returns : goal.returns
returns c =
    let loop = c.loop-end in
    let a = c.args in
    let past : length a.ends.now ≤ loop.end-index = omega arith in
    let none_left : drop loop.end-index a.ends.now ≡ [] = drop_of_length-le a.ends.now past in (
      loop.invariant.1,
      rest_true a.code.now a.ends.now a.leaves.now loop.from loop.left
          (subst (SoFar a.code.now a.ends.now a.leaves.now loop.from loop.left) none_left loop.invariant.2),
    )
