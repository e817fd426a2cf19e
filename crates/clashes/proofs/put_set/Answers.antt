-- `clashes::put_set` meets its contract: so far the lines of the rules before place i are put (Lines.antt). Assumes nothing.
use mathlib.Core.Path.{◌≡◌}
use Prim.Native.Nat.{◌≤◌, ◌<◌}
use native.Mathlib.Omega.{arith}
use lib.ListN.{length, length-map}
use Rattle.syntax.specs.Rule.{meaning_of}
use Rattle.lists.proofs.Putting.{puts_length}
use Rattle.table.specs.Store.{rules_of}
use Rattle.table.specs.Calls.{formulas_of}
use Rattle.clashes.proofs.Lines.{put_none, put_pass, put_more, put_all, rule_line}
use Rattle.clashes.proofs.put_set.Goals as goal

pub loop-i-init : goal.loop-i-init
loop-i-init c = put_none _ _ _ _

pub bounds-set-i : goal.bounds-set-i
bounds-set-i c =
    let few : c.args.count ≤ 16 = omega (arith, c.requires.1, c.requires.0.standing.few) in
    omega (arith, few)

pub offset_bounds-numbers-i : goal.offset_bounds-numbers-i
offset_bounds-numbers-i c =
    let few : c.args.count ≤ 16 = omega (arith, c.requires.1, c.requires.0.standing.few) in
    omega (arith, few)

pub bounds-numbers-i : goal.bounds-numbers-i
bounds-numbers-i c =
    let few : c.args.count ≤ 16 = omega (arith, c.requires.1, c.requires.0.standing.few) in
    omega (arith, few)

pub loop-i-preserved-then-not-needed : goal.loop-i-preserved-then-not-needed
loop-i-preserved-then-not-needed c =
    let set_long : length c.args.set ≡ 16 = c.well_formed.1.1.0.1.0.1 in
    let numbers_long : length c.args.numbers ≡ 16 = c.well_formed.1.1.1.0.1.0.1 in
    let few : c.args.count ≤ 16 = omega (arith, c.requires.1, c.requires.0.standing.few) in
    let k = c.loop-i in
    let rule_there : k.i < length (formulas_of (rules_of c.args.table)) = omega (arith, c.requires.1, length-map (rules_of c.args.table) meaning_of) in
    put_pass _ _ _ _ _ _ _ k.invariant (omega (arith, few, numbers_long)) rule_there (omega (arith, few, set_long)) c.if-not-needed.true

pub put_rule-end-requires : goal.put_rule-end-requires
put_rule-end-requires c =
    let few : c.args.count ≤ 16 = omega (arith, c.requires.1, c.requires.0.standing.few) in
    let k = c.loop-i in
    (c.requires.0, omega (arith, few), omega (arith, c.requires.2, few, k.invariant.few, puts_length k.invariant.puts))

pub loop-i-preserved : goal.loop-i-preserved
loop-i-preserved c =
    let set_long : length c.args.set ≡ 16 = c.well_formed.1.1.0.1.0.1 in
    let numbers_long : length c.args.numbers ≡ 16 = c.well_formed.1.1.1.0.1.0.1 in
    let few : c.args.count ≤ 16 = omega (arith, c.requires.1, c.requires.0.standing.few) in
    let k = c.loop-i in
    let rule_there : k.i < length (formulas_of (rules_of c.args.table)) = omega (arith, c.requires.1, length-map (rules_of c.args.table) meaning_of) in
    let e = c.put_rule-end.ensures in
    put_more _ _ _ _ _ _ _ k.invariant (omega (arith, few, numbers_long)) rule_there (omega (arith, few, set_long)) c.if-not-needed.false _ _ _
    (rule_line (rules_of c.args.table) k.i (omega (arith, c.requires.1)) _) e.0 e.1

pub returns : goal.returns
returns c =
    put_all _ _ _ _ _ _ _ c.loop-i.invariant (omega (arith, c.requires.1, length-map (rules_of c.args.table) meaning_of))
