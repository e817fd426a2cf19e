-- `names::gather` meets its contract: the names and numbers that are in the arrays, and what follows for the tokens that are left, give
-- the answer for the whole text (the invariant). Assumes nothing.
use Prim.Native.Nat.{ℕ, ◌+◌, ◌-◌, ◌≤◌, ◌<◌}
use mathlib.Core.Path.{◌≡◌, refl, ap}
use native.Mathlib.Omega.{arith}
use lib.Arith.{lt_of_le-ne}
use lib.ListN.{length, get_or, take, drop, length-take}
use Rattle.names.proofs.Gathering.{going_first, few_tokens, few_names, number_few, going_end, token_inside, token_short, going_other, going_ninth, going_name}
use Rattle.names.proofs.gather.Goals as goal

-- the numbers have room for one more
number_room : (c : goal.After-with_name-known) → c.loop-i.m < 256
number_room c = omega (arith, few_tokens c.loop-i.invariant, c.loop-i.invariant.fewer)

pub loop-i-init : goal.loop-i-init
loop-i-init c =
    going_first c.args.text.now c.args.rule c.args.names _ c.requires refl

pub bounds-rule-i : goal.bounds-rule-i
bounds-rule-i c = omega (arith, few_tokens c.loop-i.invariant)

pub loop-i-preserved-then-rule-i-ne-NAME : goal.loop-i-preserved-then-rule-i-ne-NAME
loop-i-preserved-then-rule-i-ne-NAME c = going_other c.loop-i.invariant c.loop-i-test.true c.if-rule-i-ne-NAME.true

pub bounds-rule-i-in-loop-i : goal.bounds-rule-i-in-loop-i
bounds-rule-i-in-loop-i c = omega (arith, few_tokens c.loop-i.invariant)

pub bounds-rule-i-in-loop-i-2 : goal.bounds-rule-i-in-loop-i-2
bounds-rule-i-in-loop-i-2 c = omega (arith, few_tokens c.loop-i.invariant)

pub overflow_add-end : goal.overflow_add-end
overflow_add-end c =
    let within : c.from-start.result + c.from.result ≤ length c.args.text.now = omega (arith, token_inside c.loop-i.invariant c.loop-i-test.true, c.from-start.ensures, c.from.ensures) in
    omega arith

-- the token lies in the text
pub slice_bounds-number_of-end : goal.slice_bounds-number_of-end
slice_bounds-number_of-end c =
    let within : c.from-start.result + c.from.result ≤ length c.args.text.now = omega (arith, token_inside c.loop-i.invariant c.loop-i-test.true, c.from-start.ensures, c.from.ensures) in
    within

pub slice_bounds-with_name-end : goal.slice_bounds-with_name-end
slice_bounds-with_name-end c =
    let within : c.from-start.result + c.from.result ≤ length c.args.text.now = omega (arith, token_inside c.loop-i.invariant c.loop-i-test.true, c.from-start.ensures, c.from.ensures) in
    within

-- what is lent of the text is the token's bytes, at most 16

pub number_of-number-requires : goal.number_of-number-requires
number_of-number-requires c = (few_names c.loop-i.invariant, simp length-take (omega (arith, c.from.ensures, token_short c.loop-i.invariant c.loop-i-test.true)))

pub returns-then-number-eq-NAMES : goal.returns-then-number-eq-NAMES
returns-then-number-eq-NAMES c =
    let lent = λ (n : ℕ). take n (drop c.from-start.result c.args.text.now) in
    let size : c.from-start.result + c.from.result - c.from-start.result ≡ get_or c.args.rule.tokens.lens c.loop-i.i 0 = omega (arith, c.from.ensures) in
    going_ninth c.loop-i.invariant c.loop-i-test.true _ _ _ c.if-rule-i-ne-NAME.false c.from-start.ensures (ap lent size) c.number_of-number.ensures c.if-number-eq-NAMES.true

pub with_name-known-requires : goal.with_name-known-requires
with_name-known-requires c =
    (lt_of_le-ne (number_few c.loop-i.invariant _ _ c.number_of-number.ensures) c.if-number-eq-NAMES.false, simp length-take (omega (arith, c.from.ensures, token_short c.loop-i.invariant c.loop-i-test.true)))

pub overflow_cast-numbers : goal.overflow_cast-numbers
overflow_cast-numbers c = omega (arith, number_few c.loop-i.invariant _ _ c.number_of-number.ensures)

pub bounds-numbers-m : goal.bounds-numbers-m
bounds-numbers-m c = number_room c

pub overflow_add-m : goal.overflow_add-m
overflow_add-m c = omega (arith, number_room c)

pub loop-i-preserved : goal.loop-i-preserved
loop-i-preserved c =
    let lent = λ (n : ℕ). take n (drop c.from-start.result c.args.text.now) in
    let size : c.from-start.result + c.from.result - c.from-start.result ≡ get_or c.args.rule.tokens.lens c.loop-i.i 0 = omega (arith, c.from.ensures) in
    going_name c.loop-i.invariant c.loop-i-test.true _ _ _ c.if-rule-i-ne-NAME.false c.from-start.ensures (ap lent size) c.number_of-number.ensures c.if-number-eq-NAMES.false _ c.with_name-known.ensures

pub returns : goal.returns
returns c = going_end c.loop-i.invariant c.loop-i-test.false
