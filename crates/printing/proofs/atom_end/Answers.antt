-- `printing::atom_end` meets its contract: `Seeking` holds from turn to turn, and with each turn the order or the tokens go on. Assumes
-- nothing.
use mathlib.Core.Path.{◌≡◌, ap, subst}
use Prim.Native.Nat.{ℕ, ◌-◌}
use native.Mathlib.Omega.{arith}
use Rattle.printing.specs.Places.{Seeking}
use Rattle.printing.proofs.Counting.{one_if}
use Rattle.printing.proofs.Seeking.{place_of, few_atoms, seeks_first, order_ahead, seeks_sign, tokens_ahead, seeks_token, seeks_name}
use Rattle.printing.proofs.atom_end.Goals as goal

pub overflow_add-left : goal.overflow_add-left
overflow_add-left c = omega (arith, few_atoms c.requires)

pub loop-left-init : goal.loop-left-init
loop-left-init c = let a = c.requires in (a, seeks_first a)

pub bounds-order-k : goal.bounds-order-k
bounds-order-k c = let v = c.loop-left.invariant in order_ahead v.0 v.1 c.loop-left-test.true

-- ---- a sign
pub overflow_add-k : goal.overflow_add-k
overflow_add-k c = let v = c.loop-left.invariant in omega (arith, order_ahead v.0 v.1 c.loop-left-test.true)

pub loop-left-smaller-then-not-is_atom : goal.loop-left-smaller-then-not-is_atom
loop-left-smaller-then-not-is_atom c = omega (arith, order_ahead c.loop-left.invariant.0 c.loop-left.invariant.1 c.loop-left-test.true)

pub loop-left-preserved-then-not-is_atom : goal.loop-left-preserved-then-not-is_atom
loop-left-preserved-then-not-is_atom c =
    let v = c.loop-left.invariant in
    (v.0, seeks_sign v.0 v.1 c.loop-left-test.true c.if-kind-ne-NAME.true c.is_atom.result c.is_atom.ensures c.loop-left.left (omega (arith, ap one_if c.if-not-is_atom.true)))

pub overflow_sub-left : goal.overflow_sub-left
overflow_sub-left c = c.loop-left-test.true

pub loop-left-smaller-then-kind-ne-NAME : goal.loop-left-smaller-then-kind-ne-NAME
loop-left-smaller-then-kind-ne-NAME c = omega (arith, order_ahead c.loop-left.invariant.0 c.loop-left.invariant.1 c.loop-left-test.true)

pub loop-left-preserved-then-kind-ne-NAME : goal.loop-left-preserved-then-kind-ne-NAME
loop-left-preserved-then-kind-ne-NAME c =
    let v = c.loop-left.invariant in
    (v.0, seeks_sign v.0 v.1 c.loop-left-test.true c.if-kind-ne-NAME.true c.is_atom.result c.is_atom.ensures (c.loop-left.left - 1) (omega (arith, ap one_if c.if-not-is_atom.false, c.loop-left-test.true)))

-- ---- a name
pub bounds-kinds-j : goal.bounds-kinds-j
bounds-kinds-j c = tokens_ahead c.loop-left.invariant.0 c.loop-left.invariant.1 c.loop-left-test.true c.if-kind-ne-NAME.false

pub overflow_add-j : goal.overflow_add-j
overflow_add-j c = omega (arith, tokens_ahead c.loop-left.invariant.0 c.loop-left.invariant.1 c.loop-left-test.true c.if-kind-ne-NAME.false)

pub loop-left-smaller-then-kinds-j-ne-NAME : goal.loop-left-smaller-then-kinds-j-ne-NAME
loop-left-smaller-then-kinds-j-ne-NAME c = omega (arith, tokens_ahead c.loop-left.invariant.0 c.loop-left.invariant.1 c.loop-left-test.true c.if-kind-ne-NAME.false)

pub loop-left-preserved-then-kinds-j-ne-NAME : goal.loop-left-preserved-then-kinds-j-ne-NAME
loop-left-preserved-then-kinds-j-ne-NAME c =
    let v = c.loop-left.invariant in
    (v.0, seeks_token v.0 v.1 c.loop-left-test.true c.if-kind-ne-NAME.false c.if-kinds-j-ne-NAME.true)

pub overflow_add-k-in-loop-left : goal.overflow_add-k-in-loop-left
overflow_add-k-in-loop-left c = omega (arith, order_ahead c.loop-left.invariant.0 c.loop-left.invariant.1 c.loop-left-test.true)

pub overflow_add-j-in-loop-left : goal.overflow_add-j-in-loop-left
overflow_add-j-in-loop-left c = omega (arith, tokens_ahead c.loop-left.invariant.0 c.loop-left.invariant.1 c.loop-left-test.true c.if-kind-ne-NAME.false)

pub loop-left-smaller : goal.loop-left-smaller
loop-left-smaller c = omega (arith, order_ahead c.loop-left.invariant.0 c.loop-left.invariant.1 c.loop-left-test.true)

pub loop-left-preserved : goal.loop-left-preserved
loop-left-preserved c =
    let v = c.loop-left.invariant in
    (v.0, seeks_name v.0 v.1 c.loop-left-test.true c.if-kind-ne-NAME.false c.if-kinds-j-ne-NAME.false)

pub returns : goal.returns
returns c =
    let i = c.loop-left in
    let z : i.left ≡ 0 = omega (arith, c.loop-left-test.false) in
    subst (λ (n : ℕ). Seeking c.args.rule.order c.args.rule.tokens.kinds c.args.which n (place_of i.k i.j)) z i.invariant.1
