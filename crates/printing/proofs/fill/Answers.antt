-- `printing::fill` meets its contract: the tasks that are left and the bytes that are there make the text (the invariant, `Goes`); with each
-- turn a symbol of the order, a token or a byte falls. Assumes nothing.
use mathlib.Core.Path.{◌≡◌, refl, sym, ap, ◌∙◌}
use native.Mathlib.Omega.{arith}
use lib.ListN.{length}
use Rattle.printing.proofs.Walking.{few_left, order_some, row_low, jobs_fit, goes_operand, byte_fits, goes_byte, name_left, goes_past, name_lies, name_long, name_fits, goes_name, goes_end, goes_first}
use Rattle.printing.proofs.fill.Goals as goal

pub loop-height-init : goal.loop-height-init
loop-height-init c =
    let full : length c.args.rule.order ≡ 256 = c.well_formed.1.0.1.1.1.1.0.1.0.1 in
    goes_first c.args.text.now c.args.rule c.requires.0 c.args.place c.requires.1 c.args.made.now c.requires.3 c.args.stack.now c.requires.2 full

pub bounds-stack-height : goal.bounds-stack-height
bounds-stack-height c = omega (arith, c.loop-height.invariant.1.stacked.room, (few_left c.loop-height.invariant).0, c.loop-height-test.true)

-- ---- an operand
pub overflow_sub-k : goal.overflow_sub-k
overflow_sub-k c = order_some c.loop-height.invariant c.loop-height-test.true c.if-job-lt-NAMED.true

pub bounds-order-k : goal.bounds-order-k
bounds-order-k c =
    omega (arith, order_some c.loop-height.invariant c.loop-height-test.true c.if-job-lt-NAMED.true, (few_left c.loop-height.invariant).1)

pub push-height-requires : goal.push-height-requires
push-height-requires c = (
  row_low c.loop-height.invariant c.loop-height-test.true c.if-job-lt-NAMED.true c.row_of.result c.row_of.ensures,
  jobs_fit c.loop-height.invariant c.loop-height-test.true c.if-job-lt-NAMED.true c.row_of.result c.row_of.ensures,
)

pub loop-height-smaller-then-job-lt-NAMED : goal.loop-height-smaller-then-job-lt-NAMED
loop-height-smaller-then-job-lt-NAMED c =
    omega (arith, order_some c.loop-height.invariant c.loop-height-test.true c.if-job-lt-NAMED.true)

pub loop-height-preserved-then-job-lt-NAMED : goal.loop-height-preserved-then-job-lt-NAMED
loop-height-preserved-then-job-lt-NAMED c =
    goes_operand c.loop-height.invariant c.loop-height-test.true c.if-job-lt-NAMED.true c.row_of.result c.row_of.ensures c.push-height.new.stack c.push-height.ensures.1
    c.push-height.result c.push-height.ensures.0

-- ---- a byte
pub overflow_sub-at : goal.overflow_sub-at
overflow_sub-at c = byte_fits c.loop-height.invariant c.loop-height-test.true c.if-job-lt-NAMED.false c.if-job-ne-NAMED.true

pub bounds-made-at : goal.bounds-made-at
bounds-made-at c =
    omega (arith, byte_fits c.loop-height.invariant c.loop-height-test.true c.if-job-lt-NAMED.false c.if-job-ne-NAMED.true, (few_left c.loop-height.invariant).3, c.loop-height.invariant.1.making.room)

pub loop-height-smaller-then-job-ne-NAMED : goal.loop-height-smaller-then-job-ne-NAMED
loop-height-smaller-then-job-ne-NAMED c = omega (arith, byte_fits c.loop-height.invariant c.loop-height-test.true c.if-job-lt-NAMED.false c.if-job-ne-NAMED.true)

pub loop-height-preserved-then-job-ne-NAMED : goal.loop-height-preserved-then-job-ne-NAMED
loop-height-preserved-then-job-ne-NAMED c = goes_byte c.loop-height.invariant c.loop-height-test.true c.if-job-lt-NAMED.false c.if-job-ne-NAMED.true

-- ---- a name
pub overflow_sub-j : goal.overflow_sub-j
overflow_sub-j c = name_left c.loop-height.invariant c.loop-height-test.true c.if-job-ne-NAMED.false

pub bounds-kinds-j : goal.bounds-kinds-j
bounds-kinds-j c =
    omega (arith, name_left c.loop-height.invariant c.loop-height-test.true c.if-job-ne-NAMED.false, (few_left c.loop-height.invariant).2)

pub overflow_add-height : goal.overflow_add-height
overflow_add-height c = omega (arith, (few_left c.loop-height.invariant).0)

pub loop-height-smaller-then-kinds-j-ne-NAME : goal.loop-height-smaller-then-kinds-j-ne-NAME
loop-height-smaller-then-kinds-j-ne-NAME c = omega (arith, name_left c.loop-height.invariant c.loop-height-test.true c.if-job-ne-NAMED.false)

pub loop-height-preserved-then-kinds-j-ne-NAME : goal.loop-height-preserved-then-kinds-j-ne-NAME
loop-height-preserved-then-kinds-j-ne-NAME c = goes_past c.loop-height.invariant c.loop-height-test.true c.if-job-ne-NAMED.false c.if-kinds-j-ne-NAME.true

pub bounds-starts-j : goal.bounds-starts-j
bounds-starts-j c =
    omega (arith, name_left c.loop-height.invariant c.loop-height-test.true c.if-job-ne-NAMED.false, (few_left c.loop-height.invariant).2)

pub bounds-lens-j : goal.bounds-lens-j
bounds-lens-j c =
    omega (arith, name_left c.loop-height.invariant c.loop-height-test.true c.if-job-ne-NAMED.false, (few_left c.loop-height.invariant).2)

-- its token lies in the text, and there is room for its bytes
pub overflow_add-end : goal.overflow_add-end
overflow_add-end c =
    let lies = name_lies c.loop-height.invariant c.loop-height-test.true c.if-job-ne-NAMED.false c.if-kinds-j-ne-NAME.false c.wide-start.result c.wide-len.result c.wide-start.ensures c.wide-len.ensures in
    omega (arith, lies, c.loop-height.invariant.1.read.short)

pub overflow_sub-at-in-loop-height : goal.overflow_sub-at-in-loop-height
overflow_sub-at-in-loop-height c =
    name_fits c.loop-height.invariant c.loop-height-test.true c.if-job-ne-NAMED.false c.if-kinds-j-ne-NAME.false c.wide-start.result c.wide-len.result c.wide-start.ensures c.wide-len.ensures _ refl

pub slice_bounds-put-end : goal.slice_bounds-put-end
slice_bounds-put-end c = name_lies c.loop-height.invariant c.loop-height-test.true c.if-job-ne-NAMED.false c.if-kinds-j-ne-NAME.false c.wide-start.result c.wide-len.result c.wide-start.ensures c.wide-len.ensures

pub put-requires : goal.put-requires
put-requires c =
    let fits = name_fits c.loop-height.invariant c.loop-height-test.true c.if-job-ne-NAMED.false c.if-kinds-j-ne-NAME.false c.wide-start.result c.wide-len.result c.wide-start.ensures c.wide-len.ensures _ refl in
    let long = name_long c.loop-height.invariant c.loop-height-test.true c.if-job-ne-NAMED.false c.if-kinds-j-ne-NAME.false c.wide-start.result c.wide-len.result c.wide-start.ensures c.wide-len.ensures _ refl in
    omega (arith, fits, long, c.loop-height.invariant.1.making.room, (few_left c.loop-height.invariant).3)

pub loop-height-smaller : goal.loop-height-smaller
loop-height-smaller c =
    let fits = name_fits c.loop-height.invariant c.loop-height-test.true c.if-job-ne-NAMED.false c.if-kinds-j-ne-NAME.false c.wide-start.result c.wide-len.result c.wide-start.ensures c.wide-len.ensures _ refl in
    omega (arith, fits, name_left c.loop-height.invariant c.loop-height-test.true c.if-job-ne-NAMED.false)

pub loop-height-preserved : goal.loop-height-preserved
loop-height-preserved c =
    goes_name c.loop-height.invariant c.loop-height-test.true c.if-job-ne-NAMED.false c.if-kinds-j-ne-NAME.false c.wide-start.result c.wide-len.result c.wide-start.ensures c.wide-len.ensures _ refl
    c.put.new.out c.put.ensures

pub shape_of-stack : goal.shape_of-stack
shape_of-stack c = c.loop-height.invariant.1.stacked.room ∙ sym (ap length c.requires.2)

pub shape_of-made : goal.shape_of-made
shape_of-made c = c.loop-height.invariant.1.making.room ∙ sym c.requires.3

pub returns : goal.returns
returns c = let z : c.loop-height.height ≡ 0 = omega (arith, c.loop-height-test.false) in goes_end c.loop-height.invariant z
