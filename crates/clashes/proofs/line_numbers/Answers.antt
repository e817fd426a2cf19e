-- `clashes::line_numbers` meets its contract: line by line, the numbers so far (Numbers.antt). Assumes nothing.
use mathlib.Core.Path.{sym, subst, ◌∙◌}
use mathlib.Core.List.{List}
use Prim.Native.Nat.{ℕ}
use native.Mathlib.Omega.{arith}
use Rattle.lists.proofs.Padded.{pad_none}
use Rattle.clashes.proofs.Numbers.{NumbersTo, numbers_none, numbers_pass, numbers_more, numbers_full, numbers_all}
use Rattle.clashes.proofs.line_numbers.Goals as goal

pub loop-from-init : goal.loop-from-init
loop-from-init c = subst (λ (xs : List ℕ). NumbersTo c.args.file.now xs 0 0 0) (sym (pad_none 16)) (numbers_none c.args.file.now)

pub overflow_add-line : goal.overflow_add-line
overflow_add-line c = omega (arith, c.loop-from.invariant.passed, c.well_formed)

pub overflow_add-from : goal.overflow_add-from
overflow_add-from c = omega (arith, c.line_end-end.ensures.1)

pub slice_bounds-all_blank-count : goal.slice_bounds-all_blank-count
slice_bounds-all_blank-count c = c.line_end-end.ensures.0

pub all_blank-requires : goal.all_blank-requires
all_blank-requires c = tt

pub loop-from-smaller-then-all_blank : goal.loop-from-smaller-then-all_blank
loop-from-smaller-then-all_blank c = omega (arith, c.line_end-end.ensures.0)

pub loop-from-preserved-then-all_blank : goal.loop-from-preserved-then-all_blank
loop-from-preserved-then-all_blank c =
    let k = c.loop-from in
    let e = c.line_end-end.ensures in
    numbers_pass _ _ _ _ _ _ k.invariant (omega arith) e.0 e.1 e.2 (sym c.all_blank.ensures ∙ c.if-all_blank.true)

pub returns-then-count-ge-RULES : goal.returns-then-count-ge-RULES
returns-then-count-ge-RULES c = numbers_full _ _ _ _ _ c.loop-from.invariant (omega arith)

pub loop-from-smaller : goal.loop-from-smaller
loop-from-smaller c = omega (arith, c.line_end-end.ensures.0)

pub loop-from-preserved : goal.loop-from-preserved
loop-from-preserved c =
    let k = c.loop-from in
    let e = c.line_end-end.ensures in
    numbers_more _ _ _ _ _ _ k.invariant (omega arith) e.0 e.1 e.2 (sym c.all_blank.ensures ∙ c.if-all_blank.false) (omega arith)

pub returns : goal.returns
returns c = numbers_all _ _ _ _ _ c.loop-from.invariant (omega arith)
