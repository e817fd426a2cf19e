-- `compile::order_passed` meets its contract: the loop follows the machine, symbol by symbol (Follow.antt), and the symbols that are left
-- fall. Assumes nothing.
use Prim.Native.Nat.{◌<◌}
use Rattle.std.specs.Prelude.{Some}
use native.Mathlib.Omega.{arith}
use mathlib.Core.Bool.{false}
use mathlib.Core.Path.{◌≡◌, refl, sym, ap, ap₂, subst, ◌∙◌}
use lib.ListN.{length, get_or, length-set}
use Rattle.compile.specs.Kinds.{term_kind, first_by, second_by}
use Rattle.compile.specs.Compiles.{atoms_with, Compiles}
use Rattle.compile.specs.declared.CompiledRule.{CompiledRule}
use Rattle.compile.proofs.Stack.{sets_count}
use Rattle.compile.proofs.Follow.{begins, never_full, few_names, small_number, few_atoms, enough, none_left, fits, term_again, signs_asked, sign_again, refused, finished}
use Rattle.compile.proofs.Turns.{seventeenth, no_more, one_more}
use Rattle.compile.proofs.Charts.{stored_sized, stored_grows}
use Rattle.compile.proofs.order_passed.Goals as goal

pub loop-i-init : goal.loop-i-init
loop-i-init c =
    let contacts : length c.args.chart.contact ≡ 16 = c.well_formed.1.1.0.1.1.1.1.0.1.0.1 in
    let firsts : length c.args.chart.xs ≡ 16 = c.well_formed.1.1.0.1.1.1.1.1.0.1.0.1 in
    let seconds : length c.args.chart.ys ≡ 16 = c.well_formed.1.1.0.1.1.1.1.1.1.0.1.0.1 in
    let lengths : length c.args.lens ≡ 16 = c.well_formed.1.1.1.0.1.0.1 in (
      rw (c.no_terms-at.ensures.0, c.no_terms-at.ensures.1, c.no_terms-at.ensures.2) (begins _ _ _ _ _ _ _ c.requires.1 (ap length c.zeros-row.ensures) refl),
      record { contacts = contacts; firsts = firsts; seconds = seconds; lengths = lengths },
      refl,
    )

pub term_passed-at-requires : goal.term_passed-at-requires
term_passed-at-requires c =
    let at = c.loop-i in
    record {
      enough = enough c.requires.0 at.invariant.0 (omega arith);
      room = omega (arith, never_full c.requires.0 c.loop-i.invariant.0, sets_count c.loop-i.stack);
      short = omega (arith, at.invariant.0.behind, c.requires.0.short);
      few = omega (arith, few_names c.requires.0 at.invariant.0, c.requires.0.short);
      small = small_number c.requires.0 at.invariant.0 at.at.used;
    }

pub loop-i-preserved-then-is_term : goal.loop-i-preserved-then-is_term
loop-i-preserved-then-is_term c =
    let passed = c.term_passed-at.ensures in
    let at = c.loop-i in (
      rw (passed.higher, passed.longer, passed.further, passed.shown, passed.puts.stored)
          (term_again c.requires.0 at.invariant.0 (omega arith) _ refl passed.puts.written _ _ _ (sym c.is_term.ensures ∙ c.if-is_term.true) refl refl passed.puts.members refl),
      at.invariant.1,
      passed.puts.long ∙ at.invariant.2,
    )

pub signed-sign-requires : goal.signed-sign-requires
signed-sign-requires c =
    signs_asked c.requires.0 c.loop-i.invariant.0 (omega arith) _ refl (sym c.is_term.ensures ∙ c.if-is_term.false)

pub shape_of-code-then-sign-ge-SEVENTEENTH : goal.shape_of-code-then-sign-ge-SEVENTEENTH
shape_of-code-then-sign-ge-SEVENTEENTH c = c.loop-i.invariant.0.long

pub shape_of-stack-then-sign-ge-SEVENTEENTH : goal.shape_of-stack-then-sign-ge-SEVENTEENTH
shape_of-stack-then-sign-ge-SEVENTEENTH c = c.loop-i.invariant.2

pub returns-then-sign-ge-SEVENTEENTH : goal.returns-then-sign-ge-SEVENTEENTH
returns-then-sign-ge-SEVENTEENTH c =
    let at = c.loop-i in (
      refused c.requires.0 at.invariant.0 (omega arith) _ refl (sym c.is_term.ensures ∙ c.if-is_term.false) (seventeenth at.chart at.lens c.signed-sign.ensures at.end at.code _ _ c.if-sign-ge-SEVENTEENTH.true) refl,
      at.invariant.0.long,
    )

pub bounds-code-end : goal.bounds-code-end
bounds-code-end c = fits c.requires.0 c.loop-i.invariant.0 (omega arith)

pub overflow_add-end : goal.overflow_add-end
overflow_add-end c = let inside = fits c.requires.0 c.loop-i.invariant.0 (omega arith) in omega (arith, inside, c.loop-i.invariant.0.long)

pub overflow_cast-sign : goal.overflow_cast-sign
overflow_cast-sign c = omega (arith, c.if-sign-ge-SEVENTEENTH.false)

pub overflow_add-many : goal.overflow_add-many
overflow_add-many c = omega (arith, few_atoms c.requires.0 c.loop-i.invariant.0)

pub loop-i-preserved-then-sign-many : goal.loop-i-preserved-then-sign-many
loop-i-preserved-then-sign-many c =
    let none = c.no_terms-at-in-loop-i.ensures in
    let at = c.loop-i in
    let outside : term_kind (get_or c.args.order.now at.i 0) ≡ false = sym c.is_term.ensures ∙ c.if-is_term.false in
    let says = c.signed-sign.ensures in (
      rw (none.0, none.1, none.2)
          (sign_again c.requires.0 at.invariant.0 (omega arith) 0 (none_left c.requires.0 at.invariant.0 (omega arith) outside) outside (no_more at.chart at.lens says at.end at.code _ _ c.if-sign-many.true) refl),
      record { contacts = at.invariant.1.contacts; firsts = at.invariant.1.firsts; seconds = at.invariant.1.seconds; lengths = ap length (says.same c.if-sign-many.true).1 ∙ at.invariant.1.lengths },
      at.invariant.2,
    )

-- ---- the atoms have a place for one more, and the stack the words of two sets

pub bounds-chart-many : goal.bounds-chart-many
bounds-chart-many c = omega (arith, c.if-sign-ge-SEVENTEENTH.false, c.if-sign-many.false)

pub set_at-requires : goal.set_at-requires
set_at-requires c = omega (arith, never_full c.requires.0 c.loop-i.invariant.0, sets_count c.loop-i.stack)

pub set_at-requires-in-loop-i : goal.set_at-requires-in-loop-i
set_at-requires-in-loop-i c = omega (arith, never_full c.requires.0 c.loop-i.invariant.0, sets_count c.loop-i.stack)

pub offset_bounds-chart-many : goal.offset_bounds-chart-many
offset_bounds-chart-many c = omega (arith, c.if-sign-ge-SEVENTEENTH.false, c.if-sign-many.false)

pub bounds-chart-many-in-loop-i : goal.bounds-chart-many-in-loop-i
bounds-chart-many-in-loop-i c = omega (arith, c.if-sign-ge-SEVENTEENTH.false, c.if-sign-many.false)

pub set_at-requires-in-loop-i-2 : goal.set_at-requires-in-loop-i-2
set_at-requires-in-loop-i-2 c = omega (arith, never_full c.requires.0 c.loop-i.invariant.0, sets_count c.loop-i.stack)

pub offset_bounds-chart-many-in-loop-i : goal.offset_bounds-chart-many-in-loop-i
offset_bounds-chart-many-in-loop-i c = omega (arith, c.if-sign-ge-SEVENTEENTH.false, c.if-sign-many.false)

pub bounds-chart-many-in-loop-i-2 : goal.bounds-chart-many-in-loop-i-2
bounds-chart-many-in-loop-i-2 c = omega (arith, c.if-sign-ge-SEVENTEENTH.false, c.if-sign-many.false)

pub overflow_add-chart : goal.overflow_add-chart
overflow_add-chart c = omega (arith, c.if-sign-ge-SEVENTEENTH.false, c.if-sign-many.false)

pub overflow_step-i-in-loop-i : goal.overflow_step-i-in-loop-i
overflow_step-i-in-loop-i c = omega (arith, c.requires.0.short)

pub loop-i-smaller : goal.loop-i-smaller
loop-i-smaller c = omega (arith, c.requires.0.short)

pub loop-i-preserved : goal.loop-i-preserved
loop-i-preserved c =
    let none = c.no_terms-at-in-loop-i.ensures in
    let at = c.loop-i in
    let outside : term_kind (get_or c.args.order.now at.i 0) ≡ false = sym c.is_term.ensures ∙ c.if-is_term.false in
    let x-is = c.set_at.ensures in
    let y-is = c.set_at-in-loop-i.ensures in
    let says = c.signed-sign.ensures in
    let l : at.chart.atoms < 16 = omega (arith, c.if-sign-ge-SEVENTEENTH.false, c.if-sign-many.false) in
    let z = c.if-sign-many.false in (
      rw (none.0, none.1, none.2)
          (sign_again c.requires.0 at.invariant.0 (omega arith) 0 (none_left c.requires.0 at.invariant.0 (omega arith) outside) outside (one_more at.chart at.lens says at.end at.code _ _ z (omega arith) at.invariant.1.lengths
          (stored_grows at.invariant.1 l _ c.first_set.result c.second_set.result (c.first_set.ensures ∙ ap₂ (first_by (get_or c.args.order.now at.i 0)) x-is y-is) (c.second_set.ensures ∙ ap (second_by (get_or c.args.order.now at.i 0)) c.set_at-in-loop-i-2.ensures))) refl),
      stored_sized at.invariant.1 l _ _ _ (ap length (says.stored z l).2 ∙ length-set at.lens at.chart.atoms at.at.len),
      at.invariant.2,
    )

pub shape_of-code : goal.shape_of-code
shape_of-code c = c.loop-i.invariant.0.long

pub shape_of-stack : goal.shape_of-stack
shape_of-stack c = c.loop-i.invariant.2

pub returns : goal.returns
returns c =
    let at = c.loop-i in (
      subst (λ (r : CompiledRule). Compiles c.args.order.now c.args.numbers.now (atoms_with c.args.chart c.args.lens) c.args.kept.now c.args.code.now c.args.end (Some r) at.kept at.code) (sym c.whole.ensures)
          (finished at.invariant.0 (omega (arith, c.loop-i-test.false))),
      at.invariant.0.long,
    )
