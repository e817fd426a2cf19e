-- `table::Table::load` meets its contract: so far each line is judged and those that are not blank are held, the last one put in its place; a refused line ends the load, and the old table comes back. Assumes nothing.
use borrow.Enum.Refused.{opened}
use Prim.Native.Nat.{ℕ, ◌+◌}
use mathlib.Core.List.{List}
use mathlib.Core.Path.{◌≡◌, sym, subst, ◌∙◌}
use lib.ListN.{set, length-replicate}
use Rattle.table.specs.declared.Table.{Table}
use Rattle.ruleset.specs.declared.Known.{Known}
use Rattle.table.specs.declared.LoadAnswer.TheVariants as LoadAnswer
use Rattle.table.specs.Calls.{Loads}
use Rattle.table.specs.Steps.{load_result}
use Rattle.table.proofs.Lines.{put_table, table_with}
use Rattle.table.proofs.Refusals.{told_refused}
use Rattle.table.proofs.Results.{may_put, loaded_by}
use Rattle.table.proofs.Loading.{Progress, start, after_blank, after_added, line_refused, nothing_kept, something_kept, kept_table, too_long}
use native.Mathlib.Omega.{arith}
use Rattle.table.proofs.Table.load.Goals as goal
use Rattle.table.proofs.Table.load.Goals.{then-not-blank_line+in-Added, else-not-blank_line}

pub returns-then-file-gt-FILE : goal.returns-then-file-gt-FILE
returns-then-file-gt-FILE c =
    subst (Loads c.args.self c.args.file.now) (sym c.kept.ensures) (loaded_by c.args.self _ _ _ c.requires (too_long _ c.if-file-gt-FILE.true) c.requires.same)

pub loop-from-init : goal.loop-from-init
loop-from-init c = start _ _ _ _ c.if-file-gt-FILE.false c.empty-table.ensures.0 c.nothing_known-known.ensures (length-replicate {A = ℕ} 2048 0)

pub line_end-end-requires : goal.line_end-end-requires
line_end-end-requires c = c.loop-from-test.true

pub overflow_add-line : goal.overflow_add-line
overflow_add-line c = omega (arith, c.loop-from.invariant.lines, c.loop-from.invariant.within, c.loop-from.invariant.short)

pub slice_bounds-text-count : goal.slice_bounds-text-count
slice_bounds-text-count c = c.line_end-end.ensures.0

pub with_text-answer-requires : goal.with_text-answer-requires
with_text-answer-requires c = let inv = c.loop-from.invariant in record { rules = _; standing = inv.from_us.standing; known = inv.known }

pub returns-in_default : goal.returns-in_default
returns-in_default c =
    let at = c.loop-from in
    let cut = c.line_end-end.ensures in
    let filled = sym c.blank_line.ensures ∙ c.if-not-blank_line.true in
    subst (Loads c.args.self c.args.file.now) (sym c.kept-in_default.ensures)
    (loaded_by c.args.self _ _ _ c.requires
    (line_refused _ _ _ _ _ _ _ at.invariant c.loop-from-test.true cut.0 cut.1 cut.2 _ _ filled _ c.with_text-answer.ensures (told_refused _ (opened c.in_default.in_default-own.keys2)))
    c.requires.same)

pub line_of-last-requires : goal.line_of-last-requires
line_of-last-requires c =
    let inv = c.loop-from.invariant in
    (may_put _ _ _ _ _ _ _ inv.from_us inv.known c.with_text-answer.ensures c.in-Added.is).2

pub offset_bounds-table-count : goal.offset_bounds-table-count
offset_bounds-table-count c =
    let inv = c.loop-from.invariant in
    let few = (may_put _ _ _ _ _ _ _ inv.from_us inv.known c.with_text-answer.ensures c.in-Added.is).1 in
    omega (arith, few)

pub bounds-table-count : goal.bounds-table-count
bounds-table-count c =
    let inv = c.loop-from.invariant in
    let few = (may_put _ _ _ _ _ _ _ inv.from_us inv.known c.with_text-answer.ensures c.in-Added.is).1 in
    few

pub overflow_add-table : goal.overflow_add-table
overflow_add-table c =
    let inv = c.loop-from.invariant in
    let few = (may_put _ _ _ _ _ _ _ inv.from_us inv.known c.with_text-answer.ensures c.in-Added.is).1 in
    omega (arith, few)

pub overflow_add-from : goal.overflow_add-from
overflow_add-from c = omega (arith, c.line_end-end.ensures.1, c.loop-from.invariant.short)

pub loop-from-smaller : goal.loop-from-smaller
loop-from-smaller c = omega (arith, c.line_end-end.ensures.0, c.line_end-end.ensures.1)

pub loop-from-preserved : goal.loop-from-preserved
loop-from-preserved c =
    let at = c.loop-from in
    let file = c.args.file.now in
    let line = at.line + 1 in
    let from = c.line_end-end.result + 1 in
    let cut = c.line_end-end.ensures in
    let h = c.loop-from-test.true in
    elim c.if-not-blank_line.branch [
      | then-not-blank_line+in-Added w ↦
          let more = table_with (set at.table.lines at.table.count w.line_of-last.result) (at.table.count + 1) in
          let room = (may_put _ _ _ _ _ _ _ at.invariant.from_us at.invariant.known w.with_text-answer.ensures w.in-Added.is).1 in
          subst (λ (t : Table). Progress file t c.if-not-blank_line.known c.if-not-blank_line.symbols line from) (sym w.table-is)
          (subst (λ (x : Known). Progress file more x c.if-not-blank_line.symbols line from) (sym w.known-is)
          (subst (λ (x : List ℕ). Progress file more w.with_text-answer.new.known x line from) (sym w.symbols-is)
          (after_added _ _ _ _ _ _ _ at.invariant h cut.0 cut.1 cut.2 _ _ (sym c.blank_line.ensures ∙ w.if-not-blank_line.true) _ w.with_text-answer.ensures w.in-Added.is _
          (put_table at.table _ _ at.invariant.from_us w.line_of-last.ensures room))))
      | else-not-blank_line w ↦
          subst (λ (t : Table). Progress file t c.if-not-blank_line.known c.if-not-blank_line.symbols line from) (sym w.table-is)
          (subst (λ (x : Known). Progress file at.table x c.if-not-blank_line.symbols line from) (sym w.known-is)
          (subst (λ (x : List ℕ). Progress file at.table at.known x line from) (sym w.symbols-is)
          (after_blank _ _ _ _ _ _ _ at.invariant h cut.0 cut.1 cut.2 (sym c.blank_line.ensures ∙ w.if-not-blank_line.false))))
    ]

pub returns-then-table-le0 : goal.returns-then-table-le0
returns-then-table-le0 c =
    let same : c.kept-then-table-le0.result ≡ load_result c.args.self LoadAnswer.AllBlank = c.kept-then-table-le0.ensures in
    subst (Loads c.args.self c.args.file.now) (sym same)
    (loaded_by c.args.self _ _ _ c.requires (nothing_kept _ _ _ _ _ _ c.loop-from.invariant c.loop-from-test.false c.if-table-le0.true) c.requires.same)

pub returns : goal.returns
returns c =
    let end = c.loop-from-test.false in
    loaded_by c.args.self _ _ _ c.requires (something_kept _ _ _ _ _ _ c.loop-from.invariant end c.if-table-le0.false) (kept_table _ _ _ _ _ _ c.loop-from.invariant end)
