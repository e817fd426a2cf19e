-- `compile::term_passed` meets its contract: what each function answers is what the contract says. Assumes nothing.
use mathlib.Core.Path.{refl, ap₂, ◌∙◌}
use native.Mathlib.Omega.{arith}
use Rattle.compile.specs.Kinds.{set_by}
use Rattle.compile.proofs.Steps.{one_at_most}
use Rattle.compile.proofs.term_passed.Goals as goal

pub overflow_add-result-3 : goal.overflow_add-result-3
overflow_add-result-3 c = omega (arith, c.names_of_kind.ensures, one_at_most c.args.kind)

pub returns : goal.returns
returns c =
    let number = c.number_at-number in
    let less = c.taken.ensures in
    let puts = c.put_set.ensures in
    record {
      puts = rw (← less, ← number.ensures)
          (record {
            written = puts.written;
            members = puts.members ∙ c.term_set.ensures ∙ ap₂ (set_by c.args.kind number.result) c.set_at-x.ensures c.set_at-y.ensures;
            stored = puts.stored;
            long = puts.long;
          });
      shown = rw (← number.ensures, ← c.symbol.ensures);
      higher = rw (← less);
      longer = refl;
      further = rw (← c.names_of_kind.ensures);
    }
