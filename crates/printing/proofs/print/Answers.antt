-- `printing::print` meets its contract: the rule's formula ends with its order. Assumes nothing.
use mathlib.Core.Path.{subst}
use mathlib.Core.List.{List}
use Prim.Native.Nat.{ℕ}
use Rattle.printing.specs.Prints.{Prints}
use Rattle.printing.proofs.Whole.{whole_text, whole_ends}
use Rattle.printing.proofs.print.Goals as goal

pub print_to-requires : goal.print_to-requires
print_to-requires c = (c.requires, whole_ends c.args.text.now c.args.rule c.requires)

pub returns : goal.returns
returns c =
    let call = c.print_to in
    subst (λ (ws : List ℕ). Prints ws c.args.buffer.now call.result call.new.buffer) (whole_text c.args.text.now c.args.rule c.requires) call.ensures
