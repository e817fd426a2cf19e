-- `clashes::put_set` meets its contract: so far the lines of the rules before place i are put (Lines.antt). Assumes nothing.
use Rattle.table.specs.Store.{rules_of}
use Rattle.table.specs.Calls.{formulas_of}
use Rattle.clashes.proofs.Lines.{PutTo}
use Rattle.clashes.proofs.put_set.Given as goal

abbrev pub invariant-loop-i : goal.invariant-loop-i
invariant-loop-i l = PutTo l.numbers (formulas_of (rules_of l.table)) l.set l.initial.out l.out l.end l.i
