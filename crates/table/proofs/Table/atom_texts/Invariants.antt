-- `table::Table::atom_texts` meets its contract: so far the texts before place i are kept (Atoms.antt). Assumes nothing.
use Prim.Native.Nat.{◌-◌, ◌≤◌}
use Rattle.table.specs.Store.{rules_of}
use Rattle.table.specs.Calls.{formulas_of}
use Rattle.table.specs.AtomText.{atom_text_of}
use Rattle.table.proofs.Atoms.{KeptTo}
use Rattle.table.proofs.Table.atom_texts.Given as goal

abbrev pub invariant-loop-i : goal.invariant-loop-i
invariant-loop-i l = KeptTo (atom_text_of (formulas_of (rules_of l.self))) l.texts l.i
