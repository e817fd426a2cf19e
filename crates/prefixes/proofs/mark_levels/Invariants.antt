-- `prefixes::mark_levels` meets its contract: the rows of one atom more come after those of m atoms. Assumes nothing.
use Prim.Native.Nat.{◌^◌}
use Rattle.prefixes.specs.Filled.{Fills}
use Rattle.prefixes.proofs.mark_levels.Given as goal

abbrev pub invariant-loop-m : goal.invariant-loop-m
invariant-loop-m l = Fills l.list l.contacts l.n 1 (2 ^ l.m) l.initial.bits l.bits
