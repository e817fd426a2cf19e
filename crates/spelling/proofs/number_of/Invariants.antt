-- `spelling::number_of` meets its contract: the atom's place among those that are left is its place among all (Scan.antt). Assumes
-- nothing.
use Rattle.spelling.proofs.Scan.{Passed}
use Rattle.spelling.proofs.number_of.Given as goal

abbrev pub invariant-loop-j : goal.invariant-loop-j
invariant-loop-j l = Passed l.kept l.lens l.contacts l.many l.row l.len l.contact l.j
