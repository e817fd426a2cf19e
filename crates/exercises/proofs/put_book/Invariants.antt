-- `exercises::put_book` meets its contract: so far the strings of at most m tokens are put. Assumes nothing.
use Rattle.exercises.specs.Book.{text}
use Rattle.lists.specs.Putting.{Puts}
use Rattle.exercises.proofs.put_book.Given as goal

abbrev pub invariant-loop-m : goal.invariant-loop-m
invariant-loop-m l = Puts 0 (text l.m) l.initial.out l.out l.end
