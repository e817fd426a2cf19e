-- `pairing::contacts_of` meets its contract: so far the word is spelt from the first i atoms. Assumes nothing.
use Prim.Native.Nat.{◌-◌, ◌≤◌}
use Rattle.search.specs.Compiled.{contact_at}
use Rattle.pairing.specs.Words.{Spelt}
use Rattle.pairing.proofs.contacts_of.Given as goal

abbrev pub invariant-loop-i : goal.invariant-loop-i
invariant-loop-i l = Spelt l.i (contact_at l.chart) l.k
