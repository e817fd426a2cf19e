-- `kleene::pushed` meets its contract: an atom's word, no bit, or every bit.
-- Assumes nothing.
use mathlib.Core.Path.{◌≡◌, sym, ap, ◌∙◌}
use native.Mathlib.Omega.{arith}
use borrow.Author.Tests.{lt-ltb}
use Rattle.evalset.proofs.Bits.{bit_none, bit_ones}
use Rattle.kleene.specs.Rails.{sure, push_of, word_rows, whole_at}
use Rattle.kleene.proofs.Turns.{push_atom}
use Rattle.kleene.proofs.pushed.Goals as goal

pub returns-then-c-gt6 : goal.returns-then-c-gt6
returns-then-c-gt6 c = λ e l. sym (push_atom (whole_at c.args.leaves.now e) _ (omega arith))

pub returns-then-c-eq5 : goal.returns-then-c-eq5
returns-then-c-eq5 c = λ e l.
    ap sure (bit_none e) ∙ sym (ap (push_of (whole_at c.args.leaves.now e)) c.if-c-eq5.true)

pub returns-else-c-eq5 : goal.returns-else-c-eq5
returns-else-c-eq5 c = λ e l.
    let six : c.args.c ≡ 6 = omega arith in
    ap sure (bit_ones word_rows e ∙ lt-ltb e word_rows l) ∙ sym (ap (push_of (whole_at c.args.leaves.now e)) six)
