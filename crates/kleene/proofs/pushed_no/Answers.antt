-- `kleene::pushed_no` meets its contract: an atom's word, every bit, or no bit.
-- Assumes nothing.
use mathlib.Core.Path.{◌≡◌, sym, ap, ◌∙◌}
use native.Mathlib.Omega.{arith}
use borrow.Author.Tests.{lt-ltb}
use Rattle.evalset.proofs.Bits.{bit_none, bit_ones}
use Rattle.kleene.specs.Rails.{no_of, push_of, word_rows, rails_at}
use Rattle.kleene.proofs.Turns.{push_atom}
use Rattle.kleene.proofs.pushed_no.Goals as goal

pub returns-then-c-gt6 : goal.returns-then-c-gt6
returns-then-c-gt6 c = λ ts e l. sym (ap no_of (push_atom (rails_at ts c.args.no.now e) _ (omega arith)))

pub returns-then-c-eq5 : goal.returns-then-c-eq5
returns-then-c-eq5 c = λ ts e l.
    bit_ones word_rows e ∙ lt-ltb e word_rows l
    ∙ sym (ap (λ i. no_of (push_of (rails_at ts c.args.no.now e) i)) c.if-c-eq5.true)

pub returns-else-c-eq5 : goal.returns-else-c-eq5
returns-else-c-eq5 c = λ ts e l.
    let six : c.args.c ≡ 6 = omega arith in
    bit_none e ∙ sym (ap (λ i. no_of (push_of (rails_at ts c.args.no.now e) i)) six)
