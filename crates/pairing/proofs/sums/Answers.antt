-- `pairing::sums` meets its contract: the sums of so many words, by their number. Assumes nothing.
use mathlib.Core.Path.{◌≡◌}
use native.Mathlib.Omega.{arith}
use Rattle.pairing.proofs.Subsets.{sums_zero}
use Rattle.pairing.proofs.sums.Goals as goal

pub returns-in-0 : goal.returns-in-0
returns-in-0 c = rw c.in-0.is (sums_zero 0 _)

pub returns-in-1 : goal.returns-in-1
returns-in-1 c = rw c.in-1.is c.sums_one.ensures

pub returns-in-2 : goal.returns-in-2
returns-in-2 c = rw c.in-2.is c.sums_two.ensures

pub returns-in-3 : goal.returns-in-3
returns-in-3 c = rw c.in-3.is c.sums_three.ensures

pub returns-in-4 : goal.returns-in-4
returns-in-4 c = rw c.in-4.is c.sums_four.ensures

pub returns-in-5 : goal.returns-in-5
returns-in-5 c = rw c.in-5.is c.sums_five.ensures

pub returns-in-6 : goal.returns-in-6
returns-in-6 c = rw c.in-6.is c.sums_six.ensures

pub returns-in-7 : goal.returns-in-7
returns-in-7 c = rw c.in-7.is c.sums_seven.ensures

pub returns-in-8 : goal.returns-in-8
returns-in-8 c = rw c.in-8.is c.sums_eight.ensures

pub returns-in-9 : goal.returns-in-9
returns-in-9 c = rw c.in-9.is c.sums_nine.ensures

pub returns-in_default : goal.returns-in_default
returns-in_default c =
    let z : c.args.d ≡ 10 = omega arith in
    rw z c.sums_ten.ensures
