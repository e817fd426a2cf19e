-- `solver::in_word` meets its contract: all rows are those of the word under the row of no atoms. Assumes nothing.
use mathlib.Core.Path.{◌≡◌, refl, subst}
use Prim.Native.Nat.{ℕ, ◌+◌, ◌*◌, ◌^◌}
use native.Mathlib.Omega.{arith}
use lib.Pow.{pow_pos}
use Rattle.solver.specs.Tree.{Finds}
use Rattle.solver.proofs.Under.{rows_judged}
use Rattle.solver.proofs.in_word.Goals as goal

pub word-requires : goal.word-requires
word-requires c =
    (c.requires.0, c.requires.1.fits, pow_pos c.args.cut.k, pow_pos c.args.cut.w, (c.word_leaves-leaves.ensures, refl), c.requires.3)

pub returns : goal.returns
returns c = λ g serving.
    let cut = c.args.cut in
    let start : 0 * 2 ^ cut.w + 0 ≡ 0 = omega arith in
    let all : cut.r ≡ cut.k + (cut.w + cut.r) = omega (arith, c.requires.2) in
    subst (λ (x : ℕ). Finds g 0 0 x c.word.result) all
    (subst (λ (x : ℕ). Finds g x 0 cut.r c.word.result) c.requires.2
    (subst (λ (x : ℕ). Finds g (cut.k + cut.w) x cut.r c.word.result) start
    (c.word.ensures.1 g (rows_judged g _ c.requires.1 serving _ 0 (pow_pos cut.k) c.judged-table.ensures.1))))
