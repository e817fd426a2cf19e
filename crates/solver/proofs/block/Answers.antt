-- `solver::block` meets its contract: where no word is left there is no row, and else the table is made of all words of pairs. Assumes nothing.
use mathlib.Core.Path.{ap, ◌∙◌}
use Prim.Native.Nat.{ℕ}
use native.Mathlib.Omega.{arith}
use Rattle.evalset.proofs.Bits.{bit_none}
use Rattle.evalset.specs.Bit.{bit}
use Rattle.solver.specs.Tree.{WordsTested}
use Rattle.solver.proofs.Places.{row_small}
use Rattle.solver.proofs.Under.{rows_judged}
use Rattle.solver.proofs.Steps.{walk_starts, walk_ends}
use Rattle.solver.proofs.block.Goals as goal

pub returns-then-words-eq0 : goal.returns-then-words-eq0
returns-then-words-eq0 c =
    let a = c.args in
    let words = c.words_left-words in (
      c.requires.3,
      λ g serving. walk_ends (λ h. WordsTested h a.upper.now a.row) a.cut.k a.row a.cut.w a.cut.r words.result
          (words.ensures.1 _) _ _ (walk_starts _ _ _ _ _ _) (omega arith) (λ j l m. ap (λ (x : ℕ). bit x j) c.if-words-eq0.true ∙ bit_none j) g,
    )

pub judged-table-requires : goal.judged-table-requires
judged-table-requires c =
    (omega arith, omega arith, row_small c.args.cut.k _ (omega arith) c.requires.2, c.requires.1.fits.contacts_fit)

pub returns : goal.returns
returns c =
    let p = c.requires in (
      c.in_words.ensures.0,
      λ g serving tests. c.in_words.ensures.1 g (
        rows_judged g _ p.1 serving _ _ p.2 c.judged-table.ensures.1,
        c.words_left-words.ensures.1 _ g tests,
      ),
    )
