-- `solver::word` meets its contract: the rows that the rules leave are tested by the table, whose test of a row is its check. Assumes nothing.
use mathlib.Core.Path.{refl, ◌∙◌, subst}
use Prim.Native.Nat.{ℕ, ◌+◌, ◌*◌, ◌%◌, ◌^◌, ◌<◌}
use native.Mathlib.Omega.{arith}
use Rattle.solver.specs.Tree.{Finds, ChosenSays}
use Rattle.solver.proofs.Places.{row_small, start_is, start_small, next_is, next_fits, low_small}
use Rattle.solver.proofs.Under.{tested_below, word_first}
use Rattle.solver.proofs.word.Goals as goal

-- `fits`: the word's row, and its first
pub overflow_add-next : goal.overflow_add-next
overflow_add-next c =
    let fits : let a = c.args in (a.row * 2 ^ a.cut.w) % 18446744073709551616 + a.e < 2 ^ (a.cut.k + a.cut.w) = next_fits c.args.cut.k c.args.cut.w c.args.row (omega arith) c.requires.2 c.args.e c.requires.3 in
    omega (arith, row_small (c.args.cut.k + c.args.cut.w) _ (omega arith) fits)

pub tested-passing-requires : goal.tested-passing-requires
tested-passing-requires c =
    let fits : let a = c.args in (a.row * 2 ^ a.cut.w) % 18446744073709551616 + a.e < 2 ^ (a.cut.k + a.cut.w) = next_fits c.args.cut.k c.args.cut.w c.args.row (omega arith) c.requires.2 c.args.e c.requires.3 in
    let small : let a = c.args in ((((a.row * 2 ^ a.cut.w) % 18446744073709551616) + a.e) * 2 ^ a.cut.r) % 18446744073709551616 < 4294967232 = start_small (c.args.cut.k + c.args.cut.w) c.args.cut.r _ (omega arith) fits in
    (low_small (c.args.cut.w + c.args.cut.r) _ (omega arith) c.low_bits-low.ensures, small)

pub chosen-requires : goal.chosen-requires
chosen-requires c =
    let fits : let a = c.args in (a.row * 2 ^ a.cut.w) % 18446744073709551616 + a.e < 2 ^ (a.cut.k + a.cut.w) = next_fits c.args.cut.k c.args.cut.w c.args.row (omega arith) c.requires.2 c.args.e c.requires.3 in
    let small : let a = c.args in ((((a.row * 2 ^ a.cut.w) % 18446744073709551616) + a.e) * 2 ^ a.cut.r) % 18446744073709551616 < 4294967232 = start_small (c.args.cut.k + c.args.cut.w) c.args.cut.r _ (omega arith) fits in
    (small, c.requires.5)

pub returns : goal.returns
unfolding ChosenSays
returns c =
    let fits : let a = c.args in (a.row * 2 ^ a.cut.w) % 18446744073709551616 + a.e < 2 ^ (a.cut.k + a.cut.w) = next_fits c.args.cut.k c.args.cut.w c.args.row (omega arith) c.requires.2 c.args.e c.requires.3 in
    let a = c.args in
    let cut = a.cut in
    let z = next_is cut.k cut.w a.row (omega arith) c.requires.2 a.e c.requires.3 in
    let set = c.whole_candidates-set in (
      (set.ensures.0, set.ensures.1),
      λ g tests. subst (λ (n : ℕ). Finds g (cut.k + cut.w) n cut.r c.chosen.result) z
          (c.chosen.ensures g.atoms g.compiled
          ∙ word_first g (cut.k + cut.w) _ cut.r _ _ _ _ (tested_below g _ _ _ _ cut.k a.row cut.w cut.r tests a.e _ _ c.requires.3 refl z) _ _
          c.low_bits-low.ensures (start_is (cut.k + cut.w) cut.r _ (omega arith) fits) (omega arith) fits g.counted set.result _
          set.ensures.2 c.tested-passing.ensures),
    )
