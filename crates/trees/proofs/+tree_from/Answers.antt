-- `trees::tree_from` meets its contract: the machine goes from the branch to where its tree ends, whatever branches come after it.
-- Assumes nothing.
use mathlib.Core.Path.{subst}
use native.Mathlib.Omega.{arith}
use Rattle.std.proofs.lemmas.Result.{err_from_is_err_and}
use Rattle.trees.specs.Branch.{SplitSays}
use Rattle.trees.proofs.Steps.{reached_end, reached_wrong, reached_close, reached_first, reached_second, moves_both}
use Rattle.trees.proofs.+tree_from.Goals as goal

pub returns-then-at-words : goal.returns-then-at-words
returns-then-at-words t c = let p = c.requires in (p.2, p.3, tt, reached_end _ _ _ _ _ _ p.1 _ _ c.if-at-words.true)

pub returns-then-closes : goal.returns-then-closes
returns-then-closes t c =
    let p = c.requires in
    let l = c.if-at-words.false in (
      c.closes.ensures.0,
      c.closes.ensures.1,
      (omega arith, omega (arith, l, p.4)),
      reached_close _ _ _ _ _ _ p.1 _ _ (omega (arith, l, p.4)) (subst (SplitSays _ _ _) c.in_default.is c.split_bit.ensures) _ c.if-closes.true c.closes.ensures.2,
    )

pub returns-in_default : goal.returns-in_default
returns-in_default t c =
    let p = c.requires in
    let l = c.if-at-words.false in (
      c.closes.ensures.0,
      c.closes.ensures.1,
      tt,
      reached_wrong _ _ _ _ _ _ p.1 _ _ (omega (arith, l, p.4)) (subst (SplitSays _ _ _) c.in_default.is c.split_bit.ensures) _ c.if-closes.false c.closes.ensures.2,
    )

pub returns-in_err-middle : goal.returns-in_err-middle
returns-in_err-middle t c =
    let p = c.requires in
    let l = c.if-at-words.false in
    let e = c.in_err-middle.ensures in
    let q = err_from_is_err_and c.from_residual.result c.from_residual.ensures.1 in
    rw (q.1, q.2) (
      e.0,
      e.1,
      tt,
      reached_first _ _ _ _ _ _ p.1 _ _ (omega (arith, l, p.4)) _ c.in-Some.ensures _ e.3,
    )

pub returns : goal.returns
returns t c =
    let p = c.requires in
    let l = c.if-at-words.false in
    let e = c.in_ok-middle.ensures in
    let d = c.tree_from-2.ensures in (
      d.0,
      d.1,
      moves_both _ _ _ c.tree_from-2.result e.2 d.2,
      reached_second _ _ _ _ _ _ p.1 _ _ (omega (arith, l, p.4)) _ c.in-Some.ensures _ e.3 _ d.3,
    )
