-- `plan::reached` meets its contract: no row so far reaches ys. Assumes nothing.
use native.Mathlib.Omega.{arith}
use Prim.Native.Nat.{ℕ}
use mathlib.Core.Path.{◌≡◌, sym, ap, ◌∙◌}
use mathlib.Core.Bool.{Bool}
use mathlib.Core.List.{List}
use lib.ListN.{get_or}
use Rattle.evalset.specs.Sets.{mem}
use Rattle.squares.specs.Square.{square_at}
use Rattle.plan.specs.Private.{reaches_of, reached_of}
use Rattle.plan.proofs.Positions.{reached_none, reached_more, reached_here}
use Rattle.plan.proofs.reached.Goals as goal

-- whether row k reaches ys
here : (square points : List ℕ) (k : ℕ) (row x ys : ℕ → Bool) (r : Bool) → r ≡ reaches_of row (get_or points k 0) x ys → row ≡ square_at square k
    → reaches_of (square_at square k) (get_or points k 0) x ys ≡ r
here square points k row x ys r e f = sym (e ∙ ap (λ (row : ℕ → Bool). reaches_of row (get_or points k 0) x ys) f)

pub loop-a-init : goal.loop-a-init
loop-a-init c = reached_none _ _ _ _

pub returns-then-reaches : goal.returns-then-reaches
returns-then-reaches c =
    let a = c.args in
    let k = c.loop-a.a in
    sym (reached_here a.points (square_at a.square.now) (mem a.x) (mem a.ys) a.n k (omega arith)
    (here a.square.now a.points k _ (mem a.x) (mem a.ys) _ c.reaches.ensures c.row_at-row.ensures ∙ c.if-reaches.true))

pub loop-a-preserved : goal.loop-a-preserved
loop-a-preserved c =
    let a = c.args in
    let k = c.loop-a in
    reached_more a.points (square_at a.square.now) (mem a.x) (mem a.ys) k.a k.invariant (here a.square.now a.points k.a _ (mem a.x) (mem a.ys) _ c.reaches.ensures c.row_at-row.ensures ∙ c.if-reaches.false)

pub returns : goal.returns
returns c =
    let a = c.args in
    let k = c.loop-a in
    let z : k.a ≡ a.n = omega arith in
    sym k.invariant ∙ ap (λ (m : ℕ). reached_of m a.points (square_at a.square.now) (mem a.x) (mem a.ys)) z
