-- `squares::join_row` meets its contract: each word of the row takes in the set's.
-- Assumes nothing.
use mathlib.Core.Path.{◌≡◌, sym, subst}
use Prim.Native.Nat.{ℕ}
use native.Mathlib.Omega.{arith}
use Rattle.evalset.specs.Sets.{mem}
use Rattle.squares.proofs.Rows.{within, some_word, JoinedTo, joined_next, joined_row}
use Rattle.squares.proofs.join_row.Goals as goal

pub loop-k-preserved : goal.loop-k-preserved
loop-k-preserved c =
    let a = c.args in
    let inside = within a.ws.now a.p c.wide-n.result (sym c.wide-n.ensures) c.requires.1 in
    joined_next c.wide-n.result a.p (mem a.s) a.ws.now c.loop-k.k c.word_of.result c.loop-k.ws (omega (arith, inside)) c.word_of.ensures c.loop-k.invariant

pub returns : goal.returns
returns c =
    let a = c.args in
    let n = c.wide-n.result in
    let all : c.loop-k.k ≡ n = omega arith in
    joined_row n a.p (mem a.s) a.ws.now c.loop-k.ws (sym c.wide-n.ensures) (omega (arith, c.wide-n.ensures, some_word a.ws.now))
    (subst (λ (k : ℕ). JoinedTo n a.p (mem a.s) k a.ws.now c.loop-k.ws) all c.loop-k.invariant)
