-- `exercises::put_walk` meets its contract: the lines of each branch are put behind those of the branches before it. Assumes nothing.
use mathlib.Core.Path.{◌≡◌, sym, ap, ◌∙◌}
use mathlib.Core.Bool.{Bool, true, false}
use mathlib.Core.List.{List, [], ◌∷◌}
use Prim.Native.Nat.{ℕ, ◌-◌, ◌≤◌}
use native.Mathlib.Omega.{arith}
use lib.Dec.{eqb}
use lib.ListN.{length, get_or, length-append}
use lib.Seq.{take_all}
use Rattle.lists.specs.Search.{collect}
use Rattle.lists.proofs.Putting.{puts_none, puts_text}
use Rattle.exercises.specs.Lines.{line}
use Rattle.exercises.specs.Book.{begun, walk}
use Rattle.exercises.specs.Next.{awaiting, nexts}
use Rattle.exercises.proofs.Next.{kept_lines}
use Rattle.exercises.proofs.Branches.{branch, begun_text, unbegun_text, branch_fits, branch_puts}
use Rattle.exercises.proofs.+put_walk.Goals as goal

-- the lines are those of the tokens that may come
all_lines : (left : ℕ) (ks ts : List ℕ) → (left ≡ 0 → ⊥) → true ≡ begun ks → ts ≡ nexts (awaiting true ks) (eqb left 1)
    → collect line (walk left ks) ≡ collect (branch left ks) ts
all_lines left ks ts h b e = begun_text left ks h b ∙ kept_lines left ks ts e

pub returns-then-not-is_begun : goal.returns-then-not-is_begun
returns-then-not-is_begun t c =
    let a = c.args in
    let e : false ≡ begun a.ks.now = sym c.if-not-is_begun.true ∙ c.is_begun.ensures in
    puts_text (sym (unbegun_text a.left a.ks.now c.if-left-eq0.false e)) (puts_none a.at a.out.now (omega (arith, c.requires.1)))

pub loop-k-init : goal.loop-k-init
loop-k-init t c = puts_none c.args.at c.args.out.now (omega (arith, c.requires.1))

pub put_walk-end-requires : goal.put_walk-end-requires
put_walk-end-requires t c =
    let a = c.args in
    let k = c.loop-k in
    let next = c.longer-next.ensures in
    let f = branch_fits a.left a.ks.now c.next_tokens-nexts.result.now k.k-index c.loop-k-test.true k.invariant
    (omega (
      arith,
      c.requires.1,
      ap length (all_lines a.left a.ks.now _ c.if-left-eq0.false (sym c.if-not-is_begun.false ∙ c.is_begun.ensures)
          (c.next_tokens-nexts.ensures ∙ ap (λ (b : Bool). nexts b (eqb a.left 1)) c.awaiting.ensures)),
    )) in (
      omega (arith, c.decreases),
      (
        omega (arith, c.requires.0, ap length next, length-append a.ks.now (get_or c.next_tokens-nexts.result.now k.k-index 0 ∷ [])),
        omega (arith, f, ap (λ (l : List ℕ). length (collect line (walk (a.left - 1) l))) next),
      ),
    )

pub loop-k-preserved : goal.loop-k-preserved
loop-k-preserved t c =
    let a = c.args in
    let k = c.loop-k in
    branch_puts a.left a.ks.now c.next_tokens-nexts.result.now k.k-index c.loop-k-test.true k.invariant
    (puts_text (ap (λ (l : List ℕ). collect line (walk (a.left - 1) l)) c.longer-next.ensures) c.put_walk-end.ensures)

pub returns : goal.returns
returns t c =
    let a = c.args in
    let k = c.loop-k in
    let ts : List ℕ = c.next_tokens-nexts.result.now in
    let all = all_lines a.left a.ks.now ts c.if-left-eq0.false (sym c.if-not-is_begun.false ∙ c.is_begun.ensures)
    (c.next_tokens-nexts.ensures ∙ ap (λ (b : Bool). nexts b (eqb a.left 1)) c.awaiting.ensures) in
    puts_text (ap (collect (branch a.left a.ks.now)) (take_all k.k-index ts (omega arith)) ∙ sym all) k.invariant
