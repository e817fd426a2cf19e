-- `search::pair_of` meets its contract: the first evaluation with a partner is the least such, and its partner is the least.
-- Assumes nothing.
use mathlib.Core.Bool.{Bool}
use mathlib.Core.Path.{◌≡◌, sym, ap, ◌∙◌, subst}
use mathlib.Mathlib.Logic.Function.Defs.{congr_fun}
use Prim.Native.Nat.{ℕ, ◌+◌, ◌<◌}
use borrow.Author.Count.{below_none}
use Rattle.lists.proofs.Below.{any_at, any_none}
use Rattle.lists.specs.Search.{first, below}
use Rattle.evalset.specs.Sets.{room, mem, minus_of, add_of, found_of}
use Rattle.evalset.proofs.Walk.{from_zero, Step, step, stop, found_least, found_nothing}
use Rattle.squares.specs.Square.{square_at}
use Rattle.search.proofs.Finding.{left_over, left_drop}
use Rattle.search.proofs.Walks.{starts_alone, starts_yes, walk_on, walk_found, walk_ends, pair_found, pair_none}
use Rattle.search.proofs.pair_of.Goals as goal

pub loop-p-init : goal.loop-p-init
loop-p-init c = (0, from_zero _, below_none _)

-- `partner`: the least of its partners
-- `taken`: the evaluation that was taken
pub returns-in-Some-least : goal.returns-in-Some-least
returns-in-Some-least c =
    let taken : Step room c.loop-p.invariant.0 c.in-Some.p (mem c.args.first) (mem c.loop-p.rest) = step room _ _ _ c.loop-p.invariant.1 _
    (sym c.least.ensures ∙ c.in-Some.is) in
    let partner : let a = c.args in c.least-in-Some.result ≡ found_of (first (minus_of (mem a.second) (square_at a.rows.now c.in-Some.p)) (below room)) = let a = c.args in
    c.least-in-Some.ensures
    ∙ ap (λ (p : ℕ → Bool). found_of (first p (below room))) (c.minus.ensures ∙ ap (minus_of (mem a.second)) c.row_at-r.ensures) in
    λ e.
    let x = c in
    let t = taken in
    let p = x.in-Some.p in
    let q = c.in-Some-least.q in
    let least = found_least _ room q (sym partner ∙ c.in-Some-least.is) in
    congr_fun (c.insert-in-Some-least.ensures
    ∙ ap (λ (s : ℕ → Bool). add_of s p)
    (c.insert.ensures ∙ ap (λ (s : ℕ → Bool). add_of s q) x.empty-none.ensures)) e
    ∙ pair_found _ _ _ p q
    (walk_found _ _ _ _ _ _ t x.loop-p.invariant.2
    (starts_yes _ _ _ p t.passes (any_at _ room q least.within least.passes))) least e

pub loop-p-smaller : goal.loop-p-smaller
loop-p-smaller c =
    let found = found_least (mem c.loop-p.rest) room c.in-Some.p (sym c.least.ensures ∙ c.in-Some.is) in
    subst (λ (set : ℕ → Bool). left_over set < left_over (mem c.loop-p.rest)) (sym c.without-rest.ensures)
    (left_drop (mem c.loop-p.rest) c.in-Some.p found.within found.passes)

pub loop-p-preserved : goal.loop-p-preserved
loop-p-preserved c =
    let taken : Step room c.loop-p.invariant.0 c.in-Some.p (mem c.args.first) (mem c.loop-p.rest) = step room _ _ _ c.loop-p.invariant.1 _
    (sym c.least.ensures ∙ c.in-Some.is) in
    let partner : let a = c.args in c.least-in-Some.result ≡ found_of (first (minus_of (mem a.second) (square_at a.rows.now c.in-Some.p)) (below room)) = let a = c.args in
    c.least-in-Some.ensures
    ∙ ap (λ (p : ℕ → Bool). found_of (first p (below room))) (c.minus.ensures ∙ ap (minus_of (mem a.second)) c.row_at-r.ensures) in
    let t = taken in (
      c.in-Some.p + 1,
      c.without-rest.ensures ∙ t.rest,
      walk_on _ _ _ _ _ _ t c.loop-p.invariant.2
          (starts_alone _ _ _ _
          (any_none _ room (found_nothing _ room (sym partner ∙ c.in_default-least.is)))),
    )

pub returns : goal.returns
returns c = λ e.
    let loop = c.loop-p in
    congr_fun c.empty-none.ensures e
    ∙ pair_none _ _ _ (walk_ends _ _ _ loop.invariant.0 loop.invariant.2
    (stop room loop.invariant.0 _ _ loop.invariant.1 (sym c.least.ensures ∙ c.in_default.is))) e
