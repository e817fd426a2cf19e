-- `search::piece` meets its contract: the set grows until each of it was looked at, and each turn looks at one more. Assumes nothing.
use mathlib.Core.Bool.{Bool}
use mathlib.Core.Path.{◌≡◌, sym, ap, ◌∙◌, subst, subst₂}
use mathlib.Core.List.{List}
use mathlib.Mathlib.Logic.Function.Defs.{congr_fun}
use Prim.Native.Nat.{ℕ, ◌<◌}
use native.Mathlib.Omega.{arith}
use Rattle.lists.specs.Search.{first, below}
use Rattle.lists.proofs.Below.{Least}
use Rattle.evalset.specs.Sets.{room, mem, join_of, minus_of, add_of, found_of}
use Rattle.evalset.proofs.Members.{names_room}
use Rattle.evalset.proofs.Walk.{found_least, found_nothing}
use Rattle.squares.specs.Square.{square_at}
use Rattle.contact.specs.Plan.{Mark}
use Rattle.search.proofs.Fitting.{allowed_low}
use Rattle.search.proofs.Growing.{Growing, unseen, unseen_less, add_own, join_own, fresh, grow_start, grow_on, grow_ends}
use Rattle.search.proofs.piece.Goals as goal

-- what grows, by the sets' members
growing : {names e : ℕ} {ms : List Mark} {piece looked more seen : ℕ → Bool} → piece ≡ more → looked ≡ seen → Growing names ms e piece looked
    → Growing names ms e more seen
growing {names} {e} {ms} p q g = subst₂ (Growing names ms e) p q g

pub loop-p-init : goal.loop-p-init
loop-p-init c =
    let looked = c.empty-looked.ensures in
    let piece = c.insert-piece.ensures ∙ ap (λ (set : ℕ → Bool). add_of set c.args.e) looked in (
      λ l. add_own _ _ piece l,
      λ names few ms f ok. growing (sym piece) (sym looked) (grow_start names ms _),
    )

pub returns : goal.returns
returns c =
    let loop = c.loop-p in
    record {
      own = loop.invariant.0;
      whole = λ names few ms f ok.
          grow_ends names few _ ms f _ ok _ _ (loop.invariant.1 names few ms f ok)
          (loop.invariant.0 (omega (arith, allowed_low names ms _ ok, names_room names few)))
          (found_nothing _ room
          (ap (λ (p : ℕ → Bool). found_of (first p (below room))) (sym c.minus.ensures)
          ∙ sym c.least.ensures ∙ c.in_default.is));
    }

-- `taken`: the evaluation that is looked at: the least that was not
pub loop-p-smaller : goal.loop-p-smaller
loop-p-smaller c =
    let taken : let loop = c.loop-p in Least room c.in-Some.p (minus_of (mem loop.piece) (mem loop.looked)) = found_least _ room _
    (ap (λ (p : ℕ → Bool). found_of (first p (below room))) (sym c.minus.ensures)
    ∙ sym c.least.ensures ∙ c.in-Some.is) in
    let t = taken in
    let loop = c.loop-p in
    subst (λ (set : ℕ → Bool). unseen set < unseen (mem loop.looked)) (sym c.insert-looked.ensures)
    (unseen_less (mem loop.looked) _ t.within (fresh (mem loop.piece) (mem loop.looked) _ t.passes).1)

pub loop-p-preserved : goal.loop-p-preserved
loop-p-preserved c =
    let taken : let loop = c.loop-p in Least room c.in-Some.p (minus_of (mem loop.piece) (mem loop.looked)) = found_least _ room _
    (ap (λ (p : ℕ → Bool). found_of (first p (below room))) (sym c.minus.ensures)
    ∙ sym c.least.ensures ∙ c.in-Some.is) in
    let a = c.args in
    let t = taken in
    let loop = c.loop-p in
    let near : ℕ → Bool = minus_of (mem a.allowed) (square_at a.rows.now c.in-Some.p) in
    let piece : mem c.join-piece.result ≡ join_of (mem loop.piece) near =
    c.join-piece.ensures ∙ ap (join_of (mem loop.piece))
    (c.minus-in-Some.ensures ∙ ap (minus_of (mem a.allowed)) c.row_at-r.ensures) in (
      λ l. congr_fun piece _ ∙ join_own (mem loop.piece) near a.e (loop.invariant.0 l),
      λ names few ms f ok.
          growing (sym piece) (sym c.insert-looked.ensures)
          (grow_on names few _ ms f _ ok (mem loop.piece) (mem loop.looked) (loop.invariant.1 names few ms f ok) _
          (fresh (mem loop.piece) (mem loop.looked) _ t.passes).0),
    )
