-- `search::first_piece` meets its contract: each piece that is tried is that of the least evaluation left. Assumes nothing.
use mathlib.Core.Bool.{Bool}
use mathlib.Core.Path.{◌≡◌, sym, ◌∙◌, subst}
use mathlib.Core.List.{List}
use Prim.Native.Nat.{ℕ, ◌<◌}
use Rattle.formula.specs.Formula.{Atom}
use Rattle.lists.specs.Search.{all, elem}
use Rattle.lists.proofs.Below.{Least}
use Rattle.evalset.specs.Sets.{room, mem}
use Rattle.evalset.proofs.Walk.{found_least, found_nothing}
use Rattle.contact.specs.Plan.{met}
use Rattle.contact.specs.Pieces.{whole_piece}
use Rattle.contact.proofs.Pieces.{piece_allowed}
use Rattle.search.specs.Compiled.{Compiled, state, Fit}
use Rattle.search.specs.Planned.{marks_in}
use Rattle.search.specs.Building.{MetSays, FoundSays}
use Rattle.search.proofs.Finding.{left_over, left_less, Sought, sought_start, sought_on, sought_found, sought_none}
use Rattle.search.proofs.first_piece.Goals as goal

pub loop-e-init : goal.loop-e-init
loop-e-init c = λ atoms h f. sought_start _ _ _ f.allowed_is

pub returns : goal.returns
unfolding FoundSays
returns c = λ atoms h f.
    sought_none _ _ _ (c.loop-e.invariant atoms h f) h.few (found_nothing _ room (sym c.least.ensures ∙ c.in_default.is))

-- `tried`: its piece, and whether that meets the row
-- `taken`: the evaluation whose piece is tried: the least that is left
pub returns-then-met_by : goal.returns-then-met_by
unfolding FoundSays MetSays
returns-then-met_by c =
    let taken : Least room c.in-Some.e (mem c.loop-e.left) = found_least _ room _ (sym c.least.ensures ∙ c.in-Some.is) in
    let tried : let a = c.args in let e = c.in-Some.e in (atoms : List (Atom ℕ)) → Compiled a.chart atoms
    → Fit a.chart.names (state a.allowed a.rows.now) (marks_in a.chart atoms a.row)
    → let whole = whole_piece a.chart.names (marks_in a.chart atoms a.row) e in ((f : ℕ) → mem c.piece-piece.result f ≡ elem f whole)
    × (c.met_by.result ≡ all (met (marks_in a.chart atoms a.row) whole) (marks_in a.chart atoms a.row)) = λ atoms h f.
    let loop = c.loop-e in
    let ok = (loop.invariant atoms h f).within _ taken.passes in
    let same = c.piece-piece.ensures.whole _ h.few _ f ok in
    (same, c.met_by.ensures atoms h _ f.rows_are _ same (piece_allowed _ _ _ ok)) in
    λ atoms h f.
    let loop = c.loop-e in
    let t = taken in
    let whole = tried atoms h f in
    sought_found _ _ _ (loop.invariant atoms h f) _ _ t whole.0 (sym whole.1 ∙ c.if-met_by.true)

pub loop-e-smaller : goal.loop-e-smaller
loop-e-smaller c =
    let taken : Least room c.in-Some.e (mem c.loop-e.left) = found_least _ room _ (sym c.least.ensures ∙ c.in-Some.is) in
    let loop = c.loop-e in
    let t = taken in
    subst (λ (set : ℕ → Bool). left_over set < left_over (mem loop.left)) (sym c.minus-left.ensures)
    (left_less (mem loop.left) (mem c.piece-piece.result) _ t.within t.passes
    (c.piece-piece.ensures.own t.within))

pub loop-e-preserved : goal.loop-e-preserved
unfolding MetSays
loop-e-preserved c =
    let taken : Least room c.in-Some.e (mem c.loop-e.left) = found_least _ room _ (sym c.least.ensures ∙ c.in-Some.is) in
    let tried : let a = c.args in let e = c.in-Some.e in (atoms : List (Atom ℕ)) → Compiled a.chart atoms
    → Fit a.chart.names (state a.allowed a.rows.now) (marks_in a.chart atoms a.row)
    → let whole = whole_piece a.chart.names (marks_in a.chart atoms a.row) e in ((f : ℕ) → mem c.piece-piece.result f ≡ elem f whole)
    × (c.met_by.result ≡ all (met (marks_in a.chart atoms a.row) whole) (marks_in a.chart atoms a.row)) = λ atoms h f.
    let loop = c.loop-e in
    let ok = (loop.invariant atoms h f).within _ taken.passes in
    let same = c.piece-piece.ensures.whole _ h.few _ f ok in
    (same, c.met_by.ensures atoms h _ f.rows_are _ same (piece_allowed _ _ _ ok)) in
    λ atoms h f.
    let loop = c.loop-e in
    let t = taken in
    let whole = tried atoms h f in
    subst (Sought _ _) (sym c.minus-left.ensures)
    (sought_on _ _ _ (loop.invariant atoms h f) _ _ ((loop.invariant atoms h f).within _ t.passes) whole.0
    (sym whole.1 ∙ c.if-met_by.false))
