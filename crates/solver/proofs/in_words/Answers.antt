-- `solver::in_words` meets its contract: so far the words below some place are passed. Assumes nothing.
use mathlib.Core.Path.{refl, sym, ◌∙◌}
use Prim.Native.Nat.{◌+◌}
use native.Mathlib.Omega.{arith}
use Rattle.evalset.specs.Bit.{bit}
use Rattle.kleene.specs.Rails.{word_rows}
use Rattle.evalset.proofs.Walk.{Step, step}
use Rattle.pairing.proofs.Walking.{places_fall}
use Rattle.solver.proofs.Steps.{Turn, walk_starts, walk_ends, walk_stops, turn}
use Rattle.solver.proofs.in_words.Invariants.{Known}
use Rattle.solver.proofs.in_words.Goals as goal

pub loop-e-init : goal.loop-e-init
loop-e-init c = (0, walk_starts _ _ _ _ _ _, c.requires.4)

pub returns : goal.returns
returns c =
    let k = c.loop-e in
    (k.invariant.2, walk_stops _ _ _ _ _ _ (λ g h. h.1) _ _ k.invariant.1 (omega arith) (sym c.word_least.ensures ∙ c.in_default.is))

-- `taken`: the word that was taken
pub word-found-requires : goal.word-found-requires
word-found-requires c =
    let taken : Step word_rows c.loop-e.invariant.0 c.in-Some.e (bit c.args.words) (bit c.loop-e.rest) = step word_rows _ _ _ c.loop-e.invariant.1.rest_is _
    (sym c.in-Some.ensures) in
    let p = c.requires in
    (p.0, p.1, p.2, p.3 _ taken.passes, c.loop-e.invariant.2, p.5)

-- `turned`: what is found in it
pub returns-then-is_some : goal.returns-then-is_some
returns-then-is_some c =
    let taken : Step word_rows c.loop-e.invariant.0 c.in-Some.e (bit c.args.words) (bit c.loop-e.rest) = step word_rows _ _ _ c.loop-e.invariant.1.rest_is _
    (sym c.in-Some.ensures) in
    let turned : let a = c.args in
    Turn {code = a.code.now} {ends = a.ends.now} {chart = a.chart} {cut = a.cut} (Known a.table.now a.row a.words) a.cut.k a.row a.cut.w a.cut.r a.words c.loop-e.rest c.in-Some.e c.word-found.result =
    turn _ _ _ _ _ _ (λ g h. h.1) _ _ c.loop-e.invariant.1 c.requires.3 _ taken _ _ refl _
    (λ g h. c.word-found.ensures.1 g h.0) in
    (c.word-found.ensures.0, turned.finds (sym c.is_some.ensures ∙ c.if-is_some.true))

pub loop-e-smaller : goal.loop-e-smaller
loop-e-smaller c = places_fall _ _ _ (sym c.in-Some.ensures) c.word_without-rest.ensures

pub loop-e-preserved : goal.loop-e-preserved
loop-e-preserved c =
    let taken : Step word_rows c.loop-e.invariant.0 c.in-Some.e (bit c.args.words) (bit c.loop-e.rest) = step word_rows _ _ _ c.loop-e.invariant.1.rest_is _
    (sym c.in-Some.ensures) in
    let turned : let a = c.args in
    Turn {code = a.code.now} {ends = a.ends.now} {chart = a.chart} {cut = a.cut} (Known a.table.now a.row a.words) a.cut.k a.row a.cut.w a.cut.r a.words c.loop-e.rest c.in-Some.e c.word-found.result =
    turn _ _ _ _ _ _ (λ g h. h.1) _ _ c.loop-e.invariant.1 c.requires.3 _ taken _ _ refl _
    (λ g h. c.word-found.ensures.1 g h.0) in
    (c.in-Some.e + 1, turned.passes (sym c.is_some.ensures ∙ c.if-is_some.false) _ c.word_without-rest.ensures, c.word-found.ensures.0)
