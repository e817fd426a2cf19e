-- `clashing::some_floor` meets its contract: the codes of the chosen rules may be searched, and the search finds a row where there is one for
-- them; with nothing chosen there is one. Assumes nothing.
use mathlib.Core.Path.{◌≡◌, sym, ap, ◌∙◌}
use Prim.Native.Nat.{ℕ}
use native.Mathlib.Omega.{arith}
use lib.ListN.{length, take}
use lib.Seq.{length-take-le}
use borrow.Author.Rules.{rules}
use Rattle.ruleset.proofs.Claims.{may_run, ends_fit, few_ends}
use Rattle.clashing.specs.Steps.{SomeFloorSays}
use Rattle.clashing.proofs.Trying.{chosen_run, chosen_found, none_chosen}
use Rattle.clashing.proofs.some_floor.Goals as goal

pub slice_bounds-all-end : goal.slice_bounds-all-end
slice_bounds-all-end c =
    let long : length c.args.c.ends ≡ 16 = search rules in
    let places = ends_fit _ _ _ _ c.requires.0.rules_compiled long in
    places

pub slice_bounds-put_chosen-end : goal.slice_bounds-put_chosen-end
slice_bounds-put_chosen-end c =
    let long : length c.args.c.ends ≡ 16 = search rules in
    let places = ends_fit _ _ _ _ c.requires.0.rules_compiled long in
    sym (length-take-le _ _ places)

pub put_chosen-chosen-requires : goal.put_chosen-chosen-requires
put_chosen-chosen-requires c =
    let long : length c.args.c.ends ≡ 16 = search rules in
    ((may_run _ _ _ _ c.requires.0.rules_compiled).safe, few_ends _ _ _ _ c.requires.0.rules_compiled long, c.requires.1)

pub returns-then-count-le0 : goal.returns-then-count-le0
unfolding SomeFloorSays
returns-then-count-le0 c =
    let e = c.put_chosen-chosen.ensures in
    let r = c.put_chosen-chosen.result in
    let none : r.count ≡ 0 = omega arith in
    (λ rules kept h. none_chosen rules _ kept _ h _ _ _ (e.0.coded _ _ h.coded) (ap (λ (n : ℕ). take n r.ends) none), e.1)

pub slice_bounds-first_row-end : goal.slice_bounds-first_row-end
slice_bounds-first_row-end c = sym (length-take-le _ _ c.put_chosen-chosen.ensures.0.few)

pub first_row-found-requires : goal.first_row-found-requires
first_row-found-requires c =
    let h = c.requires.0.rules_compiled in
    chosen_run _ _ _ _ h _ _ _ (c.put_chosen-chosen.ensures.0.coded _ _ h.coded)

pub returns : goal.returns
unfolding SomeFloorSays
returns c =
    let e = c.put_chosen-chosen.ensures in (
      λ rules kept h. c.is_some.ensures ∙ chosen_found rules _ kept _ h _ _ _ (e.0.coded _ _ h.coded) _ c.first_row-found.ensures,
      e.1,
    )
