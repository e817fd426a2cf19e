-- `solver::some_refuted` meets its contract: what is joined so far is what the parts passed refute.
-- Assumes nothing.
use mathlib.Core.Path.{◌≡◌, refl, sym, ap, ◌∙◌, subst}
use mathlib.Core.List.{[], List}
use Prim.Native.Nat.{ℕ, ◌≤◌}
use native.Mathlib.Omega.{arith}
use lib.ListN.{length, get_or, drop, drop_of_length-le}
use Rattle.lists.proofs.Lists.{rest}
use Rattle.evalset.specs.Bit.{bit}
use Rattle.evalset.proofs.Bits.{bit_none, bit_or_lem}
use Rattle.contact.specs.Row.{unknown}
use Rattle.kleene.specs.Rails.{exec, rails_at}
use Rattle.kleene.proofs.Claims.{rails_refuted}
use Rattle.solver.specs.Coded.{PartSafe, SafeFrom, RefutedSays}
use Rattle.solver.proofs.Codes.{Joined, joined_none, joined_next, joined_all}
use Rattle.solver.proofs.some_refuted.Invariants.{Known}
use Rattle.solver.proofs.some_refuted.Goals as goal

pub loop-end-init : goal.loop-end-init
loop-end-init c =
    (c.requires, refl, refl, λ many rules h. joined_none (Known c.args.yes.now c.args.no.now) many c.args.code.now rules c.args.ends.now (bit 0) (λ e row v. bit_none e) h)

-- `this_part`: the part that is run next
pub slice_bounds-run_rails-count : goal.slice_bounds-run_rails-count
slice_bounds-run_rails-count c =
    let this_part : PartSafe c.args.code.now c.loop-end.from (get_or c.args.ends.now c.loop-end.end-index 0) = let loop = c.loop-end in
    let a = c.args in
    (subst (SafeFrom a.code.now loop.from) (rest a.ends.now loop.end-index 0 (omega arith)) loop.invariant.0).0 in
    this_part.ordered

pub run_rails-found-requires : goal.run_rails-found-requires
run_rails-found-requires c =
    let this_part : PartSafe c.args.code.now c.loop-end.from (get_or c.args.ends.now c.loop-end.end-index 0) = let loop = c.loop-end in
    let a = c.args in
    (subst (SafeFrom a.code.now loop.from) (rest a.ends.now loop.end-index 0 (omega arith)) loop.invariant.0).0 in
    let loop = c.loop-end in
    (this_part.safe, loop.invariant.1, loop.invariant.2)

pub loop-end-preserved : goal.loop-end-preserved
loop-end-preserved c =
    let loop = c.loop-end in
    let a = c.args in
    let ran = c.run_rails-found in
    let now-first = rest a.ends.now loop.end-index 0 (omega arith) in (
      (subst (SafeFrom a.code.now loop.from) now-first loop.invariant.0).1,
      ran.ensures.0,
      ran.ensures.1,
      λ many rules h. joined_next (Known a.yes.now a.no.now) many a.code.now rules loop.from _ _ (bit loop.acc) (bit ran.result.no) _
          (λ rule p e row v. rails_refuted rule a.yes.now a.no.now e ran.result.yes ran.result.no (λ i. get_or row i unknown)
          (ap (λ (cs : List ℕ). exec (rails_at a.yes.now a.no.now e) cs []) (sym p.is_code) ∙ ran.ensures.2 e v.0) (λ i m. v.1 i))
          (bit_or_lem loop.acc ran.result.no)
          (subst (λ (es : List ℕ). Joined (Known a.yes.now a.no.now) many a.code.now loop.from es (bit loop.acc) rules) now-first
          (loop.invariant.3 many rules h)),
    )

pub returns : goal.returns
unfolding RefutedSays
returns c = λ many rules h e l row v.
    let loop = c.loop-end in
    let a = c.args in
    let past : length a.ends.now ≤ loop.end-index = omega arith in
    let none_left : drop loop.end-index a.ends.now ≡ [] = drop_of_length-le a.ends.now past in
    joined_all (Known a.yes.now a.no.now) many a.code.now rules loop.from (bit loop.acc)
    (subst (λ (es : List ℕ). Joined (Known a.yes.now a.no.now) many a.code.now loop.from es (bit loop.acc) rules) none_left
    (loop.invariant.3 many rules h)) e row (l, v)
