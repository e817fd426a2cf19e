-- `remarks::expected_at` meets its contract: the first that can stand is among those that are still to be tried. Assumes nothing.
use mathlib.Core.Path.{◌≡◌, refl, sym, ap, ◌∙◌}
use mathlib.Core.Bool.{Bool, true, false, cond}
use mathlib.Core.List.{List, [], ◌∷◌}
use Prim.Native.Nat.{ℕ, ◌+◌, ◌<◌}
use native.Mathlib.Omega.{arith}
use lib.ListN.{length, get_or, drop, drop_of_length-le}
use Rattle.std.specs.Prelude.{Some}
use Rattle.lists.specs.Search.{first}
use Rattle.lists.proofs.Lists.{rest}
use Rattle.remarks.specs.declared.Expected.{Expected}
use Rattle.remarks.specs.Remark.{can_stand, spelling, tried, or_nothing, expected_at}
use Rattle.remarks.proofs.expected_at.Goals as goal

-- the element at an index is the first that passes, or those behind it are still to be tried
module _ (p : Expected → Bool) (es : List Expected) (i : ℕ) (d : Expected) (h : i < length es) where
  here : p (get_or es i d) ≡ true → or_nothing (first p (drop i es)) ≡ Some (get_or es i d)
  here e =
      ap (λ (l : List Expected). or_nothing (first p l)) (rest es i d h)
      ∙ ap (λ (b : Bool). or_nothing (cond b (get_or es i d ∷ []) (first p (drop (i + 1) es)))) e

  later : p (get_or es i d) ≡ false → or_nothing (first p (drop i es)) ≡ or_nothing (first p (drop (i + 1) es))
  later e =
      ap (λ (l : List Expected). or_nothing (first p l)) (rest es i d h)
      ∙ ap (λ (b : Bool). or_nothing (cond b (get_or es i d ∷ []) (first p (drop (i + 1) es)))) e

pub loop-i-init : goal.loop-i-init
unfolding expected_at
loop-i-init c = refl

pub returns-then-can_stand : goal.returns-then-can_stand
returns-then-can_stand c =
    let a = c.args in
    let k = c.loop-i in
    let stands = sym (c.can_stand.ensures ∙ ap (can_stand a.text.now a.place) c.spelling.ensures.0) ∙ c.if-can_stand.true in
    sym (here (λ (e : Expected). can_stand a.text.now a.place (spelling e)) tried k.i Expected.Formula c.loop-i-test.true stands) ∙ k.invariant

pub loop-i-preserved : goal.loop-i-preserved
loop-i-preserved c =
    let a = c.args in
    let k = c.loop-i in
    let not = sym (c.can_stand.ensures ∙ ap (can_stand a.text.now a.place) c.spelling.ensures.0) ∙ c.if-can_stand.false in
    sym (later (λ (e : Expected). can_stand a.text.now a.place (spelling e)) tried k.i Expected.Formula c.loop-i-test.true not) ∙ k.invariant

pub returns : goal.returns
returns c =
    let a = c.args in
    let k = c.loop-i in
    let none : drop k.i tried ≡ [] = drop_of_length-le tried {i = k.i} c.loop-i-test.false in
    sym (ap (λ (l : List Expected). or_nothing (first (λ (e : Expected). can_stand a.text.now a.place (spelling e)) l)) none) ∙ k.invariant
