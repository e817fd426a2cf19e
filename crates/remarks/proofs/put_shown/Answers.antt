-- `remarks::put_shown` meets its contract: so far the first i bytes are put. Assumes nothing.
use mathlib.Core.Path.{◌≡◌, sym, ap, subst}
use mathlib.Core.List.{[], ◌∷◌, ◌++◌, map}
use Prim.Native.Nat.{ℕ, ◌+◌}
use native.Mathlib.Omega.{arith}
use lib.ListN.{length, take, set, length-map}
use lib.Seq.{length-take-le, take_all}
use Rattle.lists.specs.Putting.{Puts}
use Rattle.lists.proofs.Putting.{puts_none, puts_text, puts_length, puts_byte}
use Rattle.remarks.specs.Remark.{shown_byte}
use Rattle.remarks.proofs.Parts.{shown_more}
use Rattle.remarks.proofs.put_shown.Goals as goal

pub loop-i-init : goal.loop-i-init
loop-i-init c =
    let a = c.args in
    let e : a.at + 0 ≡ a.at = omega arith in
    subst (λ (x : ℕ). Puts a.at _ a.out.now a.out.now x) (sym e) (puts_none a.at a.out.now (omega arith))

pub shown_byte-requires : goal.shown_byte-requires
shown_byte-requires c = tt

pub bounds-out-at : goal.bounds-out-at
bounds-out-at c = omega (arith, puts_length c.loop-i.invariant)

pub loop-i-preserved : goal.loop-i-preserved
loop-i-preserved c =
    let a = c.args in
    let k = c.loop-i in
    let b = c.shown_byte.result in
    let e : map shown_byte (take k.i a.bytes.now) ++ b ∷ [] ≡ map shown_byte (take (k.i + 1) a.bytes.now) =
    shown_more a.bytes.now k.i b (omega arith) c.shown_byte.ensures in
    let end : a.at + k.i + 1 ≡ a.at + (k.i + 1) = omega arith in
    subst (λ (x : ℕ). Puts a.at (map shown_byte (take (k.i + 1) a.bytes.now)) a.out.now (set k.out (a.at + k.i) b) x) end
    (puts_text e (puts_byte k.invariant b (omega (arith, ap length e, length-map (take (k.i + 1) a.bytes.now) shown_byte, length-take-le (k.i + 1) a.bytes.now (omega arith)))))

pub returns : goal.returns
returns c =
    let a = c.args in
    let k = c.loop-i in
    let e : k.i ≡ length a.bytes.now = omega arith in
    subst (λ (n : ℕ). Puts a.at (map shown_byte a.bytes.now) a.out.now k.out (a.at + n)) e
    (puts_text (ap (map shown_byte) (take_all k.i a.bytes.now (omega arith))) k.invariant)
