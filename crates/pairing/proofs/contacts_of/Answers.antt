-- `pairing::contacts_of` meets its contract: so far the word is spelt from the first i atoms. Assumes nothing.
use mathlib.Core.Path.{◌≡◌, refl, sym, subst}
use Prim.Native.Nat.{ℕ, ◌+◌}
use native.Mathlib.Omega.{arith}
use Rattle.search.specs.Compiled.{contact_at}
use Rattle.pairing.specs.Words.{Spelt}
use Rattle.pairing.proofs.Words.{spelt_none, spelt_more, spelt_few}
use Rattle.pairing.proofs.contacts_of.Goals as goal

pub loop-i-init : goal.loop-i-init
loop-i-init c = spelt_none _

pub pushed-k-requires : goal.pushed-k-requires
pushed-k-requires c = let l = spelt_few _ _ _ c.loop-i.invariant (omega arith) in omega (arith, l)

pub loop-i-preserved : goal.loop-i-preserved
loop-i-preserved c =
    let k = c.loop-i in
    subst (Spelt (k.i + 1) _) (sym c.pushed-k.ensures) (spelt_more _ k.i k.k _ k.invariant refl)

pub returns : goal.returns
returns c =
    let k = c.loop-i in
    let e : k.i ≡ c.args.chart.atoms = omega arith in
    subst (λ (x : ℕ). Spelt x (contact_at c.args.chart) k.k) e k.invariant
