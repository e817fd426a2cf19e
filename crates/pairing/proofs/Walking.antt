-- A walk over the set bits of a word, least first: it ends, since the least bit that is left moves up. Assumes nothing.
use mathlib.Core.Bool.{Bool, true, false, not, ◌&&◌, and-false}
use mathlib.Core.Path.{◌≡◌, refl, sym, ap, ◌∙◌, subst}
use mathlib.Core.Logic.{⊎_elim}
use mathlib.Mathlib.Logic.Function.Defs.{congr_fun}
use Prim.Native.Nat.{ℕ, ◌-◌, ◌≤◌, ◌<◌}
use native.Mathlib.Omega.{arith}
use lib.Dec.{eqb}
use borrow.Author.Tests.{eq-eqb}
use Rattle.std.specs.Prelude.{Option, None, Some}
use Rattle.lists.specs.Search.{first, below}
use Rattle.lists.proofs.Below.{Least}
use Rattle.lists.proofs.Truth.{clash, side}
use Rattle.evalset.specs.Bit.{word_bits, bit}
use Rattle.evalset.specs.Sets.{drop_of, found_of}
use Rattle.evalset.proofs.Walk.{found_least}

abbrev places_from : Option ℕ → ℕ
places_from None = 0
places_from (Some e) = word_bits - e

-- the places of a word from its least bit on
abbrev pub places_left : ℕ → ℕ
places_left w = places_from (found_of (first (bit w) (below word_bits)))

-- there are fewer once the least bit is gone
pub places_fall : (v w e : ℕ) → found_of (first (bit w) (below word_bits)) ≡ Some e → bit v ≡ drop_of (bit w) e → places_left v < places_left w
places_fall v w e h z =
    let s : Least word_bits e (bit w) = found_least (bit w) word_bits e h in
    subst (λ (o : Option ℕ). places_left v < places_from o) (sym h) (go s (found_of (first (bit v) (below word_bits))) refl)
  where
    go : Least word_bits e (bit w) → (o : Option ℕ) → found_of (first (bit v) (below word_bits)) ≡ o → places_from o < word_bits - e
    go s None q = omega (arith, s.within)
    go s (Some x) q =
        let t : Least word_bits x (bit v) = found_least (bit v) word_bits x q in
        let there : drop_of (bit w) e x ≡ true = sym (congr_fun z x) ∙ t.passes in
        let above : e ≤ x = ⊎_elim (λ l. absurd (clash there (ap (λ (b : Bool). b && not (eqb x e)) (s.before x l)))) (λ l. l) (side x e) in
        let other : x ≡ e → ⊥ = λ y. clash there (ap (λ (b : Bool). bit w x && not b) (eq-eqb x e y) ∙ and-false (bit w x)) in
        omega (arith, t.within, above, other)
