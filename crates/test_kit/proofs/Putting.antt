-- Numbers put one after the other are their list put at once: behind the end of the buffer nothing is stored. Assumes nothing.
use mathlib.Core.Path.{◌≡◌, refl, sym, ap, ◌∙◌, subst}
use mathlib.Core.List.{List, [], ◌∷◌, ◌++◌}
use mathlib.Core.Logic.{⊎_elim}
use Prim.Native.Nat.{ℕ, suc, ◌+◌, ◌≤◌}
use native.Mathlib.Nat.{add-zero}
use native.Mathlib.Omega.{arith}
use lib.ListN.{length, set, length-append}
use lib.Seq.{sets, set_out}
use Rattle.lists.proofs.Truth.{side}
use Rattle.test_kit.specs.Putting.{Puts}

sets_out : (xs buffer : List ℕ) (at : ℕ) → length buffer ≤ at → sets buffer at xs ≡ buffer
sets_out [] buffer at h = refl
sets_out (x ∷ xs) buffer at h =
    ap (λ (l : List ℕ). sets l (suc at) xs) (set_out buffer at x h) ∙ sets_out xs buffer (suc at) (omega arith)

sets_append : (xs ys buffer : List ℕ) (at : ℕ) → sets buffer at (xs ++ ys) ≡ sets (sets buffer at xs) (at + length xs) ys
sets_append [] ys buffer at = ap (λ (k : ℕ). sets buffer k ys) (sym (add-zero at))
sets_append (x ∷ xs) ys buffer at =
    let e : suc at + length xs ≡ at + suc (length xs) = omega arith in
    sets_append xs ys (set buffer at x) (suc at) ∙ ap (λ (k : ℕ). sets (sets (set buffer at x) (suc at) xs) k ys) e

-- where there is no room nothing is put
pub puts_out : (xs : List ℕ) (at : ℕ) (buffer : List ℕ) → length buffer ≤ at → Puts xs at buffer buffer at
puts_out xs at buffer h = record { held = sym (sets_out xs buffer at h); kept = refl; place = omega arith }

pub puts_none : (at : ℕ) (buffer : List ℕ) → Puts [] at buffer buffer at
puts_none at buffer = record { held = refl; kept = refl; place = omega arith }

-- the same numbers, said in another way
pub puts_as : {xs ys : List ℕ} {at : ℕ} {buffer exit : List ℕ} {end : ℕ} → xs ≡ ys → Puts xs at buffer exit end → Puts ys at buffer exit end
puts_as {at = at} {buffer} {exit} {end} e h = subst (λ (l : List ℕ). Puts l at buffer exit end) e h

pub puts_more : {xs ys : List ℕ} {at : ℕ} {buffer mid exit : List ℕ} {end last : ℕ} → Puts xs at buffer mid end → Puts ys end mid exit last → Puts (xs ++ ys) at buffer exit last
puts_more {xs} {ys} {at} {buffer} {mid} {exit} {end} {last} f s = record {
  held = s.held ∙ both ∙ sym (sets_append xs ys buffer at);
  kept = s.kept ∙ f.kept;
  place = omega (arith, f.place, f.kept, s.place, length-append xs ys);
}
  where
    behind : sets mid end ys ≡ sets mid (at + length xs) ys
    behind =
        ⊎_elim
        (λ l. let z : end ≡ at + length xs = omega (arith, f.place) in ap (λ (k : ℕ). sets mid k ys) z)
        (λ l. sets_out ys mid end (omega (arith, f.place, f.kept)) ∙ sym (sets_out ys mid (at + length xs) (omega (arith, f.kept))))
        (side (at + length xs) (length buffer))

    both : sets mid end ys ≡ sets (sets buffer at xs) (at + length xs) ys
    both = behind ∙ ap (λ (l : List ℕ). sets l (at + length xs) ys) f.held
