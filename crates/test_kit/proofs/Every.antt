-- The plan that has every point and every contact: the words before its last one are few, and that one counts them where there is
-- room for it. Assumes nothing.
use mathlib.Core.Path.{◌≡◌, sym, ap, ◌∙◌}
use mathlib.Core.List.{List, [], ◌∷◌}
use mathlib.Core.Logic.{⊎_elim}
use Prim.Native.Nat.{ℕ, ◌+◌, ◌-◌, ◌*◌, ◌≤◌, ◌<◌, ◌^◌}
use native.Mathlib.Omega.{arith}
use lib.ListN.{length, length-append}
use lib.Seq.{set_out}
use Rattle.lists.specs.Search.{collect, from, below}
use Rattle.lists.proofs.Truth.{side}
use Rattle.lists.proofs.Search.{from_length}
use Rattle.lists.proofs.Below.{collect_small}
use Rattle.test_kit.specs.Putting.{Puts}
use Rattle.test_kit.specs.Every.{contacts_of, every_before, every_plan}
use Rattle.test_kit.proofs.Putting.{puts_as, puts_more}

module _ (first n : ℕ) where
  pub every_few : n ≤ 256 → length (every_before first n) < 2 ^ 28
  unfolding every_before
  every_few h =
      omega (
        arith,
        length-append (first ∷ from 0x20000000 n) (collect (contacts_of n) (below n)),
        from_length 0x20000000 n,
        collect_small (contacts_of n) 256 (λ i. omega (arith, from_length (0x30000001 + i * 257) (n - (i + 1)))) 0 n,
      )

  pub every_last : {buffer mid exit : List ℕ} {end last : ℕ} → Puts (every_before first n) 0 buffer mid end → Puts ((0x40000000 + end) ∷ []) end mid exit last → Puts (every_plan first n) 0 buffer exit last
  unfolding every_plan
  every_last {mid = mid} {end = end} f s =
      puts_more f
      (⊎_elim
      (λ l. let e : end ≡ length (every_before first n) = omega (arith, f.place, f.kept) in puts_as (ap (λ (k : ℕ). (0x40000000 + k) ∷ []) e) s)
      (λ l. record { held = s.held ∙ set_out mid end _ l ∙ sym (set_out mid end _ l); kept = s.kept; place = s.place })
      (side end (length mid)))
