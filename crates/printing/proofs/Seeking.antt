-- The end of an atom is sought along the order: while atoms are to be passed the order goes on, and where a name is next in it, one is
-- next among the tokens. Assumes nothing.
use mathlib.Core.Path.{◌≡◌, refl, ap, ◌∙◌}
use mathlib.Core.Bool.{Bool, false}
use mathlib.Core.List.{List}
use Prim.Native.Nat.{ℕ, ◌+◌, ◌-◌, ◌≤◌, ◌<◌}
use native.Mathlib.Omega.{arith}
use lib.ListN.{length, take, get_or}
use lib.Seq.{take_all}
use borrow.Author.Tests.{ne_eqb}
use Rattle.printing.specs.Places.{makes_atom, is_name, counted, Seekable, Seeking}
use Rattle.printing.specs.declared.Place.{Place}
use Rattle.printing.proofs.Counting.{one_if, counted_few, counted_next, counted_most}

abbrev pub place_of : ℕ → ℕ → Place
place_of k j = record { order = k; tokens = j }

pub less : (a b : ℕ) → (b ≤ a → ⊥) → a < b
less a b h = omega arith

name_no_atom : makes_atom 18 ≡ false
unfolding makes_atom
name_no_atom = refl

module _ {order kinds : List ℕ} {which : ℕ} (a : Seekable order kinds which) where
  pub few_atoms : which < 256
  few_atoms = omega (arith, a.atoms, counted_few makes_atom order, a.room)

  pub seeks_first : Seeking order kinds which (which + 1) (place_of 0 0)
  unfolding counted
  seeks_first = record { atoms = omega arith; last = omega arith; names = refl; tokens = λ n e. omega arith }

  module _ {left k j : ℕ} (g : Seeking order kinds which left (place_of k j)) (p : 0 < left) where
    pub order_ahead : k < 256
    order_ahead = less k 256 (λ l. absurd (omega (arith, ap (counted makes_atom) (take_all k order (omega (arith, l, a.room))), a.atoms, g.atoms)))

    inside : k < length order
    inside = omega (arith, order_ahead, a.room)

    -- the place is still before the sign of the atom
    before : counted makes_atom (take (k + 1 - 1) order) ≤ which
    before = let e : k + 1 - 1 ≡ k = omega arith in omega (arith, ap (λ (i : ℕ). counted makes_atom (take i order)) e, g.atoms)

    -- ---- a sign
    module _ (q : get_or order k 0 ≡ 18 → ⊥) where
      no_name : counted is_name (take (k + 1) order) ≡ counted is_name (take k order) + 0
      no_name = counted_next is_name order k inside ∙ ap (λ (b : Bool). counted is_name (take k order) + one_if b) (ne_eqb (get_or order k 0) 18 q)

      pub seeks_sign : (b : Bool) → b ≡ makes_atom (get_or order k 0) → (n : ℕ) → one_if b + n ≡ left → Seeking order kinds which n (place_of (k + 1) j)
      seeks_sign b e n m =
          record {
            atoms = omega (arith, counted_next makes_atom order k inside, ap one_if e, g.atoms);
            last = before;
            names = omega (arith, g.names, no_name);
            tokens = g.tokens;
          }

    -- ---- a name
    module _ (q : get_or order k 0 ≡ 18) where
      one_name : counted is_name (take (k + 1) order) ≡ counted is_name (take k order) + 1
      one_name = counted_next is_name order k inside ∙ ap (λ (c : ℕ). counted is_name (take k order) + one_if (is_name c)) q

      no_atom : counted makes_atom (take (k + 1) order) ≡ counted makes_atom (take k order) + 0
      no_atom = counted_next makes_atom order k inside ∙ ap (λ (b : Bool). counted makes_atom (take k order) + one_if b) (ap makes_atom q ∙ name_no_atom)

      -- there is a token with one more name
      ahead : (n : ℕ) → counted is_name (take n kinds) ≡ counted is_name kinds → j < n
      ahead n e =
          less j n (λ l. absurd (omega (arith, counted_most is_name kinds n j l, e, g.names, one_name, counted_most is_name order (k + 1) 256 (omega (arith, order_ahead)), ap (counted is_name) (take_all 256 order (omega (arith, a.room))), a.names)))

      pub tokens_ahead : j < 256
      tokens_ahead = ahead 256 (ap (counted is_name) (take_all 256 kinds (omega (arith, a.wide))))

      next : counted is_name (take (j + 1) kinds) ≡ counted is_name (take j kinds) + one_if (is_name (get_or kinds j 0))
      next = counted_next is_name kinds j (omega (arith, tokens_ahead, a.wide))

      pub seeks_token : (get_or kinds j 0 ≡ 18 → ⊥) → Seeking order kinds which left (place_of k (j + 1))
      seeks_token m =
          record {
            atoms = g.atoms;
            last = g.last;
            names = omega (arith, next, ap one_if (ne_eqb (get_or kinds j 0) 18 m), g.names);
            tokens = λ n e. omega (arith, ahead n e);
          }

      pub seeks_name : get_or kinds j 0 ≡ 18 → Seeking order kinds which left (place_of (k + 1) (j + 1))
      seeks_name m =
          record {
            atoms = omega (arith, no_atom, g.atoms);
            last = before;
            names = omega (arith, next, ap (λ (c : ℕ). one_if (is_name c)) m, g.names, one_name);
            tokens = λ n e. omega (arith, ahead n e);
          }
