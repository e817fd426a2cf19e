-- The bits of a branch: the atom that a word splits on, and one atom more decided. Assumes nothing.
use mathlib.Core.Bool.{Bool, true, false, not, ◌&&◌, ◌||◌, cond, or-true, or-false}
use mathlib.Core.Path.{◌≡◌, refl, sym, ap, ap₂, ◌∙◌}
use mathlib.Core.List.{List}
use Prim.Native.Nat.{ℕ, ◌-◌, ◌*◌, ◌/◌, ◌%◌, ◌^◌, ◌≤◌, ◌<◌}
use native.Mathlib.Nat.{one-mul, mod-eq_of_lt}
use native.Mathlib.Decide.{ℕ_discrete as dec_eq}
use native.Mathlib.Omega.{arith}
use lib.Bits.{bit_or, or_lt}
use lib.Dec.{eqb, ltb}
use lib.Pow.{pow-lt, pow_pos}
use borrow.Author.Tests.{eq-eqb, ne_eqb, lt-ltb, le-ltb}
use Rattle.std.specs.Prelude.{Some, None}
use Rattle.formula.specs.Formula.{Form}
use Rattle.lists.proofs.Truth.{clash}
use Rattle.evalset.specs.Bit.{bit}
use Rattle.evalset.proofs.Bits.{bit_add, bit_none}
use Rattle.contact.specs.Row.{Three, is, unknown, PartialRow}
use Rattle.pairing.specs.Words.{Spelt}
use Rattle.trees.specs.declared.Branch.{Branch}
use Rattle.trees.specs.Closed.{value_in, decided, root}
use Rattle.trees.specs.Checker.{Does, splits, closes, wrong, is_unknown, false_there, by_kind, does}
use Rattle.trees.specs.Branch.{is_true, IsBranch, split_bit, SplitSays}
use Rattle.trees.proofs.Branches.{decided_length, decided_other, decided_own}

-- 1 moved up by j
pub shifted : (j : ℕ) → j < 32 → (1 * 2 ^ j) % 4294967296 ≡ 2 ^ j
shifted j l = ap (λ (x : ℕ). x % 2 ^ 32) (one-mul (2 ^ j)) ∙ mod-eq_of_lt (pow-lt {i = j} {j = 32} l)

-- ---- the atom that a word splits on

module _ (many known w : ℕ) where
  pub split_kind : (w / 0x10000000 ≡ 5 → ⊥) → SplitSays many known w None
  unfolding SplitSays does
  split_kind h rules no_plan_said part s =
      go (eqb (w / 0x10000000) 5) (eqb (w / 0x10000000) 6) (eqb (w / 0x10000000) 7) (ltb (w % 0x10000000) 256 && false_there rules part (w % 0x10000000))
      (eqb (w % 0x10000000) 0 && no_plan_said part) (cond (ltb (w % 0x10000000) many && is_unknown (value_in part (w % 0x10000000))) (splits (w % 0x10000000)) wrong)
      (ne_eqb (w / 0x10000000) 5 h)
    where
      go : (k l m x y : Bool) (z : Does) → k ≡ false → None ≡ split_bit many (cond k z (cond l (cond x closes wrong) (cond m (cond y closes wrong) wrong)))
      go true l m x y z e = clash refl e
      go false true m true y z e = refl
      go false true m false y z e = refl
      go false false true x true z e = refl
      go false false true x false z e = refl
      go false false false x y z e = refl

  module _ (five : w / 0x10000000 ≡ 5) where
    abbrev a : ℕ
    a = w % 0x10000000

    by_five : (rules : List (Form ℕ)) (no_plan_said : PartialRow → Bool) (part : PartialRow)
        → does many rules no_plan_said part w ≡ cond (ltb a many && is_unknown (value_in part a)) (splits a) wrong
    unfolding does
    by_five rules no_plan_said part = ap (λ (k : ℕ). by_kind many rules no_plan_said part k a) five

    pub split_past : many ≤ a → SplitSays many known w None
    unfolding SplitSays
    split_past l rules no_plan_said part s =
        sym (ap (split_bit many) (by_five rules no_plan_said part ∙ ap (λ (x : Bool). cond (x && is_unknown (value_in part a)) (splits a) wrong) (le-ltb a many l)))

    module _ (l : a < many) where
      -- whether the branch has decided it
      known_bit : (part : PartialRow) → Spelt many (λ i. not (is_unknown (value_in part i))) known
          → bit known (many - 1 - a) ≡ not (is_unknown (value_in part a))
      known_bit part s =
          let z : many - 1 - (many - 1 - a) ≡ a = omega arith in
          s.bits (many - 1 - a) (omega arith) ∙ ap (λ (i : ℕ). not (is_unknown (value_in part i))) z

      turned : (t : Three) (b : Bool) → b ≡ not (is_unknown t) → is_unknown t ≡ not b
      turned (is v) b e = sym (ap not e)
      turned unknown b e = sym (ap not e)

      by_bit : (rules : List (Form ℕ)) (no_plan_said : PartialRow → Bool) (part : PartialRow) → Spelt many (λ i. not (is_unknown (value_in part i))) known
          → split_bit many (does many rules no_plan_said part w) ≡ split_bit many (cond (not (bit known (many - 1 - a))) (splits a) wrong)
      by_bit rules no_plan_said part s =
          ap (split_bit many) (by_five rules no_plan_said part
          ∙ ap₂ (λ (x y : Bool). cond (x && y) (splits a) wrong) (lt-ltb a many l) (turned (value_in part a) _ (known_bit part s)))

      pub split_known : bit known (many - 1 - a) ≡ true → SplitSays many known w None
      unfolding SplitSays
      split_known h rules no_plan_said part s =
          sym (by_bit rules no_plan_said part s ∙ ap (λ (x : Bool). split_bit many (cond (not x) (splits a) wrong)) h)

      pub split_on : bit known (many - 1 - a) ≡ false → many ≤ 16 → SplitSays many known w (Some ((1 * 2 ^ (many - 1 - a)) % 4294967296))
      unfolding SplitSays
      split_on h few rules no_plan_said part s =
          ap Some (shifted (many - 1 - a) (omega arith))
          ∙ sym (by_bit rules no_plan_said part s ∙ ap (λ (x : Bool). split_bit many (cond (not x) (splits a) wrong)) h)

-- ---- branches

-- at the root nothing is decided
pub root_branch : (many : ℕ) → IsBranch many (record { known = 0; truth = 0 }) root
root_branch many =
    record {
      known_is = record { small = pow_pos many; bits = λ p l. bit_none p };
      truth_is = record { small = pow_pos many; bits = λ p l. bit_none p };
      short = omega arith;
    }

module _ (many : ℕ) (few : many ≤ 16) (b : Branch) (part : PartialRow) (h : IsBranch many b part) (a : ℕ) (l : a < many)
    (free : value_in part a ≡ unknown) where
  abbrev j : ℕ
  j = many - 1 - a

  -- a word with the atom's bit too
  with_bit : (f g : ℕ → Bool) (x : ℕ) → Spelt many f x → ((i : ℕ) → (i ≡ a → ⊥) → g i ≡ f i) → g a ≡ true → Spelt many g (bit_or x (2 ^ j))
  with_bit f g x s same own =
      record {
        small = or_lt many x (2 ^ j) s.small (pow-lt {i = j} {j = many} (omega arith));
        bits = λ p k.
            ap (λ (y : ℕ). bit (bit_or x y) p) (sym (shifted j (omega arith))) ∙ bit_add 32 x j p (omega arith) ∙ each p k (dec_eq p j);
      }
    where
      each : (p : ℕ) → p < many → Dec (p ≡ j) → (bit x p || eqb p j) ≡ g (many - 1 - p)
      each p k (yes e) =
          let z : many - 1 - p ≡ a = omega arith in
          ap (λ (y : Bool). bit x p || y) (eq-eqb p j e) ∙ or-true (bit x p) ∙ sym own ∙ sym (ap g z)
      each p k (no ne) =
          ap (λ (y : Bool). bit x p || y) (ne_eqb p j ne) ∙ or-false (bit x p) ∙ s.bits p k
          ∙ sym (same (many - 1 - p) (λ e. ne (let z : p ≡ j = omega arith in z)))

  known_next : (v : Bool) → Spelt many (λ i. not (is_unknown (value_in (decided part a v) i))) (bit_or b.known (2 ^ j))
  known_next v =
      with_bit (λ i. not (is_unknown (value_in part i))) (λ i. not (is_unknown (value_in (decided part a v) i))) b.known h.known_is
      (λ i ne. ap (λ (t : Three). not (is_unknown t)) (decided_other part a v i ne)) (ap (λ (t : Three). not (is_unknown t)) (decided_own part a v))

  pub branch_true : IsBranch many (record { known = bit_or b.known (2 ^ j); truth = bit_or b.truth (2 ^ j) }) (decided part a true)
  branch_true =
      record {
        known_is = known_next true;
        truth_is = with_bit (λ i. is_true (value_in part i)) (λ i. is_true (value_in (decided part a true) i)) b.truth h.truth_is
            (λ i ne. ap is_true (decided_other part a true i ne)) (ap is_true (decided_own part a true));
        short = decided_length many part a true h.short l;
      }

  pub branch_false : IsBranch many (record { known = bit_or b.known (2 ^ j); truth = b.truth }) (decided part a false)
  branch_false =
      record {
        known_is = known_next false;
        truth_is = record { small = h.truth_is.small; bits = λ p k. h.truth_is.bits p k ∙ each (many - 1 - p) (dec_eq (many - 1 - p) a) };
        short = decided_length many part a false h.short l;
      }
    where
      each : (i : ℕ) → Dec (i ≡ a) → is_true (value_in part i) ≡ is_true (value_in (decided part a false) i)
      each i (yes e) =
          ap (λ (x : ℕ). is_true (value_in part x)) e ∙ ap is_true free ∙ sym (ap is_true (decided_own part a false))
          ∙ sym (ap (λ (x : ℕ). is_true (value_in (decided part a false) x)) e)
      each i (no ne) = sym (ap is_true (decided_other part a false i ne))
