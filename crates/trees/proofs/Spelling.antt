-- What a word does in a branch, as it is computed, is what is meant. Assumes nothing.
use mathlib.Core.Bool.{Bool, true, false, ◌&&◌, cond, and-eq-true_iff}
use mathlib.Core.Path.{◌≡◌, refl, sym, ap, ap₂, ◌∙◌}
use mathlib.Core.Logic.{◌↔◌, ⊎_elim}
use mathlib.Core.List.{List, [], ◌∷◌}
use mathlib.Mathlib.Data.Bool.Basic.{and_intro}
use Prim.Native.Nat.{ℕ, zero, suc, ◌+◌, ◌*◌, ◌-◌, ◌/◌, ◌%◌, ◌≤◌, ◌<◌}
use native.Mathlib.Omega.{arith}
use lib.Dec.{eqb, ltb}
use lib.ListN.{length, get_or}
use borrow.Author.Tests.{eqb-true, eq-eqb, ltb-true, lt-ltb}
use Rattle.formula.specs.Formula.{Form}
use Rattle.lists.proofs.Truth.{clash, side}
use Rattle.contact.specs.Row.{Three, is, unknown, PartialRow}
use Rattle.contact.specs.Kleene.{kleene_value}
use Rattle.contact.specs.Tableau.{refuted}
use Rattle.trees.specs.Trees.{split_word, rule_word, floorless_word}
use Rattle.trees.specs.Closed.{value_in, RuleFalse, Splits}
use Rattle.trees.specs.Refusal.{Stands, Stands.splits}
use Rattle.trees.specs.Checker.{Does, splits, closes, wrong, is_unknown, false_there, by_kind, does}

-- the test agrees with what is meant, for branches of at most so many atoms
abbrev pub Tests : ℕ → (PartialRow → Bool) → (PartialRow → Type 0) → Type 0
Tests many no_plan_said NoPlan = (part : PartialRow) → length part ≤ many → (no_plan_said part ≡ true) ↔ NoPlan part

refuted_false : (t : Three) → refuted t ≡ true → t ≡ is false
refuted_false (is true) h = clash h refl
refuted_false (is false) h = refl
refuted_false unknown h = clash h refl

unknown_is : (t : Three) → is_unknown t ≡ true → t ≡ unknown
unknown_is (is b) h = clash h refl
unknown_is unknown h = refl

past : {A : Type 0} (xs : List A) (i : ℕ) (d : A) → length xs ≤ i → get_or xs i d ≡ d
past [] i d h = refl
past (x ∷ xs) zero d h = absurd (omega arith)
past (x ∷ xs) (suc i) d h = past xs i d (omega arith)

module _ (rules : List (Form ℕ)) (part : PartialRow) where
  -- rule k counted from 1 is the one at k - 1
  at_place : (k : ℕ) → kleene_value (value_in part) (get_or rules (suc k - 1) Form.truth) ≡ kleene_value (value_in part) (get_or rules k Form.truth)
  at_place k =
      let q : suc k - 1 ≡ k = omega arith in
      ap (λ (j : ℕ). kleene_value (value_in part) (get_or rules j Form.truth)) q

  pub false_meant : (k : ℕ) → false_there rules part k ≡ true → RuleFalse rules part k
  false_meant zero h = clash h refl
  false_meant (suc k) h =
      ⊎_elim
      (λ l. record { from_one = omega arith; named = omega arith; is_false_there = at_place k ∙ refuted_false _ h })
      (λ l. clash h (ap (λ f. refuted (kleene_value (value_in part) f)) (past rules k Form.truth l)))
      (side k (length rules))

  pub false_computed : (k : ℕ) → RuleFalse rules part k → false_there rules part k ≡ true
  false_computed zero r = absurd (omega (arith, r.from_one))
  false_computed (suc k) r = ap refuted (sym (at_place k) ∙ r.is_false_there)

-- of two, the one that is picked
pick : (P : Does → Type 0) (b : Bool) (x y : Does) → (b ≡ true → P x) → (b ≡ false → P y) → P (cond b x y)
pick P true x y f g = f refl
pick P false x y f g = g refl

module _ (many : ℕ) (rules : List (Form ℕ)) (NoPlan : PartialRow → Type 0) (no_plan_said : PartialRow → Bool) (tests : Tests many no_plan_said NoPlan)
    (part : PartialRow) (short : length part ≤ many) (w : ℕ) where
  -- a word closes the branch
  pub data Closes : Type 0 where
    rule : (k : ℕ) → w ≡ rule_word k → RuleFalse rules part k → Closes
    floor : w ≡ floorless_word → NoPlan part → Closes

  -- what the machine's step says
  abbrev pub Says : Does → Type 0
  Says (splits a) = (w ≡ split_word a) × Splits many part a
  Says closes = Closes
  Says wrong = Unit {0}

  says_kind : (kind body : ℕ) → w ≡ kind * 0x10000000 + body → Says (by_kind many rules no_plan_said part kind body)
  says_kind kind body e =
      pick Says (eqb kind 5) _ _
      (λ five. let q = eqb-true kind 5 five in
      pick Says (ltb body many && is_unknown (value_in part body)) (splits body) wrong
      (λ t. let v = (and-eq-true_iff (ltb body many) (is_unknown (value_in part body))).0 t in
      (omega arith, record { named = ltb-true body many v.0; undecided = unknown_is _ v.1 }))
      (λ t. tt))
      (λ five. pick Says (eqb kind 6) _ _
      (λ six. let q = eqb-true kind 6 six in
      pick Says (ltb body 256 && false_there rules part body) closes wrong
      (λ t. rule body (omega arith) (false_meant rules part body ((and-eq-true_iff (ltb body 256) _).0 t).1))
      (λ t. tt))
      (λ six. pick Says (eqb kind 7) _ wrong
      (λ seven. let q = eqb-true kind 7 seven in
      pick Says (eqb body 0 && no_plan_said part) closes wrong
      (λ t. let v = (and-eq-true_iff (eqb body 0) (no_plan_said part)).0 t in
      let z = eqb-true body 0 v.0 in
      floor (omega arith) ((tests part short).0 v.1))
      (λ t. tt))
      (λ seven. tt)))

  pub says : Says (does many rules no_plan_said part w)
  unfolding does
  says = says_kind (w / 0x10000000) (w % 0x10000000) (omega arith)

  by_parts : (kind body : ℕ) → w ≡ kind * 0x10000000 + body → body < 0x10000000 → does many rules no_plan_said part w ≡ by_kind many rules no_plan_said part kind body
  unfolding does
  by_parts kind body e l =
      let k : w / 0x10000000 ≡ kind = omega arith in
      let b : w % 0x10000000 ≡ body = omega arith in
      ap₂ (by_kind many rules no_plan_said part) k b

  pub does_split : (a : ℕ) → w ≡ split_word a → a < 0x10000000 → Splits many part a → does many rules no_plan_said part w ≡ splits a
  does_split a e l s =
      by_parts 5 a (omega arith) l
      ∙ ap (λ (b : Bool). cond b (splits a) wrong) (and_intro (lt-ltb a many s.named) (ap is_unknown s.undecided))

  pub does_rule : (k : ℕ) → w ≡ rule_word k → k < 256 → RuleFalse rules part k → does many rules no_plan_said part w ≡ closes
  does_rule k e l r =
      by_parts 6 k (omega arith) (omega arith) ∙ ap (λ (b : Bool). cond b closes wrong) (and_intro (lt-ltb k 256 l) (false_computed rules part k r))

  pub does_floor : w ≡ floorless_word → NoPlan part → does many rules no_plan_said part w ≡ closes
  does_floor e n =
      by_parts 7 0 (omega arith) (omega arith) ∙ ap (λ (b : Bool). cond b closes wrong) (and_intro (eq-eqb 0 0 refl) ((tests part short).1 n))

  -- a word that may stand is not wrong
  pub stands_right : Stands many rules NoPlan part w → does many rules no_plan_said part w ≡ wrong → ⊥
  stands_right (Stands.splits a e l s) q =
      let d = does_split a e (omega arith) s in
      let z : ◌≡◌ {A = ℕ} 0 1 = cc in omega arith
  stands_right (Stands.refutes k e l r) q =
      let d = does_rule k e l r in
      let z : ◌≡◌ {A = ℕ} 0 1 = cc in omega arith
  stands_right (Stands.excludes e n) q =
      let d = does_floor e n in
      let z : ◌≡◌ {A = ℕ} 0 1 = cc in omega arith
