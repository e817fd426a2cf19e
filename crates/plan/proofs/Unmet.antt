-- Judging goes along the rules, so the first that is not met decides, and its number is one more than the rules before it;
-- and rules that are renamed are judged as the rules are on the floor renamed. Assumes nothing.
use mathlib.Core.Path.{◌≡◌, refl, sym, ap, ap₂, ◌∙◌, subst}
use mathlib.Core.Bool.{Bool, true, false, ◌&&◌, cond, and-eq-true_iff}
use mathlib.Core.List.{List, [], ◌∷◌, ◌++◌}
use Prim.Native.Nat.{ℕ, suc, ◌+◌}
use native.Mathlib.Omega.{arith}
use lib.ListN.{length}
use Rattle.formula.specs.Formula.{Formula}
use Rattle.contact.specs.Meaning.{Floor, meets, meets_all}
use Rattle.plan.specs.Judging.{Judgement, yes, unmet, judge_from, judge}
use Rattle.plan.specs.Meant.{FirstUnmet}

module _ {N : Type 0} (F : Floor N) where
  -- what a judgement says of the rules
  abbrev JudgementSays : ℕ → List (Formula N) → Judgement → Type 0
  JudgementSays one rules yes = meets_all F rules ≡ true
  JudgementSays one rules (unmet k) = FirstUnmet F one rules k

  judged : (one : ℕ) (rules : List (Formula N)) → JudgementSays one rules (judge_from one F rules)
  judged one [] = refl
  judged one (f ∷ rules) = go (meets F f) refl (judge_from (suc one) F rules) (judged (suc one) rules)
    where
      go : (b : Bool) → meets F f ≡ b → (j : Judgement) → JudgementSays (suc one) rules j → JudgementSays one (f ∷ rules) (cond b j (unmet one))
      go true e yes s = ap₂ ◌&&◌ e s
      go true e (unmet k) s = record {
        earlier = f ∷ s.earlier;
        rule = s.rule;
        later = s.later;
        parts = ap (λ (l : List (Formula N)). f ∷ l) s.parts;
        number = omega (arith, s.number);
        met = ap₂ ◌&&◌ e s.met;
        not_met = s.not_met;
      }
      go false e j s = record { earlier = []; rule = f; later = rules; parts = refl; number = omega arith; met = refl; not_met = e }

  -- and the judgement follows from that
  from_met : (one : ℕ) (rules : List (Formula N)) → meets_all F rules ≡ true → judge_from one F rules ≡ yes
  from_met one [] e = refl
  from_met one (f ∷ rules) e =
      let t = (and-eq-true_iff (meets F f) (meets_all F rules)).0 e in
      ap (λ (b : Bool). cond b (judge_from (suc one) F rules) (unmet one)) t.0 ∙ from_met (suc one) rules t.1

  from_parts : (one : ℕ) (earlier : List (Formula N)) (rule : Formula N) (later : List (Formula N)) → meets_all F earlier ≡ true
      → meets F rule ≡ false
      → judge_from one F (earlier ++ (rule ∷ later)) ≡ unmet (one + length earlier)
  from_parts one [] rule later e n =
      let z : one ≡ one + 0 = omega arith in
      ap (λ (b : Bool). cond b (judge_from (suc one) F later) (unmet one)) n ∙ ap unmet z
  from_parts one (f ∷ earlier) rule later e n =
      let t = (and-eq-true_iff (meets F f) (meets_all F earlier)).0 e in
      let z : suc one + length earlier ≡ one + suc (length earlier) = omega arith in
      ap (λ (b : Bool). cond b (judge_from (suc one) F (earlier ++ (rule ∷ later))) (unmet one)) t.0
      ∙ from_parts (suc one) earlier rule later t.1 n ∙ ap unmet z

  pub yes_exactly : (rules : List (Formula N))
      → (judge F rules ≡ yes → meets_all F rules ≡ true) × (meets_all F rules ≡ true → judge F rules ≡ yes)
  yes_exactly rules = (λ e. subst (JudgementSays 1 rules) e (judged 1 rules), from_met 1 rules)

  pub unmet_exactly : (rules : List (Formula N)) (k : ℕ)
      → (judge F rules ≡ unmet k → FirstUnmet F 1 rules k) × (FirstUnmet F 1 rules k → judge F rules ≡ unmet k)
  unmet_exactly rules k = (
    λ e. subst (JudgementSays 1 rules) e (judged 1 rules),
    λ u. ap (judge_from 1 F) (sym u.parts) ∙ from_parts 1 u.earlier u.rule u.later u.met u.not_met
        ∙ ap unmet (sym u.number),
  )
