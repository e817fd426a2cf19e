-- The rules are judged in their order: while each rule so far is met, the judgement is that of the rules left, with the next number;
-- the first that is not met decides it. Assumes nothing.
use mathlib.Core.Bool.{Bool, true, false, cond}
use mathlib.Core.Path.{◌≡◌, refl, sym, ap, ◌∙◌, subst}
use mathlib.Core.List.{List, [], ◌∷◌}
use Prim.Native.Nat.{ℕ, suc, ◌+◌, ◌≤◌, ◌<◌}
use native.Mathlib.Omega.{arith}
use native.Mathlib.Numerals.{add-one}
use lib.ListN.{length, get_or, drop, drop_of_length-le}
use lib.Seq.{drop-cons}
use Rattle.formula.specs.Formula.{Form}
use Rattle.contact.specs.Meaning.{value}
use Rattle.plan.specs.Judging.{yes, unmet}
use Rattle.solver.specs.Coded.{PartSafe, SafeFrom, PartIs, CodedFrom, Coded}
use Rattle.judging.specs.declared.Judged.TheVariants.{Yes, Unmet}
use Rattle.judging.specs.Values.{judged_of, Sure, RuleSays, judge_numbers, UnmetSays}

-- after i rules that are met, these are left, and their code is
pub record Rest (many : ℕ) (code : List ℕ) (from : ℕ) (ends : List ℕ) (i : ℕ) (w : ℕ → Bool) (rules : List (Form ℕ)) : Type 0 where
  pub left : List (Form ℕ)
  pub coded : CodedFrom many code from ends left
  pub same : judge_numbers 1 w rules ≡ judge_numbers (suc i) w left

-- whatever rules the code is of
pub record Going (code ends : List ℕ) (leaves : List ℕ) (from i : ℕ) : Type 0 where
  pub within : i ≤ length ends
  pub safe : SafeFrom code from (drop i ends)
  pub rest : (many : ℕ) (rules : List (Form ℕ)) → Coded many code ends rules → (w : ℕ → Bool) → Sure leaves many w
      → Rest many code from (drop i ends) i w rules

pub begins : (code ends : List ℕ) (leaves : List ℕ) → SafeFrom code 0 ends → Going code ends leaves 0 0
begins code ends leaves s =
    record { within = omega arith; safe = s; rest = λ many rules h w v. record { left = rules; coded = h; same = refl } }

-- ---- one rule

module _ {code : List ℕ} {from end : ℕ} (leaves : List ℕ) {r : Bool} (says : RuleSays code from end leaves r) where
  rule_is : (many : ℕ) (rule : Form ℕ) → PartIs many code from end rule → (w : ℕ → Bool) → Sure leaves many w → r ≡ value w rule
  unfolding RuleSays Sure
  rule_is many rule h w s = says rule h.is_code w (λ i k. s i (h.atoms_below i k))

  -- the rule is met
  rest_met : (many : ℕ) (ends : List ℕ) (i : ℕ) (w : ℕ → Bool) (rules : List (Form ℕ)) → Sure leaves many w → r ≡ true
      → Rest many code from (end ∷ ends) i w rules → Rest many code end ends (suc i) w rules
  rest_met many ends i w rules s e rest = go rest.left rest.coded rest.same
    where
      go : (left : List (Form ℕ)) → CodedFrom many code from (end ∷ ends) left → judge_numbers 1 w rules ≡ judge_numbers (suc i) w left
          → Rest many code end ends (suc i) w rules
      go [] c q = absurd c
      go (f ∷ left) c q =
          record {
            left = left;
            coded = c.1;
            same = q ∙ ap (λ (b : Bool). cond b (judge_numbers (suc (suc i)) w left) (unmet (suc i)))
                (sym (rule_is many f c.0 w s) ∙ e);
          }

  -- the rule is not met
  rest_unmet : (many : ℕ) (ends : List ℕ) (i : ℕ) (w : ℕ → Bool) (rules : List (Form ℕ)) → Sure leaves many w → r ≡ false
      → Rest many code from (end ∷ ends) i w rules → judge_numbers 1 w rules ≡ unmet (suc i)
  rest_unmet many ends i w rules s e rest = go rest.left rest.coded rest.same
    where
      go : (left : List (Form ℕ)) → CodedFrom many code from (end ∷ ends) left → judge_numbers 1 w rules ≡ judge_numbers (suc i) w left
          → judge_numbers 1 w rules ≡ unmet (suc i)
      go [] c q = absurd c
      go (f ∷ left) c q =
          q ∙ ap (λ (b : Bool). cond b (judge_numbers (suc (suc i)) w left) (unmet (suc i))) (sym (rule_is many f c.0 w s) ∙ e)

-- no rule is left
rest_none : (many : ℕ) (code : List ℕ) (from i : ℕ) (w : ℕ → Bool) (rules : List (Form ℕ)) → Rest many code from [] i w rules
    → judge_numbers 1 w rules ≡ yes
rest_none many code from i w rules rest = go rest.left rest.coded rest.same
  where
    go : (left : List (Form ℕ)) → CodedFrom many code from [] left → judge_numbers 1 w rules ≡ judge_numbers (suc i) w left
        → judge_numbers 1 w rules ≡ yes
    go [] c q = q
    go (f ∷ left) c q = absurd c

-- ---- the loop

module _ {code ends : List ℕ} {leaves : List ℕ} {from i : ℕ} (g : Going code ends leaves from i) where
  module _ (l : i < length ends) where
    safe_next : PartSafe code from (get_or ends i 0) × SafeFrom code (get_or ends i 0) (drop (suc i) ends)
    safe_next = subst (SafeFrom code from) (drop-cons ends i 0 l) g.safe

    pub part_safe : PartSafe code from (get_or ends i 0)
    part_safe = safe_next.0

    rest_next : (many : ℕ) (rules : List (Form ℕ)) → Coded many code ends rules → (w : ℕ → Bool) → Sure leaves many w
        → Rest many code from (get_or ends i 0 ∷ drop (suc i) ends) i w rules
    rest_next many rules h w s = subst (λ (es : List ℕ). Rest many code from es i w rules) (drop-cons ends i 0 l) (g.rest many rules h w s)

    pub goes_on : {r : Bool} → RuleSays code from (get_or ends i 0) leaves r → r ≡ true → Going code ends leaves (get_or ends i 0) (i + 1)
    goes_on says e =
        subst (Going code ends leaves (get_or ends i 0)) (sym (add-one i))
        (record {
          within = l;
          safe = safe_next.1;
          rest = λ many rules h w s. rest_met leaves says many (drop (suc i) ends) i w rules s e (rest_next many rules h w s);
        })

    pub stops : {r : Bool} → RuleSays code from (get_or ends i 0) leaves r → r ≡ false → UnmetSays code ends leaves (Unmet (i + 1))
    unfolding UnmetSays
    stops says e = λ many rules h w s.
        ap Unmet (add-one i) ∙ sym (ap judged_of (rest_unmet leaves says many (drop (suc i) ends) i w rules s e (rest_next many rules h w s)))

  pub all_met : length ends ≤ i → UnmetSays code ends leaves Yes
  unfolding UnmetSays
  all_met l = λ many rules h w s.
      let none : drop i ends ≡ [] = drop_of_length-le ends l in
      sym (ap judged_of
      (rest_none many code from i w rules (subst (λ (es : List ℕ). Rest many code from es i w rules) none (g.rest many rules h w s))))
