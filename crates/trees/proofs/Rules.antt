-- A rule in a branch: its part of the code, run on the branch's values of the atoms. Assumes nothing.
use mathlib.Core.Bool.{Bool, true, false, not}
use mathlib.Core.Path.{◌≡◌, refl, sym, ap, ap₂, ◌∙◌}
use mathlib.Core.List.{List, [], ◌∷◌}
use mathlib.Mathlib.Data.Bool.Basic.{eq-false_of_not-eq-true}
use Prim.Native.Nat.{ℕ, zero, suc, ◌+◌, ◌-◌, ◌/◌, ◌^◌, ◌<◌}
use native.Mathlib.Decide.{ℕ_discrete as dec_eq}
use native.Mathlib.Omega.{arith}
use lib.Bits.{bit_xor}
use lib.ListN.{length, get_or, set, length-set}
use lib.Seq.{get_or-set_same, get_or-set_other}
use Rattle.formula.specs.Formula.{Form}
use Rattle.evalset.specs.Bit.{bit}
use Rattle.evalset.proofs.Bits.{bit_xor_lem, bit_shr}
use Rattle.contact.specs.Row.{Three, is, unknown, PartialRow}
use Rattle.kleene.specs.Rails.{duo, duo_of, exec, rails_at, word_rows}
use Rattle.kleene.proofs.Claims.{rails_refuted}
use Rattle.pairing.proofs.Words.{differs}
use Rattle.solver.specs.Coded.{part, PartSafe, SafeFrom, PartIs, CodedFrom}
use Rattle.trees.specs.declared.Branch.{Branch}
use Rattle.trees.specs.Closed.{value_in}
use Rattle.trees.specs.Checker.{is_unknown, false_there}
use Rattle.trees.specs.Branch.{is_true, IsBranch, LeavesSay, start_of, RuleSays}
use Rattle.trees.proofs.Spelling.{false_meant}

-- ---- the part of the code at a place

pub safe_at : (code : List ℕ) (from : ℕ) (ends : List ℕ) (j : ℕ) → SafeFrom code from ends → j < length ends
    → PartSafe code (start_of from ends j) (get_or ends j 0)
safe_at code from [] j h l = absurd (omega arith)
safe_at code from (end ∷ ends) zero h l = h.0
safe_at code from (end ∷ ends) (suc zero) h l = safe_at code end ends zero h.1 (omega arith)
safe_at code from (end ∷ ends) (suc (suc j)) h l = safe_at code end ends (suc j) h.1 (omega arith)

pub coded_at : (many : ℕ) (code : List ℕ) (from : ℕ) (ends : List ℕ) (rules : List (Form ℕ)) (j : ℕ) → CodedFrom many code from ends rules
    → j < length ends → PartIs many code (start_of from ends j) (get_or ends j 0) (get_or rules j Form.truth)
coded_at many code from [] rules j h l = absurd (omega arith)
coded_at many code from (end ∷ ends) [] j h l = absurd h
coded_at many code from (end ∷ ends) (rule ∷ rules) zero h l = h.0
coded_at many code from (end ∷ ends) (rule ∷ rules) (suc zero) h l = coded_at many code end ends rules zero h.1 (omega arith)
coded_at many code from (end ∷ ends) (rule ∷ rules) (suc (suc j)) h l = coded_at many code end ends rules (suc j) h.1 (omega arith)

pub coded_length : (many : ℕ) (code : List ℕ) (from : ℕ) (ends : List ℕ) (rules : List (Form ℕ)) → CodedFrom many code from ends rules
    → length ends ≡ length rules
coded_length many code from [] [] h = refl
coded_length many code from [] (rule ∷ rules) h = absurd h
coded_length many code from (end ∷ ends) [] h = absurd h
coded_length many code from (end ∷ ends) (rule ∷ rules) h = ap suc (coded_length many code end ends rules h.1)

-- ---- leaves

-- so far the first i
abbrev pub LeavesTo : ℕ → ℕ → ℕ → List ℕ → Type 0
LeavesTo word many i r = (length r ≡ 16) × ((k : ℕ) → k < i → bit (get_or r k 0) 0 ≡ bit word (many - 1 - k))

pub leaves_next : (word many i : ℕ) (r : List ℕ) → i < 16 → LeavesTo word many i r → LeavesTo word many (i + 1) (set r i (word / 2 ^ (many - 1 - i)))
leaves_next word many i r l h = (length-set r i new ∙ h.0, λ k m. each k m (dec_eq k i))
  where
    new : ℕ
    new = word / 2 ^ (many - 1 - i)

    each : (k : ℕ) → k < i + 1 → Dec (k ≡ i) → bit (get_or (set r i new) k 0) 0 ≡ bit word (many - 1 - k)
    each k m (yes e) =
        let z : many - 1 - i + 0 ≡ many - 1 - k = omega arith in
        ap (λ (x : ℕ). bit (get_or (set r i new) x 0) 0) e ∙ ap (λ (x : ℕ). bit x 0) (get_or-set_same r i new 0 (omega (arith, h.0)))
        ∙ bit_shr word (many - 1 - i) 0 ∙ ap (bit word) z
    each k m (no ne) = ap (λ (x : ℕ). bit x 0) (get_or-set_other r i k new 0 ne) ∙ h.1 k (omega (arith, ne))

-- ---- a rule

module _ (code ends : List ℕ) (many : ℕ) (b : Branch) where
  pub rule_none : (k : ℕ) → k ≡ 0 → RuleSays code ends many b k false
  unfolding RuleSays
  rule_none k e rules coded p h = sym (ap (false_there rules p) e)

  pub rule_past : (k : ℕ) → length ends < k → RuleSays code ends many b k false
  unfolding RuleSays
  rule_past k l rules coded p h =
      sym (eq-false_of_not-eq-true (λ t. omega (arith, (false_meant rules p k t).named, coded_length many code 0 ends rules coded)))

  module _ (yes no : List ℕ) (ts : LeavesSay b.truth many yes) (fs : LeavesSay (bit_xor b.known b.truth) many no) where
    -- an atom's rails
    rails : (p : PartialRow) → IsBranch many b p → (i : ℕ) → i < many → rails_at yes no 0 i ≡ duo_of (value_in p i)
    rails p h i l =
        let z : many - 1 - (many - 1 - i) ≡ i = omega arith in
        let at : ℕ = many - 1 - i in
        let t : bit b.truth at ≡ is_true (value_in p i) = h.truth_is.bits at (omega arith) ∙ ap (λ (x : ℕ). is_true (value_in p x)) z in
        let k : bit b.known at ≡ not (is_unknown (value_in p i)) =
        h.known_is.bits at (omega arith) ∙ ap (λ (x : ℕ). not (is_unknown (value_in p x))) z in
        ap₂ duo (ts.bits i l ∙ t) (fs.bits i l ∙ bit_xor_lem b.known b.truth at ∙ ap₂ differs k t) ∙ value (value_in p i)
      where
        value : (t : Three) → duo (is_true t) (differs (not (is_unknown t)) (is_true t)) ≡ duo_of t
        value (is true) = refl
        value (is false) = refl
        value unknown = refl

    pub rule_at : (k j from end y n : ℕ) → k ≡ suc j → from ≡ start_of 0 ends j → end ≡ get_or ends j 0 → j < length ends
        → ((e : ℕ) → e < word_rows → exec (rails_at yes no e) (part code from end) [] ≡ duo (bit y e) (bit n e) ∷ [])
        → (r : Bool) → r ≡ bit n 0 → RuleSays code ends many b k r
    unfolding RuleSays
    rule_at k j from end y n ek ef ee l ran r er rules coded p h =
        let at = coded_at many code 0 ends rules j coded l in
        let rule = get_or rules j Form.truth in
        er
        ∙ rails_refuted rule yes no 0 y n (value_in p)
        (ap (λ (cs : List ℕ). exec (rails_at yes no 0) cs []) (sym (ap₂ (part code) ef ee ∙ at.is_code)) ∙ ran 0 (omega arith))
        (λ i m. rails p h i (at.atoms_below i m))
        ∙ sym (ap (false_there rules p) ek)
