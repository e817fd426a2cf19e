-- The formulas that the grammar derives from rules are those that are computed from their texts, so that there is exactly one list of
-- them, and what is counted in it is what is counted in the texts. Assumes nothing.
use Prim.Native.Nat.{◌≤◌}
use mathlib.Core.Path.{◌≡◌, refl, sym, ap, ap₂, subst, ◌∙◌}
use mathlib.Core.Logic.{⊎_elim}
use mathlib.Core.List.{List, [], ◌∷◌}
use native.Mathlib.Omega.{arith}
use lib.ListN.{length}
use Rattle.formula.specs.Formula.{Formula, Name}
use Rattle.syntax.specs.RuleText.{IsRule, formula}
use Rattle.syntax.specs.Rule.{rule_of}
use Rattle.syntax.specs.declared.RuleAnswer.TheVariants as RuleAnswer
use Rattle.syntax.proofs.Claims.{text_answered_only, text_means, is_rule}
use Rattle.lists.specs.Search.{In, here, next}
use Rattle.lists.proofs.Search.{none_in, uncons}
use Rattle.contact.specs.Numbering.{different_atoms, names_of}
use Rattle.table.specs.Sheet.{Text}
use Rattle.table.specs.Rules.{AreRules, CanStand}
use Rattle.table.specs.Calls.{formulas_of, names_in, atoms_in}

-- every text is read
abbrev pub AllRead : List Text → Type 0
AllRead rs = (s : Text) → In s rs → (rule_of s).answer ≡ RuleAnswer.Formula

-- a rule is read
pub rule_answer : (s : Text) (f : Formula Name) → IsRule s f → (rule_of s).answer ≡ RuleAnswer.Formula
rule_answer s f r = sym (text_answered_only s RuleAnswer.Formula (formula r))

pub are_read : (rs : List Text) (fs : List (Formula Name)) → AreRules rs fs → AllRead rs
are_read [] fs AreRules.none s i = none_in i
are_read (r ∷ rs) fs (AreRules.more {f = f} {fs = gs} h others) s i =
    ⊎_elim (λ e. ap (λ (x : Text). (rule_of x).answer) e ∙ rule_answer r f h) (are_read rs gs others s) (uncons i)

-- the formulas are those that are computed
pub are_formulas : (rs : List Text) (fs : List (Formula Name)) → AreRules rs fs → fs ≡ formulas_of rs
are_formulas [] fs AreRules.none = refl
are_formulas (r ∷ rs) fs (AreRules.more {f = f} {fs = gs} h others) =
    ap₂ (λ (x : Formula Name) (xs : List (Formula Name)). x ∷ xs) (sym (text_means r f h)) (are_formulas rs gs others)

pub formulas_are : (rs : List Text) → AllRead rs → AreRules rs (formulas_of rs)
formulas_are [] read = AreRules.none
formulas_are (s ∷ rs) read = AreRules.more (is_rule s (read s here)) (formulas_are rs (λ t i. read t (next i)))

-- so what is said of them is said of the computed ones
pub of_computed : (rs : List Text) (fs : List (Formula Name)) → AreRules rs fs → (P : List (Formula Name) → Type 0) → P fs → P (formulas_of rs)
of_computed rs fs h P = subst P (are_formulas rs fs h)

-- there is one list of them
pub are_one : (rs : List Text) (fs gs : List (Formula Name)) → AreRules rs fs → AreRules rs gs → fs ≡ gs
are_one rs fs gs h k = are_formulas rs fs h ∙ sym (are_formulas rs gs k)

-- ---- what is counted

pub are_names : (rs : List Text) (fs : List (Formula Name)) → AreRules rs fs → names_of fs ≡ names_in rs
unfolding names_in
are_names rs fs h = ap names_of (are_formulas rs fs h)

pub are_atoms : (rs : List Text) (fs : List (Formula Name)) → AreRules rs fs → length (different_atoms fs) ≡ atoms_in rs
unfolding atoms_in
are_atoms rs fs h = ap (λ (gs : List (Formula Name)). length (different_atoms gs)) (are_formulas rs fs h)

-- ---- texts that can stand

module _ (rs : List Text) (h : CanStand rs) where
  pub can_read : AllRead rs
  can_read = are_read rs h.formulas h.rules

  pub can_rules : AreRules rs (formulas_of rs)
  can_rules = formulas_are rs can_read

  pub can_names : length (names_in rs) ≤ 8
  can_names = omega (arith, h.names, ap length (are_names rs h.formulas h.rules))

  pub can_atoms : atoms_in rs ≤ 16
  can_atoms = omega (arith, h.atoms, are_atoms rs h.formulas h.rules)

-- from what is computed
pub can_stand : (rs : List Text) → length rs ≤ 16 → AllRead rs → length (names_in rs) ≤ 8 → atoms_in rs ≤ 16 → CanStand rs
unfolding names_in atoms_in
can_stand rs few read names atoms = record { formulas = formulas_of rs; rules = formulas_are rs read; few = few; names = names; atoms = atoms }
