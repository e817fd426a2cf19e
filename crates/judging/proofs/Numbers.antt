-- Numbered rules are judged as the rules are: the value of each number is that of its atom, so a numbered rule has the value of the rule.
-- Assumes nothing.
use mathlib.Core.Bool.{Bool, cond}
use mathlib.Core.Path.{◌≡◌, refl, ap₂}
use mathlib.Core.List.{List, [], ◌∷◌, map}
use Prim.Native.Nat.{ℕ, suc}
use Rattle.formula.specs.Formula.{Atom, Formula}
use Rattle.formula.specs.Atoms.{atoms_of}
use Rattle.lists.proofs.Search.{in_left, in_right}
use Rattle.contact.specs.Meaning.{Floor, atom_on}
use Rattle.contact.specs.Numbering.{all_atoms, map_form}
use Rattle.contact.proofs.Numbered.{Agrees, number_value}
use Rattle.plan.specs.Judging.{Judgement, unmet, judge_from}
use Rattle.judging.specs.Values.{judge_numbers}

module _ {N : Type 0} (F : Floor N) (h : Atom N → ℕ) (w : ℕ → Bool) where
  -- the rules are numbered from `one`
  pub numbers_judged : (one : ℕ) (rules : List (Formula N)) → Agrees h w (atom_on F) (all_atoms rules) → judge_numbers one w (map (map_form h) rules) ≡ judge_from one F rules
  numbers_judged one [] u = refl
  numbers_judged one (f ∷ rules) u =
      ap₂ (λ (b : Bool) (j : Judgement). cond b j (unmet one))
      (number_value h w (atom_on F) f (λ a i. u a (in_left (all_atoms rules) i)))
      (numbers_judged (suc one) rules (λ a i. u a (in_right (atoms_of f) i)))
