-- The set of a term is made of the sets of its parts: at each evaluation below room the signs are the connectives. Assumes nothing.
use mathlib.Core.Bool.{and-true, and-false, and-or_distrib_left}
use mathlib.Core.Path.{◌≡◌, refl, sym, fun_ext}
use Prim.Native.Nat.{ℕ}
use lib.Dec.{ltb}
use Rattle.lists.proofs.Truth.{cut_not, cut_and, cut_less}
use Rattle.formula.specs.Formula.{Term}
use Rattle.evalset.specs.Sets.{room, none_of, full_of, name_set, meet_of, join_of, minus_of}
use Rattle.contact.specs.Meaning.{part_term}
use Rattle.contact.specs.Plan.{at}
use Rattle.compile.specs.Chart.{set_of}

pub of_zero : none_of ≡ set_of Term.zero
unfolding set_of
of_zero = fun_ext (λ e. sym (and-false (ltb e room)))

pub of_one : full_of ≡ set_of Term.one
unfolding set_of
of_one = fun_ext (λ e. sym (and-true (ltb e room)))

pub of_name : (i : ℕ) → name_set i ≡ set_of (Term.name i)
unfolding set_of
of_name i = refl

module _ (t u : Term ℕ) where
  pub of_intersection : meet_of (set_of t) (set_of u) ≡ set_of (Term.intersection t u)
  unfolding set_of
  of_intersection = fun_ext (λ e. cut_and (ltb e room) (at t e) (at u e))

  pub of_union : join_of (set_of t) (set_of u) ≡ set_of (Term.union t u)
  unfolding set_of
  of_union = fun_ext (λ e. sym (and-or_distrib_left (ltb e room) (at t e) (at u e)))

  pub of_part : minus_of (set_of t) (set_of u) ≡ set_of (part_term t u)
  unfolding set_of
  of_part = fun_ext (λ e. cut_less (ltb e room) (at t e) (at u e))

pub of_complement : (t : Term ℕ) → minus_of full_of (set_of t) ≡ set_of (Term.complement t)
unfolding set_of
of_complement t = fun_ext (λ e. cut_not (ltb e room) (at t e))
