-- Atoms are the same exactly if they are equal, or equal once the terms of a C are exchanged, since equality is decided; equal atoms have
-- equal signs and equal terms. Assumes nothing.
use mathlib.Core.Bool.{true, decide_iff}
use mathlib.Core.HLevel.{Discrete}
use mathlib.Core.Logic.{◌⊎◌, inl, inr, ⊎_elim, ◌↔◌}
use mathlib.Core.Path.{◌≡◌, refl, sym, ap, ap₂, ◌∙◌}
use mathlib.Mathlib.Data.Bool.Basic.{or_inl, or_inr}
use Prim.Native.Nat.{ℕ}
use Rattle.lists.proofs.Truth.{or_cases}
use Rattle.formula.specs.Formula.{Term, Term-discrete, Atom, Atom-discrete}
use Rattle.formula.specs.Same.{exchanged, equal_atom, same_atom}

module _ {N : Type 0} where
  -- a number for each sign, and the terms
  abbrev pub sign_of : Atom N → ℕ
  sign_of (Atom.contact s t) = 0
  sign_of (Atom.part s t) = 1
  sign_of (Atom.empty t) = 2

  abbrev first_of : Atom N → Term N
  first_of (Atom.contact s t) = s
  first_of (Atom.part s t) = s
  first_of (Atom.empty t) = t

  abbrev last_of : Atom N → Term N
  last_of (Atom.contact s t) = t
  last_of (Atom.part s t) = t
  last_of (Atom.empty t) = t

  exchanged_sign : (a : Atom N) → sign_of (exchanged a) ≡ sign_of a
  exchanged_sign (Atom.contact s t) = refl
  exchanged_sign (Atom.part s t) = refl
  exchanged_sign (Atom.empty t) = refl

  module _ (names : Discrete N) where
    equal_atom_lem : (a b : Atom N) → (equal_atom names a b ≡ true) ↔ (a ≡ b)
    unfolding equal_atom
    equal_atom_lem a b = decide_iff (Atom-discrete (Term-discrete names) a b)

    pub same_atom_lem : (a b : Atom N) → (same_atom names a b ≡ true) ↔ ((a ≡ b) ⊎ (exchanged a ≡ b))
    unfolding same_atom
    same_atom_lem a b = (
      λ h. ⊎_elim (λ e. inl ((equal_atom_lem a b).0 e)) (λ e. inr ((equal_atom_lem (exchanged a) b).0 e)) (or_cases (equal_atom names a b) (equal_atom names (exchanged a) b) h),
      ⊎_elim (λ e. or_inl (equal_atom names a b) (equal_atom names (exchanged a) b) ((equal_atom_lem a b).1 e))
          (λ e. or_inr (equal_atom names a b) (equal_atom names (exchanged a) b) ((equal_atom_lem (exchanged a) b).1 e)),
    )

    -- "the same sign"
    pub same_sign : (a b : Atom N) → same_atom names a b ≡ true → sign_of a ≡ sign_of b
    same_sign a b h = ⊎_elim (λ e. ap sign_of e) (λ e. sym (exchanged_sign a) ∙ ap sign_of e) ((same_atom_lem a b).0 h)

    -- "and the same terms as read, and for C also with its terms exchanged"
    pub same_contact : (s t u v : Term N)
        → (same_atom names (Atom.contact s t) (Atom.contact u v) ≡ true) ↔ (((s ≡ u) × (t ≡ v)) ⊎ ((s ≡ v) × (t ≡ u)))
    same_contact s t u v = (
      λ h. ⊎_elim (λ e. inl (ap first_of e, ap last_of e)) (λ e. inr (ap last_of e, ap first_of e)) ((same_atom_lem (Atom.contact s t) (Atom.contact u v)).0 h),
      λ k. (same_atom_lem (Atom.contact s t) (Atom.contact u v)).1
          (⊎_elim (λ e. inl (ap₂ Atom.contact e.0 e.1)) (λ e. inr (ap₂ Atom.contact e.1 e.0)) k),
    )

    pub same_part : (s t u v : Term N) → (same_atom names (Atom.part s t) (Atom.part u v) ≡ true) ↔ ((s ≡ u) × (t ≡ v))
    same_part s t u v = (
      λ h. ⊎_elim (λ e. (ap first_of e, ap last_of e)) (λ e. (ap first_of e, ap last_of e)) ((same_atom_lem (Atom.part s t) (Atom.part u v)).0 h),
      λ k. (same_atom_lem (Atom.part s t) (Atom.part u v)).1 (inl (ap₂ Atom.part k.0 k.1)),
    )

    pub same_empty : (s t : Term N) → (same_atom names (Atom.empty s) (Atom.empty t) ≡ true) ↔ (s ≡ t)
    same_empty s t = (
      λ h. ⊎_elim (λ e. ap first_of e) (λ e. ap first_of e) ((same_atom_lem (Atom.empty s) (Atom.empty t)).0 h),
      λ e. (same_atom_lem (Atom.empty s) (Atom.empty t)).1 (inl (ap Atom.empty e)),
    )
