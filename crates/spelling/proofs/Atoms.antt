-- Two atoms are the same exactly if both are contacts or neither is, and their symbols are the same, or are once the terms of the one are
-- exchanged: symbols determine the terms (Terms.antt), and with the sign the atom, for of the atoms that are no contacts <= has two terms
-- and =0 has one. Assumes nothing.
use mathlib.Core.Bool.{Bool, true, ◌||◌, decide_iff, or-true}
use mathlib.Core.Path.{◌≡◌, refl, sym, ap, ◌∙◌}
use mathlib.Core.Logic.{◌⊎◌, inl, inr, ⊎_elim}
use mathlib.Core.List.{[], ◌∷◌}
use Prim.Native.Nat.{ℕ}
use native.Mathlib.Decide.{ℕ_discrete}
use native.Mathlib.Omega.{arith}
use lib.ListN.{length, length-append}
use Rattle.formula.specs.Formula.{Term-discrete, Atom, Atom-discrete}
use Rattle.formula.specs.Atoms.{is_contact}
use Rattle.formula.specs.Same.{exchanged, equal_atom, same_atom}
use Rattle.lists.proofs.Truth.{clash, or_cases}
use Rattle.spelling.specs.Symbols.{symbols_of}
use Rattle.spelling.proofs.Terms.{terms_determined}

-- ---- atoms with the same symbols

pub atom_determined : (a b : Atom ℕ) → is_contact a ≡ is_contact b → symbols_of a ≡ symbols_of b → a ≡ b
atom_determined (Atom.contact s t) (Atom.contact u v) h e = let r = terms_determined (s ∷ t ∷ []) (u ∷ v ∷ []) e in cc
atom_determined (Atom.contact s t) (Atom.part u v) h e = clash refl h
atom_determined (Atom.contact s t) (Atom.empty v) h e = clash refl h
atom_determined (Atom.part s t) (Atom.contact u v) h e = clash h refl
atom_determined (Atom.part s t) (Atom.part u v) h e = let r = terms_determined (s ∷ t ∷ []) (u ∷ v ∷ []) e in cc
atom_determined (Atom.part s t) (Atom.empty v) h e = let r = ap length (terms_determined (s ∷ t ∷ []) (v ∷ []) e) in absurd (omega arith)
atom_determined (Atom.empty t) (Atom.contact u v) h e = clash h refl
atom_determined (Atom.empty t) (Atom.part u v) h e = let r = ap length (terms_determined (t ∷ []) (u ∷ v ∷ []) e) in absurd (omega arith)
atom_determined (Atom.empty t) (Atom.empty v) h e = let r = terms_determined (t ∷ []) (v ∷ []) e in cc

-- ---- the test

pub same_cases : (a b : Atom ℕ) → same_atom ℕ_discrete a b ≡ true → (a ≡ b) ⊎ (exchanged a ≡ b)
unfolding same_atom equal_atom
same_cases a b h =
    ⊎_elim (λ e. inl ((decide_iff (Atom-discrete (Term-discrete ℕ_discrete) a b)).0 e))
    (λ e. inr ((decide_iff (Atom-discrete (Term-discrete ℕ_discrete) (exchanged a) b)).0 e))
    (or_cases _ _ h)

pub same_equal : (a b : Atom ℕ) → a ≡ b → same_atom ℕ_discrete a b ≡ true
unfolding same_atom equal_atom
same_equal a b e = ap (λ (t : Bool). t || equal_atom ℕ_discrete (exchanged a) b) ((decide_iff (Atom-discrete (Term-discrete ℕ_discrete) a b)).1 e)

pub same_exchanged : (a b : Atom ℕ) → exchanged a ≡ b → same_atom ℕ_discrete a b ≡ true
unfolding same_atom equal_atom
same_exchanged a b e =
    ap (λ (t : Bool). equal_atom ℕ_discrete a b || t) ((decide_iff (Atom-discrete (Term-discrete ℕ_discrete) (exchanged a) b)).1 e) ∙ or-true (equal_atom ℕ_discrete a b)

-- ---- what atoms that are the same have in common

pub exchanged_sign : (a : Atom ℕ) → is_contact (exchanged a) ≡ is_contact a
exchanged_sign (Atom.contact s t) = refl
exchanged_sign (Atom.part s t) = refl
exchanged_sign (Atom.empty t) = refl

exchanged_long : (a : Atom ℕ) → length (symbols_of (exchanged a)) ≡ length (symbols_of a)
exchanged_long (Atom.contact s t) = simp length-append (omega arith)
exchanged_long (Atom.part s t) = refl
exchanged_long (Atom.empty t) = refl

pub same_sign : (a b : Atom ℕ) → same_atom ℕ_discrete a b ≡ true → is_contact a ≡ is_contact b
same_sign a b h = ⊎_elim (λ e. ap is_contact e) (λ e. sym (exchanged_sign a) ∙ ap is_contact e) (same_cases a b h)

pub same_long : (a b : Atom ℕ) → same_atom ℕ_discrete a b ≡ true → length (symbols_of a) ≡ length (symbols_of b)
same_long a b h =
    ⊎_elim (λ e. ap (λ (x : Atom ℕ). length (symbols_of x)) e)
    (λ e. sym (exchanged_long a) ∙ ap (λ (x : Atom ℕ). length (symbols_of x)) e) (same_cases a b h)
