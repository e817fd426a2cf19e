-- Atoms are the same exactly if they are equal, or equal once the terms of a C are exchanged; so the test is an equivalence. Contact is symmetric, so atoms that are the same have the same value on every floor. Other names for the names, different
-- for different ones, leave the same atoms the same and different ones different. Assumes nothing.
use mathlib.Core.Bool.{true, ◌||◌, or_comm}
use mathlib.Core.HLevel.{Discrete}
use mathlib.Core.Path.{◌≡◌, refl, sym, ap, ◌∙◌}
use mathlib.Core.Logic.{inl, inr, ⊎_elim}
use mathlib.Mathlib.Data.Bool.Basic.{eq-false_of_not-eq-true}
use Rattle.formula.specs.Formula.{Term, Atom}
use Rattle.formula.specs.Same.{exchanged, equal_atom, same_atom}
use Rattle.formula.proofs.Same.{same_atom_lem}
use Rattle.lists.proofs.Truth.{clash, cases}
use Rattle.contact.specs.Meaning.{Floor, touches, atom_on}
use Rattle.contact.specs.Numbering.{map_atom}
use Rattle.contact.proofs.Realise.{touches_intro, touches_elim}
use Rattle.contact.proofs.Distinct.{Alike}

module _ {N : Type 0} where
  twice : (a : Atom N) → exchanged (exchanged a) ≡ a
  twice (Atom.contact s t) = refl
  twice (Atom.part s t) = refl
  twice (Atom.empty t) = refl

  module _ (names : Discrete N) where
    exchanged_same : (a z : Atom N) → same_atom names (exchanged a) z ≡ same_atom names a z
    unfolding same_atom
    exchanged_same a z = ap (λ (b : Atom N). equal_atom names (exchanged a) z || equal_atom names b z) (twice a) ∙ or_comm (equal_atom names (exchanged a) z) (equal_atom names a z)

    pub same_alike : Alike (same_atom names)
    same_alike =
        record {
          self = λ a. (same_atom_lem names a a).1 (inl refl);
          alike = λ a b h z.
              ⊎_elim (λ e. ap (λ (c : Atom N). same_atom names c z) e)
              (λ e. sym (exchanged_same a z) ∙ ap (λ (c : Atom N). same_atom names c z) e) ((same_atom_lem names a b).0 h);
        }

  -- ---- on a floor

  module _ (F : Floor N) where
    -- a point of the one in contact with a point of the other
    turned : (s t : Term N) → touches F s t ≡ true → touches F t s ≡ true
    turned s t h =
        let m = touches_elim F s t h in
        touches_intro F t s m.q m.p m.q_lt m.p_lt m.q_in m.p_in (F.symmetric m.p m.q m.p_lt m.q_lt m.meet)

    exchanged_value : (a : Atom N) → atom_on F (exchanged a) ≡ atom_on F a
    exchanged_value (Atom.contact s t) =
        cases (touches F s t) (λ e. turned s t e ∙ sym e) (λ e. eq-false_of_not-eq-true (λ f. clash (turned t s f) e) ∙ sym e)
    exchanged_value (Atom.part s t) = refl
    exchanged_value (Atom.empty t) = refl

    pub same_value : (names : Discrete N) (a b : Atom N) → same_atom names a b ≡ true → atom_on F a ≡ atom_on F b
    same_value names a b h =
        ⊎_elim (λ e. ap (atom_on F) e) (λ e. sym (exchanged_value a) ∙ ap (atom_on F) e) ((same_atom_lem names a b).0 h)

-- ---- other names for the names

module _ {N M : Type 0} (names : Discrete N) (others : Discrete M) (g : N → M) (back : M → N) where
  exchanged_map : (a : Atom N) → exchanged (map_atom g a) ≡ map_atom g (exchanged a)
  exchanged_map (Atom.contact s t) = refl
  exchanged_map (Atom.part s t) = refl
  exchanged_map (Atom.empty t) = refl

  exchanged_back : (a : Atom N) → map_atom back (map_atom g a) ≡ a → map_atom back (map_atom g (exchanged a)) ≡ exchanged a
  exchanged_back (Atom.contact s t) e = ap exchanged e
  exchanged_back (Atom.part s t) e = e
  exchanged_back (Atom.empty t) e = e

  pub same_map : (a b : Atom N) → map_atom back (map_atom g a) ≡ a → map_atom back (map_atom g b) ≡ b
      → same_atom others (map_atom g a) (map_atom g b) ≡ same_atom names a b
  same_map a b p q = cases (same_atom names a b) (λ h. there h ∙ sym h) (λ h. eq-false_of_not-eq-true (λ k. clash (here_too k) h) ∙ sym h)
    where
      there : same_atom names a b ≡ true → same_atom others (map_atom g a) (map_atom g b) ≡ true
      there h =
          (same_atom_lem others (map_atom g a) (map_atom g b)).1
          (⊎_elim (λ e. inl (ap (map_atom g) e)) (λ e. inr (exchanged_map a ∙ ap (map_atom g) e)) ((same_atom_lem names a b).0 h))

      here_too : same_atom others (map_atom g a) (map_atom g b) ≡ true → same_atom names a b ≡ true
      here_too h =
          (same_atom_lem names a b).1
          (⊎_elim (λ e. inl (sym p ∙ ap (map_atom back) e ∙ q))
          (λ e. inr (sym (exchanged_back a p) ∙ ap (map_atom back) (sym (exchanged_map a) ∙ e) ∙ q)) ((same_atom_lem others (map_atom g a) (map_atom g b)).0 h))
