-- What the crate proves, each claim with the file that has its proof: symbols are as good as terms, and one atom more is kept by one row
-- more. The contracts of `number_of` and `keep_row` are those of src/lib.rt. Assumes nothing.
use mathlib.Core.Bool.{Bool, true, false, cond}
use mathlib.Core.Path.{◌≡◌, ap, ◌∙◌}
use mathlib.Core.Logic.{◌↔◌, ◌⊎◌, inl, inr, ⊎_elim}
use mathlib.Core.List.{List, [], ◌∷◌, ◌++◌}
use Prim.Native.Nat.{ℕ, ◌<◌}
use native.Mathlib.Decide.{ℕ_discrete}
use lib.Dec.{eqb}
use lib.ListN.{length, get_or, set}
use Rattle.formula.specs.Formula.{Term, Atom}
use Rattle.formula.specs.Atoms.{is_contact}
use Rattle.formula.specs.Same.{exchanged, same_atom}
use Rattle.lists.specs.Search.{collect}
use Rattle.spelling.specs.Symbols.{spelled, symbols_of}
use Rattle.spelling.specs.Kept.{Keeps, Spells, Storing, Stores}
use Rattle.spelling.proofs.Atoms.{atom_determined, same_cases, same_equal, same_exchanged, exchanged_sign, same_sign}
use Rattle.spelling.proofs.Terms
use Rattle.spelling.proofs.Storing

-- ---- symbols and terms (Terms, Atoms)

-- terms with the same symbols, one after the other, are the same
pub terms_determined : (ts us : List (Term ℕ)) → collect spelled ts ≡ collect spelled us → ts ≡ us
terms_determined = Terms.terms_determined

-- two atoms are the same exactly if both are contacts or neither is, and their symbols are the same, or are with the terms exchanged
pub number_exactly : (a b : Atom ℕ)
    → (same_atom ℕ_discrete a b ≡ true) ↔ ((is_contact a ≡ is_contact b) × ((symbols_of a ≡ symbols_of b) ⊎ (symbols_of (exchanged a) ≡ symbols_of b)))
number_exactly a b = (
  λ h. (same_sign a b h, ⊎_elim (λ e. inl (ap symbols_of e)) (λ e. inr (ap symbols_of e)) (same_cases a b h)),
  λ h. ⊎_elim (λ e. same_equal a b (atom_determined a b h.0 e))
      (λ e. same_exchanged a b (atom_determined (exchanged a) b (exchanged_sign a ∙ h.0) e)) h.1,
)

-- ---- for a caller of `number_of` and `keep_row` (Storing)

-- at the start no atom is kept
pub keeps_none : (kept lens : List ℕ) (contacts : List Bool) → length kept ≡ 2048 → Keeps kept lens contacts []
keeps_none = Storing.keeps_none

-- the row of an atom may be stored
pub storing : {kept row : List ℕ} {len number : ℕ} {contact : Bool} {a : Atom ℕ} → length kept ≡ 2048 → Spells row len contact a → number < 16
    → Storing kept row len number
storing = Storing.spells_storing

-- once it is, at the place behind the atoms that are kept, these and it are
pub keeps_more : (kept lens : List ℕ) (contacts : List Bool) (atoms : List (Atom ℕ)) (row : List ℕ) (len : ℕ) (contact : Bool) (a : Atom ℕ)
    (number : ℕ) (out : List ℕ) (signs : List Bool) → number ≡ length atoms → Keeps kept lens contacts atoms → number < 16 → length lens ≡ 16
    → Spells row len contact a → Stores kept row len number out
    → ((i : ℕ) → get_or signs i false ≡ cond (eqb i number) contact (get_or contacts i false))
    → Keeps out (set lens number len) signs (atoms ++ a ∷ [])
keeps_more = Storing.keeps_more
