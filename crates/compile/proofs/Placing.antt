-- An atom is put behind the others where it is none of them: its place is then their number, and the arrays hold one atom more; otherwise
-- its place is below their number, and the arrays are as they were. Assumes nothing.
use mathlib.Core.Bool.{Bool, true, false, cond}
use mathlib.Core.Path.{◌≡◌, refl, sym, ap, subst, ◌∙◌}
use mathlib.Core.List.{List, [], ◌∷◌, ◌++◌}
use Prim.Native.Nat.{ℕ, ◌≤◌, ◌<◌}
use native.Mathlib.Decide.{ℕ_discrete}
use native.Mathlib.Omega.{arith}
use lib.Dec.{eqb}
use lib.ListN.{length, get_or, set, length-append}
use Rattle.formula.specs.Formula.{Atom}
use Rattle.formula.specs.Same.{same_atom}
use Rattle.contact.specs.Putting.{is_in}
use Rattle.contact.proofs.Distinct.{position_in, position_out, position_most}
use Rattle.search.specs.declared.Chart.{Chart}
use Rattle.spelling.specs.Kept.{Keeps, Spells, Compares, Numbers, Stores}
use Rattle.spelling.proofs.Claims.{keeps_more}
use Rattle.compile.specs.declared.Atoms.{Atoms}
use Rattle.compile.specs.Kinds.{first_by, second_by}
use Rattle.compile.specs.Chart.{first_set, second_set, CompiledFrom, Grows}
use Rattle.compile.specs.Machine.{with_put, place_in}
use Rattle.compile.proofs.Charts.{grows_same, compiled_more}

-- the arrays hold the atoms: their sets, and the symbols of their terms
pub record Holds (a : Atoms) (kept : List ℕ) (atoms : List (Atom ℕ)) : Type 0 where
  pub compiled : CompiledFrom a.chart atoms
  pub keeps : Keeps kept a.lens a.chart.contact atoms

-- the row and the sets are those of the atom that a sign of this kind makes
pub record Shows (row : List ℕ) (len kind : ℕ) (x y : ℕ → Bool) (a : Atom ℕ) : Type 0 where
  pub spells : Spells row len (eqb kind 14) a
  pub first : first_by kind x y ≡ first_set a
  pub second : second_by kind y ≡ second_set a

-- a number is at most that of the atoms, which are at most sixteen
pub number_few : {kept lens : List ℕ} {contacts : List Bool} {many : ℕ} {row : List ℕ} {len : ℕ} {contact : Bool} {r : ℕ}
    → Compares kept lens contacts many row len contact → Numbers kept lens contacts many row len contact r → (r ≤ many) × (many ≤ 16)
unfolding Numbers
number_few q h = (
  omega (arith, h q.atoms q.atom q.counted q.keeps q.spells, position_most (same_atom ℕ_discrete) q.atoms q.atom, q.counted),
  omega (arith, q.counted, q.keeps.few),
)

-- the atoms with one that is among them, and with one that is not
module _ (atoms : List (Atom ℕ)) (a : Atom ℕ) where
  there_already : place_in atoms a < length atoms → with_put atoms a ≡ atoms
  there_already l = go (is_in (same_atom ℕ_discrete) atoms a) refl
    where
      go : (b : Bool) → is_in (same_atom ℕ_discrete) atoms a ≡ b → cond b atoms (atoms ++ a ∷ []) ≡ atoms
      go true e = refl
      go false e = absurd (omega (arith, position_out (same_atom ℕ_discrete) atoms a e))

  put_last : length atoms ≤ place_in atoms a → with_put atoms a ≡ atoms ++ a ∷ []
  put_last l = go (is_in (same_atom ℕ_discrete) atoms a) refl
    where
      go : (b : Bool) → is_in (same_atom ℕ_discrete) atoms a ≡ b → cond b atoms (atoms ++ a ∷ []) ≡ atoms ++ a ∷ []
      go true e = absurd (omega (arith, position_in (same_atom ℕ_discrete) atoms a e))
      go false e = refl

  -- one that has none of sixteen numbers is the seventeenth
  pub seventeen : length atoms ≤ 16 → 16 ≤ place_in atoms a → 16 < length (with_put atoms a)
  seventeen few l =
      omega (arith, ap length (put_last (omega arith)), length-append atoms (a ∷ []), position_most (same_atom ℕ_discrete) atoms a)

module _ {before : Atoms} {kept row : List ℕ} {len kind : ℕ} {x y : ℕ → Bool} {atoms : List (Atom ℕ)} {a : Atom ℕ} (holds : Holds before kept atoms)
    (shows : Shows row len kind x y a) (number : ℕ) (e : number ≡ place_in atoms a) where
  pub held_again : number < before.chart.atoms → Holds before kept (with_put atoms a)
  held_again l = subst (Holds before kept) (sym (there_already atoms a (omega (arith, holds.compiled.counted)))) holds

  pub held_more : {grown : Chart} {out : List ℕ} → before.chart.atoms ≤ number → number < 16 → length before.lens ≡ 16
      → Grows before.chart grown (eqb kind 14) (first_by kind x y) (second_by kind y) → Stores kept row len number out
      → Holds (record { chart = grown; lens = set before.lens number len }) out (with_put atoms a)
  held_more {grown} {out} l few long w stores =
      let z : number ≡ length atoms = omega (arith, holds.compiled.counted, position_most (same_atom ℕ_discrete) atoms a) in
      let n : before.chart.atoms ≡ number = omega (arith, holds.compiled.counted) in
      subst (Holds (record { chart = grown; lens = set before.lens number len }) out) (sym (put_last atoms a (omega (arith, holds.compiled.counted))))
      (record {
        compiled = compiled_more a holds.compiled (omega arith) (grows_same w shows.spells.sign shows.first shows.second);
        keeps = keeps_more kept before.lens before.chart.contact atoms row len (eqb kind 14) a number out grown.contact z holds.keeps few long shows.spells stores
            (λ i. w.contact_at i ∙ ap (λ (m : ℕ). cond (eqb i m) (eqb kind 14) (get_or before.chart.contact i false)) n);
      })
