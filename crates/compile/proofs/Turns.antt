-- One sign of a formula behind those before it: what `signed` answers, and the chart with the atom stored where it is none of those before,
-- are the rule with the sign behind it, over every list of atoms that the arrays hold, and every atom that the sign makes. Assumes
-- nothing.
use mathlib.Core.Bool.{Bool, true, false}
use mathlib.Core.Path.{◌≡◌, refl, sym, ap, subst}
use mathlib.Core.List.{List}
use Prim.Native.Nat.{ℕ, ◌+◌, ◌≤◌, ◌<◌}
use native.Mathlib.Decide.{ℕ_discrete}
use native.Mathlib.Omega.{arith}
use lib.Arith.{lt_of_le-ne}
use lib.Dec.{eqb}
use lib.ListN.{length, set, length-set}
use Rattle.lists.proofs.Truth.{clash, cases, cond_holds}
use Rattle.formula.specs.Formula.{Atom}
use Rattle.formula.specs.Same.{same_atom}
use Rattle.contact.proofs.Distinct.{position_most}
use Rattle.search.specs.declared.Chart.{Chart}
use Rattle.kleene.specs.Code.{atom_sign}
use Rattle.compile.specs.declared.Atoms.{Atoms}
use Rattle.compile.specs.Kinds.{atom_kind, first_by, second_by, sign_by}
use Rattle.compile.specs.Chart.{Grows}
use Rattle.compile.specs.Machine.{with_put, place_in}
use Rattle.compile.specs.Compiles.{atoms_with}
use Rattle.compile.specs.Signs.{Signs}
use Rattle.compile.proofs.Placing.{Holds, Shows, held_again, held_more}

-- a rule on the way: its atoms, where its code ends, and whether sixteen atoms are enough so far
pub record Turned : Type 0 where
  pub atoms : Atoms
  pub end : ℕ
  pub enough : Bool

abbrev pub turned : Chart → List ℕ → ℕ → Bool → Turned
turned chart lens end enough = record { atoms = atoms_with chart lens; end = end; enough = enough }

-- the sign v is written behind those before
pub record Written (before r : Turned) (buf : List ℕ) (v : ℕ) (out : List ℕ) : Type 0 where
  pub names_kept : r.atoms.chart.names ≡ before.atoms.chart.names
  pub ends : r.end ≡ before.end + 1
  pub wrote : out ≡ set buf before.end v

-- the sign of an atom is its number's, and its atom stands behind those before, or it is the seventeenth; another sign leaves the atoms as
-- they were
pub record Turns (before : Turned) (kept buf row : List ℕ) (len kind : ℕ) (x y : ℕ → Bool) (r : Turned) (keptOut out : List ℕ) : Type 0 where
  pub long : length out ≡ length buf
  pub atom_put : atom_kind kind ≡ true → r.enough ≡ true → (atoms : List (Atom ℕ)) (a : Atom ℕ) → Holds before.atoms kept atoms
      → Shows row len kind x y a → Written before r buf (atom_sign (place_in atoms a)) out × Holds r.atoms keptOut (with_put atoms a)
  pub too_many : r.enough ≡ false
      → (atom_kind kind ≡ true) × ((atoms : List (Atom ℕ)) (a : Atom ℕ) → Holds before.atoms kept atoms → Shows row len kind x y a → 16 ≤ place_in atoms a)
  pub sign_put : atom_kind kind ≡ false
      → Written before r buf (sign_by kind) out × ((atoms : List (Atom ℕ)) → Holds before.atoms kept atoms → Holds r.atoms keptOut atoms)

-- the codes of the signs that make no atom are below those of atoms
pub sign_small : (k : ℕ) → sign_by k < 7
unfolding sign_by
sign_small k =
    let small : ℕ → Type 0 = λ v. v < 7 in
    cond_holds small (eqb k 7) _ _ (omega arith)
    (cond_holds small (eqb k 3) _ _ (omega arith)
    (cond_holds small (eqb k 2) _ _ (omega arith)
    (cond_holds small (eqb k 0) _ _ (omega arith)
    (cond_holds small (eqb k 1) _ _ (omega arith) (cond_holds small (eqb k 13) _ _ (omega arith) (omega arith))))))

module _ (chart : Chart) (lens : List ℕ) {kept row : List ℕ} {len kind sign : ℕ} {keptOut lensOut : List ℕ}
    (says : Signs kept lens chart.contact chart.atoms row len kind sign keptOut lensOut) where
  -- the sign of an atom is that of its place
  place_is : {x y : ℕ → Bool} → atom_kind kind ≡ true → (atoms : List (Atom ℕ)) (a : Atom ℕ) → Holds (atoms_with chart lens) kept atoms
      → Shows row len kind x y a → sign ≡ atom_sign (place_in atoms a)
  place_is k atoms a H S = says.placed k atoms a H.compiled.counted H.keeps S.spells

  module _ (end : ℕ) (buf : List ℕ) (x y : ℕ → Bool) where
    pub seventeenth : 23 ≤ sign → Turns (turned chart lens end true) kept buf row len kind x y (turned chart lensOut end false) keptOut buf
    seventeenth l =
        record {
          long = refl;
          atom_put = λ k b. clash b refl;
          too_many = λ b. (
            cases (atom_kind kind) (λ k. k) (λ k. absurd (omega (arith, says.other k, sign_small kind))),
            λ atoms a H S. cases (atom_kind kind) (λ k. omega (arith, place_is k atoms a H S)) (λ k. absurd (omega (arith, says.other k, sign_small kind))),
          );
          sign_put = λ k. absurd (omega (arith, says.other k, sign_small kind));
        }

    -- no atom is made, or one that the arrays hold
    pub no_more : (sign ≡ 7 + chart.atoms → ⊥)
        → Turns (turned chart lens end true) kept buf row len kind x y (turned chart lensOut (end + 1) true) keptOut (set buf end sign)
    no_more n =
        let same = says.same n in
        let still : (atoms : List (Atom ℕ)) → Holds (atoms_with chart lens) kept atoms → Holds (atoms_with chart lensOut) keptOut atoms
        = λ atoms H.
        subst (λ (l : List ℕ). Holds (atoms_with chart l) keptOut atoms) (sym same.1) (subst (λ (k : List ℕ). Holds (atoms_with chart lens) k atoms) (sym same.0) H) in
        record {
          long = length-set buf end sign;
          atom_put = λ k b atoms a H S.
              let e = place_is k atoms a H S in
              let l : place_in atoms a < chart.atoms
              = lt_of_le-ne (omega (arith, H.compiled.counted, position_most (same_atom ℕ_discrete) atoms a)) (λ p. n (omega (arith, e, p))) in
              (record { names_kept = refl; ends = refl; wrote = ap (set buf end) e }, still (with_put atoms a) (held_again H S (place_in atoms a) refl l));
          too_many = λ b. clash refl b;
          sign_put = λ k. (record { names_kept = refl; ends = refl; wrote = ap (set buf end) (says.other k) }, still);
        }

    -- an atom more
    pub one_more : {grown : Chart} → sign ≡ 7 + chart.atoms → sign < 23 → length lens ≡ 16
        → Grows chart grown (eqb kind 14) (first_by kind x y) (second_by kind y)
        → Turns (turned chart lens end true) kept buf row len kind x y (turned grown lensOut (end + 1) true) keptOut (set buf end sign)
    one_more {grown} z few long grows =
        let T = says.stored z (omega arith) in
        record {
          long = length-set buf end sign;
          atom_put = λ k b atoms a H S.
              let e = place_is k atoms a H S in
              let n : chart.atoms ≡ place_in atoms a = omega (arith, e) in (
                record { names_kept = grows.names_kept; ends = refl; wrote = ap (set buf end) e },
                subst (λ (l : List ℕ). Holds (atoms_with grown l) keptOut (with_put atoms a)) (sym T.2)
                    (held_more H S chart.atoms n (omega arith) (omega arith) long grows T.1),
              );
          too_many = λ b. clash refl b;
          sign_put = λ k. clash T.0 k;
        }
