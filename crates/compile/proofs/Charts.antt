-- A chart holds one atom more once it is stored behind the others: at its own place it is found, elsewhere what stood there.
-- Assumes nothing.
use mathlib.Core.Bool.{Bool, false, cond}
use mathlib.Core.Path.{◌≡◌, refl, sym, ap, subst, ◌∙◌, fun_ext}
use mathlib.Core.List.{List, [], ◌∷◌, ◌++◌}
use Prim.Native.Nat.{ℕ, suc, ◌+◌, ◌<◌}
use native.Mathlib.Omega.{arith}
use lib.Dec.{eqb, eqb-zero-suc, eqb-suc-zero, eqb-suc-suc}
use lib.ListN.{length, get_or, set, replicate, length-append, length-set}
use Rattle.lists.proofs.Lists.{repeated_at, stored}
use Rattle.formula.specs.Formula.{Atom}
use Rattle.formula.specs.Atoms.{is_contact}
use Rattle.evalset.specs.declared.EvalSet.{EvalSet}
use Rattle.evalset.specs.Sets.{mem, mem_at, none_of}
use Rattle.lists.proofs.Truth.{of_cond}
use Rattle.evalset.proofs.Arrays.{empty_rows}
use Rattle.search.specs.declared.Chart.{Chart}
use Rattle.search.specs.Compiled.{no_atom, atom_at}
use Rattle.compile.specs.Chart.{first_set, second_set, CompiledFrom, Grows}
use Rattle.compile.proofs.Sets.{of_zero}

pub grows_same : {chart r : Chart} {b c : Bool} {x y z w : ℕ → Bool} → Grows chart r b x y → b ≡ c → x ≡ z → y ≡ w → Grows chart r c z w
grows_same {chart} {r} {b} {c} {x} {y} {z} {w} h e p q =
    subst (λ (d : Bool). Grows chart r d z w) e (subst (λ (u : ℕ → Bool). Grows chart r b u w) p (subst (λ (u : ℕ → Bool). Grows chart r b x u) q h))

-- ---- an array with one place stored

module _ (xs : List EvalSet) (n : ℕ) (s : EvalSet) (h : n < length xs) where
  pub stored_set : (i : ℕ) → mem_at (set xs n s) i ≡ cond (eqb i n) (mem s) (mem_at xs i)
  unfolding mem_at
  stored_set i = ap mem (stored xs n s _ h i) ∙ sym (of_cond mem (eqb i n) s _)

-- ---- the atoms

last_atom : (atoms : List (Atom ℕ)) (a : Atom ℕ) (i : ℕ) → atom_at (atoms ++ a ∷ []) i ≡ cond (eqb i (length atoms)) a (atom_at atoms i)
last_atom [] a ℕ.zero = refl
last_atom [] a (suc i) = sym (ap (λ (b : Bool). cond b a no_atom) (eqb-suc-zero i))
last_atom (b ∷ atoms) a ℕ.zero = sym (ap (λ (d : Bool). cond d a b) (eqb-zero-suc (length atoms)))
last_atom (b ∷ atoms) a (suc i) = last_atom atoms a i ∙ ap (λ (d : Bool). cond d a (atom_at atoms i)) (sym (eqb-suc-suc i (length atoms)))

module _ (atoms : List (Atom ℕ)) (a : Atom ℕ) {B : Type 0} (f : Atom ℕ → B) where
  last_of : (n i : ℕ) → n ≡ length atoms → (old new : B) → old ≡ f (atom_at atoms i) → new ≡ cond (eqb i n) (f a) old → new ≡ f (atom_at (atoms ++ a ∷ []) i)
  last_of n i z old new e h =
      h ∙ ap (λ (b : B). cond (eqb i n) (f a) b) e ∙ ap (λ (m : ℕ). cond (eqb i m) (f a) (f (atom_at atoms i))) z
      ∙ of_cond f (eqb i (length atoms)) a (atom_at atoms i) ∙ sym (ap f (last_atom atoms a i))

-- a chart with one atom more
pub compiled_more : {chart r : Chart} {atoms : List (Atom ℕ)} (a : Atom ℕ) → CompiledFrom chart atoms → length atoms < 16
    → Grows chart r (is_contact a) (first_set a) (second_set a) → CompiledFrom r (atoms ++ a ∷ [])
compiled_more {chart} {r} {atoms} a c l h =
    record {
      counted = h.one_more ∙ ap suc c.counted ∙ omega (arith, length-append atoms (a ∷ []));
      few = omega (arith, length-append atoms (a ∷ []));
      contacts = λ i. last_of atoms a is_contact chart.atoms i c.counted _ _ (c.contacts i) (h.contact_at i);
      firsts = λ i. last_of atoms a first_set chart.atoms i c.counted _ _ (c.firsts i) (h.first_at i);
      seconds = λ i. last_of atoms a second_set chart.atoms i c.counted _ _ (c.seconds i) (h.second_at i);
    }

-- a chart and lengths whose arrays have sixteen places
pub record Sized (chart : Chart) (lens : List ℕ) : Type 0 where
  pub contacts : length chart.contact ≡ 16
  pub firsts : length chart.xs ≡ 16
  pub seconds : length chart.ys ≡ 16
  pub lengths : length lens ≡ 16

-- the chart in which an atom is stored behind the others
abbrev pub stored_in : Chart → Bool → EvalSet → EvalSet → Chart
stored_in chart contact x y =
    record { names = chart.names; atoms = chart.atoms + 1; contact = set chart.contact chart.atoms contact; xs = set chart.xs chart.atoms x; ys = set chart.ys chart.atoms y }

module _ {chart : Chart} {lens : List ℕ} (h : Sized chart lens) (l : chart.atoms < 16) (b : Bool) (x y : EvalSet) where
  pub stored_sized : {lens' : List ℕ} → length lens' ≡ length lens → Sized (stored_in chart b x y) lens'
  stored_sized e =
      record {
        contacts = length-set chart.contact chart.atoms b ∙ h.contacts;
        firsts = length-set chart.xs chart.atoms x ∙ h.firsts;
        seconds = length-set chart.ys chart.atoms y ∙ h.seconds;
        lengths = e ∙ h.lengths;
      }

  pub stored_grows : {p q : ℕ → Bool} → mem x ≡ p → mem y ≡ q → Grows chart (stored_in chart b x y) b p q
  stored_grows {p} {q} u v =
      grows_same
      (record {
        names_kept = refl;
        one_more = omega arith;
        contact_at = stored chart.contact chart.atoms b false (omega (arith, h.contacts));
        first_at = stored_set chart.xs chart.atoms x (omega (arith, h.firsts));
        second_at = stored_set chart.ys chart.atoms y (omega (arith, h.seconds));
      })
      refl
      u
      v

-- ---- no atom

module _ (chart : Chart) (none : EvalSet) (h : mem none ≡ none_of) where
  pub compiled_none : chart.atoms ≡ 0 → chart.contact ≡ replicate 16 false → chart.xs ≡ replicate 16 none → chart.ys ≡ replicate 16 none
      → CompiledFrom chart []
  compiled_none z b x y =
      record {
        counted = z;
        few = omega arith;
        contacts = λ i. ap (λ (l : List Bool). get_or l i false) b ∙ repeated_at (λ (t : Bool). t ≡ false) refl refl 16 i;
        firsts = λ i. ap (λ (l : List EvalSet). mem_at l i) x ∙ fun_ext (λ e. empty_rows 16 i e none h) ∙ of_zero;
        seconds = λ i. ap (λ (l : List EvalSet). mem_at l i) y ∙ fun_ext (λ e. empty_rows 16 i e none h);
      }
