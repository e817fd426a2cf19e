-- For proofs: when a chart is compiled from a list of atoms, as the contracts have it. Assumes nothing.
use Rattle.std.specs.Prelude.{Bool, false, ◌&&◌, cond, ◌≡◌, List, ℕ, suc, ◌≤◌, ltb, eqb, length, get_or}
use Rattle.formula.specs.Formula.{Term, Atom}
use Rattle.formula.specs.Atoms.{is_contact}
use Rattle.evalset.specs.Sets.{room, mem_at, none_of}
use Rattle.contact.specs.Meaning.{part_term}
use Rattle.contact.specs.Plan.{at}
use Rattle.search.specs.declared.Chart.{Chart}
use Rattle.search.specs.Compiled.{atom_at}

-- the evaluations, all below room, in which the term holds
unfoldable pub set_of : Term ℕ → ℕ → Bool
set_of t e = ltb e room && at t e

-- ---- an atom on a chart

-- "Zero atoms .. are the =0 atoms and the <= atoms, the term of <=(x,y) being x*-y": that term stands first
abbrev pub first_term : Atom ℕ → Term ℕ
first_term (Atom.contact x y) = x
first_term (Atom.part x y) = part_term x y
first_term (Atom.empty t) = t

abbrev pub first_set : Atom ℕ → ℕ → Bool
first_set a = set_of (first_term a)

-- only a contact has a second term
abbrev pub second_set : Atom ℕ → ℕ → Bool
second_set (Atom.contact x y) = set_of y
second_set (Atom.part x y) = none_of
second_set (Atom.empty t) = none_of

-- ---- charts

-- the chart holds the atoms, in their order, and nothing past them
pub record CompiledFrom (chart : Chart) (atoms : List (Atom ℕ)) : Type 0 where
  pub counted : chart.atoms ≡ length atoms
  pub few : length atoms ≤ 16
  pub contacts : (i : ℕ) → get_or chart.contact i false ≡ is_contact (atom_at atoms i)
  pub firsts : (i : ℕ) → mem_at chart.xs i ≡ first_set (atom_at atoms i)
  pub seconds : (i : ℕ) → mem_at chart.ys i ≡ second_set (atom_at atoms i)

-- the chart r is the chart with one atom more: whether it is a contact, and its sets
pub record Grows (chart r : Chart) (contact : Bool) (x y : ℕ → Bool) : Type 0 where
  pub names_kept : r.names ≡ chart.names
  pub one_more : r.atoms ≡ suc chart.atoms
  pub contact_at : (i : ℕ) → get_or r.contact i false ≡ cond (eqb i chart.atoms) contact (get_or chart.contact i false)
  pub first_at : (i : ℕ) → mem_at r.xs i ≡ cond (eqb i chart.atoms) x (mem_at chart.xs i)
  pub second_at : (i : ℕ) → mem_at r.ys i ≡ cond (eqb i chart.atoms) y (mem_at chart.ys i)
