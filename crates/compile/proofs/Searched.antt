-- A chart that is compiled from a list of atoms is what the search asks for: its sets agree with the terms at every evaluation
-- that a chart's names have. Assumes nothing.
use mathlib.Core.Path.{◌≡◌, refl, ap, ◌∙◌}
use mathlib.Core.List.{List}
use Prim.Native.Nat.{ℕ, ◌^◌, ◌≤◌, ◌<◌}
use native.Mathlib.Omega.{arith}
use Rattle.formula.specs.Atoms.{is_contact}
use Rattle.formula.specs.Formula.{Atom}
use Rattle.evalset.specs.Sets.{room, mem_at}
use Rattle.evalset.specs.Most.{most}
use Rattle.evalset.proofs.Members.{names_room}
use Rattle.contact.specs.Plan.{at}
use Rattle.search.specs.Compiled.{AtomIs, atom_at, contact_at, Compiled}
use Rattle.search.specs.declared.Chart.{Chart}
use Rattle.compile.specs.Chart.{first_term, CompiledFrom}
use Rattle.compile.proofs.Claims.{first_members, second_members}

pub compiled_search : (chart : Chart) (atoms : List (Atom ℕ)) → chart.names ≤ most → CompiledFrom chart atoms → Compiled chart atoms
compiled_search chart atoms few c = record { few = few; counted = c.counted; atom_is = λ i l. atom_as i (atom_at atoms i) refl }
  where
    within : (e : ℕ) → e < 2 ^ chart.names → e < room
    within e l = omega (arith, names_room chart.names few)

    first : (i : ℕ) (a : Atom ℕ) → atom_at atoms i ≡ a → (e : ℕ) → e < 2 ^ chart.names → mem_at chart.xs i e ≡ at (first_term a) e
    first i a h e l = first_members c i e (within e l) ∙ ap (λ (b : Atom ℕ). at (first_term b) e) h

    atom_as : (i : ℕ) (a : Atom ℕ) → atom_at atoms i ≡ a → AtomIs chart.names (contact_at chart i) (mem_at chart.xs i) (mem_at chart.ys i) a
    atom_as i (Atom.contact x y) h = (c.contacts i ∙ ap is_contact h, first i (Atom.contact x y) h, λ e l. second_members c i e (within e l) x y h)
    atom_as i (Atom.part x y) h = (c.contacts i ∙ ap is_contact h, first i (Atom.part x y) h)
    atom_as i (Atom.empty t) h = (c.contacts i ∙ ap is_contact h, first i (Atom.empty t) h)
