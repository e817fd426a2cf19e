-- `search::step` meets its contract: the atom is what the chart has at its number. Assumes nothing.
use Rattle.evalset.specs.Sets.{mem_at}
use Rattle.search.specs.Compiled.{atom_at, StepSays}
use Rattle.search.proofs.Fitting.{fit_step}
use Rattle.search.proofs.step.Goals as goal

pub returns : goal.returns
unfolding StepSays mem_at
returns c = (
  c.decided.ensures.long,
  λ atoms h l are wide ms f.
      let a = c.args in
      fit_step _ h.few _ _ _ _ (atom_at atoms a.k) (h.atom_is a.k l) ms _ are _ _ wide f c.decided.ensures,
)
