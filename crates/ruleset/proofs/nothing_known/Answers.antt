-- `ruleset::nothing_known` meets its contract: of no rule there is no name and no atom. Assumes nothing.
use mathlib.Core.Path.{refl}
use native.Mathlib.Omega.{arith}
use Rattle.spelling.proofs.Claims.{keeps_none}
use Rattle.ruleset.specs.Texts.{NothingKnown}
use Rattle.ruleset.proofs.nothing_known.Goals as goal

pub returns : goal.returns
unfolding NothingKnown
returns c = λ kept w. record {
  fits = record { rules_fit = omega arith; names_fit = omega arith; atoms_fit = omega arith };
  names_are = c.no_names-names.ensures;
  names_counted = c.no_atoms-atoms.ensures.0;
  compiled = c.no_atoms-atoms.ensures.1;
  keeps = keeps_none kept _ _ w;
  counted = refl;
}
