-- `names::no_names` meets its contract: eight empty entries are what no name is padded with. Assumes nothing.
use mathlib.Core.Path.{refl}
use Rattle.lists.specs.Padded.{pad}
use Rattle.names.specs.Gather.{kept_name, arrays_of}
use Rattle.names.proofs.no_names.Goals as goal

pub returns : goal.returns
unfolding arrays_of kept_name pad
returns c = refl
