-- `table::no_texts` meets its contract: sixteen texts of no bytes, which are zeros. Assumes nothing.
use mathlib.Core.Path.{refl}
use Rattle.lists.specs.Buffer.{over}
use Rattle.table.specs.Explaining.{kept_text}
use Rattle.table.proofs.no_texts.Goals as goal

pub returns : goal.returns
unfolding kept_text over
returns c = refl
