-- `table::no_line` meets its contract: its bytes are zeros and its length is 0. Assumes nothing.
use mathlib.Core.Path.{ap, ◌∙◌}
use mathlib.Core.List.{List}
use Prim.Native.Nat.{ℕ}
use Rattle.lists.proofs.Padded.{pad_none}
use Rattle.table.specs.Store.{kept_line}
use Rattle.table.proofs.Lines.{line_with}
use Rattle.table.proofs.no_line.Goals as goal

pub returns : goal.returns
unfolding kept_line
returns c = ap (λ (bytes : List ℕ). line_with bytes 0) (c.zeros-bytes.ensures ∙ pad_none 256)
