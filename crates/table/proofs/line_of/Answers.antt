-- `table::line_of` meets its contract: the bytes are those of the text, then zeros. Assumes nothing.
use Prim.Native.Nat.{ℕ, ◌-◌}
use mathlib.Core.Path.{◌≡◌, ap, ap₂, ◌∙◌}
use mathlib.Core.List.{List, ◌++◌}
use lib.ListN.{length, drop, replicate}
use Rattle.std.proofs.lemmas.List.{drop-replicate}
use Rattle.table.specs.Store.{kept_line}
use Rattle.lists.specs.Padded.{pad}
use Rattle.table.proofs.Lines.{line_with}
use native.Mathlib.Omega.{arith}
use Rattle.table.proofs.line_of.Goals as goal

-- the text over zeros
padded : (zeros text new : List ℕ) (n : ℕ) → zeros ≡ replicate 256 0 → new ≡ text → n ≡ length text → new ++ drop n zeros ≡ pad 256 text
unfolding pad
padded zeros text new n z e m = ap₂ ◌++◌ e (ap₂ drop m z ∙ drop-replicate (length text) 256 0)

pub returns : goal.returns
unfolding kept_line
returns c = ap (λ (b : List ℕ). line_with b (length c.args.text.now)) (padded _ _ _ _ c.zeros-bytes.ensures c.copy_from_slice.ensures.after (omega arith))
