-- `names::name_of` meets its contract: zeros stand after the bytes that are copied. Assumes nothing.
use Prim.Native.Nat.{ℕ, ◌-◌}
use mathlib.Core.Path.{ap, ap₂, ◌∙◌}
use mathlib.Core.List.{List, ◌++◌}
use lib.ListN.{length, drop, replicate}
use Rattle.std.proofs.lemmas.List.{drop-replicate}
use Rattle.names.specs.declared.KeptName.{KeptName}
use Rattle.names.specs.Gather.{kept_name}
use Rattle.lists.specs.Padded.{pad}
use Rattle.names.proofs.name_of.Goals as goal

abbrev nameWith : List ℕ → ℕ → KeptName
nameWith b n = record { bytes = b; len = n }

pub returns : goal.returns
unfolding kept_name pad
returns c =
    let w = c.args.w.now in
    ap (λ (b : List ℕ). nameWith b (length w)) (ap₂ ◌++◌ c.copy_from_slice.ensures.after (drop-replicate (length w) 16 0))
