-- A text that is put at the first byte is what is reported. Assumes nothing.
use mathlib.Core.Path.{◌≡◌, ap, ◌∙◌}
use mathlib.Core.List.{List}
use Prim.Native.Nat.{ℕ}
use native.Mathlib.Omega.{arith}
use lib.ListN.{length, drop, length-append}
use Rattle.lists.specs.Buffer.{over}
use Rattle.lists.specs.Putting.{Puts}
use Rattle.lists.proofs.Buffer.{written_over}
use Rattle.report.specs.Putting.{Reports}

-- put at the first byte, a text is over the buffer
pub puts_over : (text buffer exit : List ℕ) (end : ℕ) → Puts 0 text buffer exit end → Reports text buffer end exit
unfolding over
puts_over text buffer exit end p =
    let z : end ≡ length text = omega (arith, p.place) in
    let e : exit ≡ over text buffer = p.bytes ∙ written_over text buffer in
    record { counted = z; fits = omega (arith, z, ap length e, length-append text (drop (length text) buffer)); bytes = e }
