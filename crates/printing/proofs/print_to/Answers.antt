-- `printing::print_to` meets its contract: what `fill` leaves at the end of the bytes is written into the buffer, if there is room for it.
-- Assumes nothing.
use mathlib.Core.Path.{◌≡◌, ap, ◌∙◌}
use mathlib.Core.Bool.{true, false}
use mathlib.Core.List.{List, ◌++◌}
use Prim.Native.Nat.{ℕ, ◌-◌, ◌≤◌, ◌<◌}
use native.Mathlib.Omega.{arith}
use borrow.Author.Tests.{le-leb, lt-leb}
use lib.ListN.{length, take, drop, length-drop}
use lib.Seq.{take_all}
use Rattle.std.specs.Prelude.{Ok, Err}
use Rattle.lists.specs.Buffer.{over}
use Rattle.printing.specs.Prints.{fits, Prints}
use Rattle.printing.specs.Places.{text_to, Filled}
use Rattle.printing.proofs.print_to.Goals as goal

module _ (ws made : List ℕ) (from : ℕ) (f : Filled ws made from) (buf : List ℕ) where
  long : 256 - from ≡ length ws
  long = omega (arith, ap length f.text, length-drop from made, f.whole)

  too_short : length buf < 256 - from → Prints ws buf (Err (record { needed = 256 - from })) buf
  too_short h =
      let b : fits ws buf ≡ false = lt-leb (length ws) (length buf) (omega (arith, long)) in
      record { answer = rw (b, long); bytes = rw b }

  enough : 256 - from ≤ length buf → (part : List ℕ) → part ≡ take (256 - from) (drop from made)
      → Prints ws buf (Ok (256 - from)) (part ++ drop (256 - from) buf)
  unfolding over
  enough h part e =
      let b : fits ws buf ≡ true = le-leb (length ws) (length buf) (omega (arith, long)) in
      let t : part ≡ ws = e ∙ take_all (256 - from) (drop from made) (omega (arith, length-drop from made, f.whole)) ∙ f.text in
      record { answer = rw (b, long); bytes = rw b (ap (λ (l : List ℕ). l ++ drop (256 - from) buf) t ∙ ap (λ (n : ℕ). ws ++ drop n buf) long) }

pub returns-then-buffer-n : goal.returns-then-buffer-n
returns-then-buffer-n c =
    too_short (text_to c.args.text.now c.args.place.order) _ c.fill-from.result c.fill-from.ensures c.args.buffer.now c.if-buffer-n.true

pub returns : goal.returns
returns c =
    enough (text_to c.args.text.now c.args.place.order) _ c.fill-from.result c.fill-from.ensures c.args.buffer.now c.if-buffer-n.false c.copy_from_slice.new.self c.copy_from_slice.ensures.after
