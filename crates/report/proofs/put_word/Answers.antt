-- `report::put_word` meets its contract: the line of its kind (PlanLines.antt), which has room. Assumes nothing.
use mathlib.Core.Path.{◌≡◌, ap, ◌∙◌}
use Prim.Native.Nat.{ℕ, ◌+◌, ◌*◌, ◌/◌, ◌%◌}
use native.Mathlib.Omega.{arith}
use Rattle.lists.proofs.Putting.{puts_none, puts_text}
use Rattle.names.specs.Gather.{known_of}
use Rattle.report.specs.Lines.{point_line, contact_line}
use Rattle.report.specs.Pieces.{plan_line}
use Rattle.report.proofs.Bounds.{head_few, contact_few}
use Rattle.report.proofs.PlanLines.{by_kind, no_line}
use Rattle.report.proofs.put_word.Goals as goal

pub put_head-requires : goal.put_head-requires
put_head-requires c = omega (arith, c.requires, head_few 6 2 (c.args.word % 0x10000000 / 256) (c.args.word % 0x10000000 % 256) (omega arith) (omega arith))

pub put_contact-requires : goal.put_contact-requires
put_contact-requires c = (omega arith, omega (arith, c.requires, contact_few 6 (c.args.word % 0x10000000 / 256 * 256 + c.args.word % 0x10000000 % 256) (omega arith)))

pub put_head-requires-in-8 : goal.put_head-requires-in-8
put_head-requires-in-8 c = omega (arith, c.requires, head_few 3 4 (c.args.word % 0x10000000 / 65536) (c.args.word % 0x10000000 % 65536) (omega arith) (omega arith))

pub returns-in-1 : goal.returns-in-1
unfolding plan_line
returns-in-1 c =
    puts_text (by_kind (known_of c.args.names) c.args.i (c.args.word / 0x10000000) 1 (c.args.word % 0x10000000) c.in-1.is) c.put_head.ensures

pub returns-in-2 : goal.returns-in-2
unfolding plan_line
returns-in-2 c =
    puts_text
    (ap (λ (p : ℕ). point_line (known_of c.args.names) p (c.args.word % 0x10000000 % 256)) c.position_of-place.ensures ∙ by_kind (known_of c.args.names) c.args.i (c.args.word / 0x10000000) 2 (c.args.word % 0x10000000) c.in-2.is)
    c.put_point.ensures

pub returns-in-3 : goal.returns-in-3
unfolding plan_line
returns-in-3 c =
    let whole : c.args.word % 0x10000000 / 256 * 256 + c.args.word % 0x10000000 % 256 ≡ c.args.word % 0x10000000 = omega arith in
    puts_text (ap contact_line whole ∙ by_kind (known_of c.args.names) c.args.i (c.args.word / 0x10000000) 3 (c.args.word % 0x10000000) c.in-3.is) c.put_contact.ensures

pub returns-in-8 : goal.returns-in-8
unfolding plan_line
returns-in-8 c =
    puts_text (by_kind (known_of c.args.names) c.args.i (c.args.word / 0x10000000) 8 (c.args.word % 0x10000000) c.in-8.is) c.put_head-in-8.ensures

pub returns-in_default : goal.returns-in_default
unfolding plan_line
returns-in_default c =
    puts_text (no_line (known_of c.args.names) c.args.i (c.args.word / 0x10000000) (c.args.word % 0x10000000) (λ e. omega (arith, e)) (λ e. omega (arith, e)) (λ e. omega (arith, e)) (λ e. omega (arith, e)))
    (puts_none c.args.at c.args.out.now (omega (arith, c.requires)))
