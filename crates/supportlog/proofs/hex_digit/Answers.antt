-- `supportlog::hex_digit` meets its contract. Assumes nothing.
use native.Mathlib.Omega.{arith}
use Rattle.supportlog.proofs.Texts.{hex_low, hex_high}
use Rattle.supportlog.proofs.hex_digit.Goals as goal

pub returns-then-d-lt10 : goal.returns-then-d-lt10
returns-then-d-lt10 c = hex_low c.args.d (omega arith)

pub returns : goal.returns
returns c = hex_high c.args.d (omega arith)
