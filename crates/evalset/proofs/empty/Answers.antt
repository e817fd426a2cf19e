-- `evalset::empty` meets its contract: 0 has no bit.
-- Assumes nothing.
use mathlib.Core.Path.{refl}
use Rattle.evalset.specs.Sets.{none_of}
use Rattle.evalset.proofs.Bits.{bit_none}
use Rattle.evalset.proofs.Words.{made}
use Rattle.evalset.proofs.empty.Goals as goal

pub returns : goal.returns
returns c = made none_of 0 0 0 0 (λ e l. bit_none e) (λ e l. bit_none e) (λ e l. bit_none e) (λ e l. bit_none e) (λ e l. refl)
