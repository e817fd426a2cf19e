-- `evalset::meet` meets its contract: a bit of a conjunction is set in both words.
-- Assumes nothing.
use mathlib.Core.Bool.{◌&&◌}
use mathlib.Core.Path.{◌≡◌, refl, ap, ◌∙◌}
use Prim.Native.Nat.{ℕ}
use Rattle.std.proofs.Common.{rules, bit_and}
use Rattle.evalset.specs.Bit.{bit}
use Rattle.evalset.proofs.Bits.{bit_and_lem}
use Rattle.evalset.proofs.Words.{word, paired}
use Rattle.evalset.proofs.meet.Goals as goal

pub returns : goal.returns
returns c =
    paired ◌&&◌ refl _ _ _
    (λ k l e.
    let h : word c.by_words.result k ≡ bit_and (word c.args.a k) (word c.args.b k) = search (rules, c.by_words.ensures k l) in
    ap (λ (x : ℕ). bit x e) h ∙ bit_and_lem _ _ e)
