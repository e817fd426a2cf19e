-- `names::same` meets its contract: the lengths decide, and then the bytes. Assumes nothing.
use mathlib.Core.Path.{◌≡◌, refl, sym, ap, ◌∙◌}
use mathlib.Core.Bool.{◌&&◌}
use mathlib.Core.List.{List, [], ◌∷◌}
use Prim.Native.Nat.{ℕ}
use native.Mathlib.Omega.{arith}
use borrow.Author.Tests.{ne_eqb}
use lib.Dec.{eqb}
use lib.ListN.{length, take}
use lib.Pointwise.{pointwise}
use Rattle.contact.specs.Numbering.{same_name}
use Rattle.names.proofs.Scans.{lengths_differ, lengths_agree}
use Rattle.names.proofs.same.Goals as goal

bytes_same : (v w : List ℕ) → pointwise eqb v w ≡ same_name v w
bytes_same [] [] = refl
bytes_same [] (b ∷ w) = refl
bytes_same (a ∷ v) [] = refl
bytes_same (a ∷ v) (b ∷ w) = ap (◌&&◌ (eqb a b)) (bytes_same v w)

pub returns-then-from-w : goal.returns-then-from-w
returns-then-from-w c = c.eq.ensures ∙ bytes_same (take (length c.args.w.now) c.args.k.bytes) c.args.w.now ∙ lengths_agree c.args.k c.args.w.now (sym c.from.ensures ∙ c.if-from-w.true)

pub returns-else-from-w : goal.returns-else-from-w
returns-else-from-w c =
    ne_eqb _ _ c.if-from-w.false ∙ lengths_differ c.args.k c.args.w.now (λ e. c.if-from-w.false (c.from.ensures ∙ e))
