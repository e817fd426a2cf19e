-- `clashing::put_part` meets its contract: what was copied into the part of the slice stands at the place. Assumes nothing.
use mathlib.Core.Path.{◌≡◌, ap, ap₂, sym, ◌∙◌}
use mathlib.Core.List.{List, ◌++◌, append_assoc}
use Prim.Native.Nat.{ℕ, ◌+◌, ◌≤◌}
use native.Mathlib.Omega.{arith}
use lib.ListN.{length, take, drop}
use lib.Seq.{sets, sets-eq, drop-drop}
use Rattle.clashing.proofs.put_part.Goals as goal

copied : (out part : List ℕ) (at n : ℕ) (rest : List ℕ) → at + length part ≤ length out → n ≡ length part → rest ≡ part
    → take at out ++ (rest ++ drop n (drop at out)) ≡ sets out at part
copied out part at n rest h m e =
    ap₂ (λ (k : ℕ) (l : List ℕ). take at out ++ (l ++ drop k (drop at out))) m e
    ∙ ap (λ (l : List ℕ). take at out ++ (part ++ l)) (drop-drop (length part) at out)
    ∙ sym (append_assoc (take at out) part (drop (at + length part) out))
    ∙ sym (sets-eq part out at h)

pub returns : goal.returns
returns c = (omega arith, copied c.args.out.now c.args.part.now c.args.at _ c.copy_from_slice.new.self c.requires (omega arith) c.copy_from_slice.ensures.after)
