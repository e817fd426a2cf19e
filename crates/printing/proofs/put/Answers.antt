-- `printing::put` meets its contract: what was copied into the part of the slice stands at the place. Assumes nothing.
use mathlib.Core.Path.{◌≡◌, sym, ap, ap₂, ◌∙◌}
use mathlib.Core.List.{List, ◌++◌, append_assoc}
use Prim.Native.Nat.{ℕ, ◌+◌, ◌≤◌}
use native.Mathlib.Omega.{arith}
use lib.ListN.{length, take, drop}
use lib.Seq.{sets, sets-eq, drop-drop}
use Rattle.printing.proofs.put.Goals as goal

copied : (out w : List ℕ) (at n : ℕ) (rest : List ℕ) → at + length w ≤ length out → n ≡ length w → rest ≡ w
    → take at out ++ (rest ++ drop n (drop at out)) ≡ sets out at w
copied out w at n rest h m e =
    ap₂ (λ (k : ℕ) (l : List ℕ). take at out ++ (l ++ drop k (drop at out))) m e
    ∙ ap (λ (l : List ℕ). take at out ++ (w ++ l)) (drop-drop (length w) at out)
    ∙ sym (append_assoc (take at out) w (drop (at + length w) out))
    ∙ sym (sets-eq w out at h)

pub returns : goal.returns
returns c = copied c.args.out.now c.args.w.now c.args.at _ c.copy_from_slice.new.self c.requires (omega arith) c.copy_from_slice.ensures.after
