-- `exercises::longer` meets its contract. Assumes nothing.
use mathlib.Core.Path.{◌≡◌, ap, ◌∙◌}
use mathlib.Core.List.{List, [], ◌∷◌, ◌++◌}
use Prim.Native.Nat.{ℕ, ◌+◌, ◌<◌}
use native.Mathlib.Omega.{arith}
use lib.ListN.{length, take, drop, set, replicate, length-append, length-drop}
use lib.Seq.{take_at}
use Rattle.exercises.proofs.Lines.{take_set}
use Rattle.exercises.proofs.longer.Goals as goal

put_last : (ks part room : List ℕ) (k : ℕ) → part ≡ ks → length ks < length room
    → take (length ks + 1) (set (part ++ drop (length ks) room) (length ks) k) ≡ ks ++ k ∷ []
put_last ks part room k e h =
    let all : List ℕ = part ++ drop (length ks) room in
    let fits : length ks < length all = omega (arith, length-append part (drop (length ks) room), length-drop (length ks) room, ap length e) in
    take_set all (length ks) k fits
    ∙ ap (λ (l : List ℕ). l ++ k ∷ []) (take_at part (drop (length ks) room) (length ks) (ap length e) ∙ e)

pub returns : goal.returns
returns c = put_last c.args.ks.now c.copy_from_slice.new.self (replicate 6 0) c.args.k c.copy_from_slice.ensures.after c.requires
