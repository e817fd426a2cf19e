-- `exercises::put_token` meets its contract: what is copied stands at the place. Assumes nothing.
use mathlib.Core.Path.{◌≡◌, sym, ap, ap₂, subst, ◌∙◌}
use mathlib.Core.List.{List, ◌++◌}
use Prim.Native.Nat.{ℕ, ◌+◌, ◌≤◌}
use native.Mathlib.Omega.{arith}
use lib.ListN.{length, take, drop}
use lib.Seq.{drop-drop}
use Rattle.lists.specs.Putting.{written, Puts}
use Rattle.exercises.proofs.put_token.Goals as goal

copied : (out text w : List ℕ) (at n : ℕ) (rest : List ℕ) → w ≡ text → at + length text ≤ length out → n ≡ length w → rest ≡ w
    → Puts at text out (take at out ++ (rest ++ drop n (drop at out))) (at + length w)
unfolding written
copied out text w at n rest t h m e = record {
  fits = h;
  place = ap (λ (l : List ℕ). at + length l) t;
  bytes = ap₂ (λ (k : ℕ) (l : List ℕ). take at out ++ (l ++ drop k (drop at out))) (m ∙ ap length t) (e ∙ t)
      ∙ ap (λ (l : List ℕ). take at out ++ (text ++ l)) (drop-drop (length text) at out);
}

pub returns : goal.returns
returns c =
    copied c.args.out.now _ c.spelling-bytes.result.now c.args.at _ c.copy_from_slice.new.self c.spelling-bytes.ensures c.requires (omega arith) c.copy_from_slice.ensures.after
