-- `report::put_text` meets its contract: a list copied into the part from a place on is written over the buffer. Assumes nothing.
use mathlib.Core.Path.{◌≡◌, refl, ap, ap₂, ◌∙◌}
use mathlib.Core.List.{List, ◌++◌}
use Prim.Native.Nat.{ℕ, ◌+◌, ◌-◌}
use native.Mathlib.Omega.{arith}
use lib.ListN.{length, take, drop}
use lib.Seq.{drop-drop}
use Rattle.lists.specs.Putting.{written}
use Rattle.report.proofs.put_text.Goals as goal

pub returns : goal.returns
unfolding written
returns c =
    let a = c.args in
    let size : a.at + length a.text.now - a.at ≡ length a.text.now = omega arith in
    record {
      fits = c.requires;
      place = refl;
      bytes = ap₂ (λ (k : ℕ) (l : List ℕ). take a.at a.out.now ++ (l ++ drop k (drop a.at a.out.now))) size c.copy_from_slice.ensures.after
          ∙ ap (λ (l : List ℕ). take a.at a.out.now ++ (a.text.now ++ l)) (drop-drop (length a.text.now) a.at a.out.now);
    }
