-- `drawing::put_word` meets its contract: the four bytes are copied into the part from a place on. Assumes nothing.
use mathlib.Core.Path.{◌≡◌, refl, ap, ap₂, ◌∙◌}
use mathlib.Core.List.{List, ◌++◌}
use Prim.Native.Nat.{ℕ, ◌+◌, ◌-◌}
use native.Mathlib.Omega.{arith}
use lib.ListN.{take, drop}
use lib.Seq.{drop-drop}
use Rattle.lists.specs.Putting.{written}
use Rattle.drawing.specs.Drawn.{word_bytes}
use Rattle.drawing.proofs.put_word.Goals as goal

pub returns : goal.returns
unfolding written
returns c =
    let a = c.args in
    let size : a.at + 4 - a.at ≡ 4 = omega arith in
    let put : c.copy_from_slice.new.self ≡ word_bytes a.word = c.copy_from_slice.ensures.after ∙ c.to_be_bytes.ensures in
    record {
      fits = c.requires;
      place = refl;
      bytes = ap₂ (λ (k : ℕ) (l : List ℕ). take a.at a.buffer.now ++ (l ++ drop k (drop a.at a.buffer.now))) size put
          ∙ ap (λ (l : List ℕ). take a.at a.buffer.now ++ (word_bytes a.word ++ l)) (drop-drop 4 a.at a.buffer.now);
    }
