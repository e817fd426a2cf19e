-- `remarks::put_blanks` meets its contract: the part from a place on is filled with blanks. Assumes nothing.
use mathlib.Core.Path.{◌≡◌, sym, ap, ap₂, ◌∙◌}
use mathlib.Core.List.{List, ◌++◌}
use Prim.Native.Nat.{ℕ, ◌+◌, ◌-◌}
use native.Mathlib.Omega.{arith}
use lib.ListN.{length, take, drop, replicate, length-take, length-drop, length-replicate}
use lib.Seq.{drop-drop}
use borrow.Author.Rules.{rules}
use Rattle.lists.specs.Putting.{written}
use Rattle.remarks.proofs.put_blanks.Goals as goal

pub returns : goal.returns
unfolding written
returns c =
    let a = c.args in
    let size : a.at + a.n - a.at ≡ a.n = omega arith in
    let part : length (take (a.at + a.n - a.at) (drop a.at a.out.now)) ≡ a.n =
    omega (arith, c.requires, length-take (a.at + a.n - a.at) (drop a.at a.out.now), length-drop a.at a.out.now) in
    let blanks : c.fill.new.self ≡ replicate a.n 32 = c.fill.ensures.after (λ y h. search rules) ∙ ap (λ (k : ℕ). replicate k 32) part in
    let many = length-replicate {A = ℕ} a.n 32 in
    record {
      fits = omega (arith, c.requires, many);
      place = omega (arith, many);
      bytes = ap₂ (λ (k : ℕ) (l : List ℕ). take a.at a.out.now ++ (l ++ drop k (drop a.at a.out.now))) size blanks
          ∙ ap (λ (l : List ℕ). take a.at a.out.now ++ (replicate a.n 32 ++ l)) (drop-drop a.n a.at a.out.now ∙ ap (λ (k : ℕ). drop (a.at + k) a.out.now) (sym many));
    }
