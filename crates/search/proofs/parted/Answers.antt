-- `search::parted` meets its contract: the two walks are the two ways round. Assumes nothing.
use mathlib.Core.Bool.{Bool, true, ◌&&◌, ◌||◌, or_assoc, and-true}
use mathlib.Core.Path.{◌≡◌, ap, ap₂, ◌∙◌}
use mathlib.Mathlib.Logic.Function.Defs.{congr_fun}
use Prim.Native.Nat.{ℕ}
use native.Mathlib.Omega.{arith}
use Rattle.evalset.specs.Sets.{mem, meet_of}
use Rattle.squares.specs.Square.{square_at, reach}
use Rattle.squares.proofs.Rows.{same_reach, same_square}
use Rattle.search.specs.Tests.{crossed}
use Rattle.search.proofs.parted.Goals as goal

-- a set that is met with one that has p
met_all : (x all m : ℕ → Bool) → m ≡ meet_of x all → (p : ℕ) → all p ≡ true → m p ≡ x p
met_all x all m h p t = congr_fun h p ∙ ap (λ (b : Bool). x p && b) t ∙ and-true (x p)

pub separate-requires-2 : goal.separate-requires-2
separate-requires-2 c =
    same_square c.separate.new.rows c.args.rows.now c.separate.ensures.0 c.requires

pub returns : goal.returns
unfolding crossed
returns c =
    let a = c.args in
    let one = c.separate in
    let two = c.separate-2 in
    let wide : reach one.new.rows ≡ reach a.rows.now = same_reach one.new.rows a.rows.now one.ensures.0 in (
      two.ensures.0 ∙ one.ensures.0,
      λ p q t l m.
          two.ensures.1 p q (omega (arith, wide, l)) (omega (arith, wide, m))
          ∙ ap₂ (λ (u v : Bool). u || (v && mem a.x q)) (one.ensures.1 p q l m)
          (met_all (mem a.y) (mem a.all) _ c.meet-2.ensures p t)
          ∙ ap (λ (u : Bool). (square_at a.rows.now p q || (u && mem a.y q)) || (mem a.y p && mem a.x q))
          (met_all (mem a.x) (mem a.all) _ c.meet.ensures p t)
          ∙ or_assoc (square_at a.rows.now p q) (mem a.x p && mem a.y q) (mem a.y p && mem a.x q),
    )
