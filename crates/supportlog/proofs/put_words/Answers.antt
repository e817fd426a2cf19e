-- `supportlog::put_words` meets its contract: so far the first i words are put. Assumes nothing.
use mathlib.Core.Path.{◌≡◌, ap}
use mathlib.Core.Logic.{⊎_elim}
use Prim.Native.Nat.{ℕ}
use native.Mathlib.Omega.{arith}
use lib.ListN.{length, take}
use Rattle.lists.specs.Search.{collect}
use Rattle.lists.proofs.Truth.{side}
use Rattle.lists.proofs.Putting.{puts_none, puts_text, puts_more, puts_length}
use Rattle.supportlog.specs.Answers.{hex_word}
use Rattle.supportlog.proofs.Texts.{hexes_start, hexes_more, hexes_all}
use Rattle.supportlog.proofs.put_words.Goals as goal

pub loop-i-init : goal.loop-i-init
loop-i-init c =
    let a = c.args in
    (omega arith, puts_text (hexes_start a.words.now) (puts_none a.at a.out.now (omega arith)))

pub bounds-words-i : goal.bounds-words-i
bounds-words-i c = omega (arith, c.min-count.ensures)

pub put_hex-end-requires : goal.put_hex-end-requires
put_hex-end-requires c =
    let k = c.loop-i in
    omega (arith, puts_length k.invariant.1, k.invariant.0, c.min-count.ensures)

pub loop-i-preserved : goal.loop-i-preserved
loop-i-preserved c =
    let a = c.args in
    let k = c.loop-i in
    let put = c.put_hex-end.ensures in
    (omega (arith, put.place, k.invariant.0), puts_text (hexes_more a.words.now k.i (omega (arith, c.min-count.ensures))) (puts_more k.invariant.1 put))

pub returns : goal.returns
returns c =
    let a = c.args in
    let k = c.loop-i in
    let all : collect hex_word (take k.i a.words.now) ≡ collect hex_word (take a.n a.words.now) =
    ⊎_elim
    (λ h. let e : k.i ≡ a.n = omega (arith, h, c.min-count.ensures) in ap (λ (x : ℕ). collect hex_word (take x a.words.now)) e)
    (λ h. hexes_all a.words.now k.i a.n (omega (arith, h, c.min-count.ensures)) (omega (arith, h, c.min-count.ensures)))
    (side a.n (length a.words.now)) in
    (puts_text all k.invariant.1, omega (arith, k.invariant.0, c.min-count.ensures))
