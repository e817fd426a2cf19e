-- `exercises::judged` meets its contract: so far the kinds of the first i tokens are there. Assumes nothing.
use mathlib.Core.Path.{◌≡◌, sym, ap, subst, ◌∙◌}
use Prim.Native.Nat.{ℕ, ◌≤◌}
use native.Mathlib.Omega.{arith}
use mathlib.Core.List.{List}
use lib.ListN.{length, take, length-map}
use lib.Seq.{take_all}
use Rattle.lists.specs.Padded.{pad}
use Rattle.lists.proofs.Padded.{pad_none}
use Rattle.syntax.specs.Machine.{Sym}
use Rattle.syntax.proofs.Claims.{judged_few}
use Rattle.exercises.specs.Tokens.{tokens_at}
use Rattle.exercises.proofs.KindRows.{kinds_of, kinds_more, kinds_taken, kinds_length, codes_of}
use Rattle.exercises.proofs.judged.Goals as goal

pub loop-i-init : goal.loop-i-init
loop-i-init c = pad_none 6

pub loop-i-preserved : goal.loop-i-preserved
loop-i-preserved c =
    let k = c.loop-i in
    kinds_more c.args.ks.now k.i k.kinds c.kind.result k.invariant c.kind.ensures c.requires (omega arith)

pub returns : goal.returns
returns c =
    let ks = c.args.ks.now in
    let k = c.loop-i in
    let e : k.i ≡ length ks = omega arith in
    let xs : List Sym = tokens_at ks in
    let few : length xs ≤ 256 = simp length-map (omega (arith, c.requires)) in
    let all : k.kinds ≡ pad 6 (kinds_of (take (length ks) ks)) = subst (λ (i : ℕ). k.kinds ≡ pad 6 (kinds_of (take i ks))) e k.invariant in
    c.judge.ensures xs
    (codes_of ks ∙ ap kinds_of (sym (take_all (length ks) ks (omega arith))) ∙ sym (kinds_taken ks (length ks) k.kinds all c.requires (omega arith)))
    ∙ judged_few xs few
