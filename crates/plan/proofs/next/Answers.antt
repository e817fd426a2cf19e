-- `plan::next` meets its contract: no position passed is in the row. Assumes nothing.
use mathlib.Core.Path.{sym, ◌∙◌}
use Prim.Native.Nat.{◌^◌, ◌<◌}
use native.Mathlib.Omega.{arith}
use Rattle.evalset.specs.Bit.{word_bits}
use Rattle.evalset.specs.Sets.{mem}
use Rattle.plan.proofs.Nexts.{next_within, next_found, next_none}
use Rattle.plan.proofs.next.Goals as goal

pub loop-j-init : goal.loop-j-init
loop-j-init c = (omega arith, λ d a b. absurd (omega arith))

pub overflow_add-j : goal.overflow_add-j
overflow_add-j c =
    let a = c.args in
    let loop = c.loop-j in
    let word = c.word_of-word in
    let least = c.word_least in
    let small : word.result < 2 ^ word_bits = omega arith in
    let given = c.in-Some in
    let x = next_within (mem a.row) a.from a.n loop.j word.result loop.invariant.0 (omega arith) loop.invariant.1 word.ensures small given.x (sym least.ensures ∙ given.is) in
    omega (arith, x)

pub returns-in-Some : goal.returns-in-Some
returns-in-Some c =
    let a = c.args in
    let loop = c.loop-j in
    let word = c.word_of-word in
    let least = c.word_least in
    let small : word.result < 2 ^ word_bits = omega arith in
    let given = c.in-Some in
    next_found (mem a.row) a.from a.n loop.j word.result loop.invariant.0 (omega arith) loop.invariant.1 word.ensures small given.x (sym least.ensures ∙ given.is)
    c.min.result c.min.ensures

pub loop-j-preserved : goal.loop-j-preserved
loop-j-preserved c =
    let a = c.args in
    let loop = c.loop-j in
    let word = c.word_of-word in
    let least = c.word_least in
    let small : word.result < 2 ^ word_bits = omega arith in
    (omega arith, next_none (mem a.row) a.from a.n loop.j word.result loop.invariant.0 (omega arith) loop.invariant.1 word.ensures small (sym least.ensures ∙ c.in_default.is))

pub returns : goal.returns
returns c =
    let loop = c.loop-j in
    record {
      least = omega arith;
      most = omega arith;
      absent = λ d a b. loop.invariant.1 d a (omega arith);
      present = λ l. absurd (omega arith);
    }
