-- `compile::put_set` meets its contract: the four words are those of the set (Stack.antt). Assumes nothing.
use mathlib.Core.List.{[], ◌∷◌}
use native.Mathlib.Omega.{arith}
use lib.ListN.{length-set}
use Rattle.evalset.specs.Sets.{mem}
use Rattle.evalset.proofs.Members.{mem_above}
use Rattle.evalset.proofs.Words.{made}
use Rattle.compile.proofs.Stack.{set_written}
use Rattle.compile.proofs.put_set.Goals as goal

pub bounds-stack-at-2 : goal.bounds-stack-at-2
bounds-stack-at-2 c = simp length-set (omega arith)

pub bounds-stack-at-3 : goal.bounds-stack-at-3
bounds-stack-at-3 c = simp length-set (omega arith)

pub bounds-stack-at-4 : goal.bounds-stack-at-4
bounds-stack-at-4 c = simp length-set (omega arith)

pub returns : goal.returns
returns c =
    let s = c.args.s in
    let x = c.word_of in
    let y = c.word_of-2 in
    let z = c.word_of-3 in
    let w = c.word_of-4 in
    record {
      written = record { words = x.result ∷ y.result ∷ z.result ∷ w.result ∷ [] };
      members = made (mem s) _ _ _ _ x.ensures y.ensures z.ensures w.ensures (mem_above s);
      stored = set_written _ _ _ _ c.args.h c.args.stack.now c.requires;
      long = simp length-set;
    }
