-- `drawing::put_words` meets its contract: so far the bytes of the first i words are put. Assumes nothing.
use mathlib.Core.Path.{ap}
use native.Mathlib.Omega.{arith}
use lib.Seq.{take_all}
use Rattle.lists.proofs.Putting.{puts_none, puts_text, puts_more, puts_length}
use Rattle.drawing.specs.Drawn.{bytes_of}
use Rattle.drawing.proofs.Drawing.{bytes_start, bytes_more}
use Rattle.drawing.proofs.put_words.Goals as goal

pub loop-word-init : goal.loop-word-init
loop-word-init c = (omega arith, puts_text (bytes_start c.args.words.now) (puts_none 0 c.args.buffer.now (omega arith)))

pub put_word-end-requires : goal.put_word-end-requires
put_word-end-requires c =
    let k = c.loop-word in
    omega (arith, puts_length k.invariant.1, k.invariant.0)

pub loop-word-preserved : goal.loop-word-preserved
loop-word-preserved c =
    let k = c.loop-word in
    let put = c.put_word-end.ensures in
    (omega (arith, put.place, k.invariant.0), puts_text (bytes_more c.args.words.now k.word-index (omega arith)) (puts_more k.invariant.1 put))

pub returns : goal.returns
returns c =
    let k = c.loop-word in
    puts_text (ap bytes_of (take_all k.word-index _ (omega arith))) k.invariant.1
