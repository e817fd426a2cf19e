-- `remarks::put_sentence` meets its contract: each arm knows the number. Assumes nothing.
use native.Mathlib.Omega.{arith}
use Rattle.lists.proofs.Putting.{puts_none, puts_text}
use Rattle.remarks.specs.Remark.{sentences, sentence}
use Rattle.remarks.proofs.Parts.{sentence_told, no_sentence}
use Rattle.remarks.proofs.put_sentence.Goals as goal

pub returns-in-1 : goal.returns-in-1
unfolding sentence sentences
returns-in-1 c = let a = c.args in (sentence_told a.text.now a.place 1 c.in-1.is c.put_text.ensures, omega (arith, c.put_text.ensures.place))

pub returns-in-2 : goal.returns-in-2
unfolding sentence sentences
returns-in-2 c = let a = c.args in (sentence_told a.text.now a.place 2 c.in-2.is c.put_text-in-2.ensures, omega (arith, c.put_text-in-2.ensures.place))

pub returns-in-3 : goal.returns-in-3
unfolding sentence sentences
returns-in-3 c = let a = c.args in (sentence_told a.text.now a.place 3 c.in-3.is c.put_text-in-3.ensures, omega (arith, c.put_text-in-3.ensures.place))

pub returns-in-4 : goal.returns-in-4
unfolding sentence sentences
returns-in-4 c = let a = c.args in (sentence_told a.text.now a.place 4 c.in-4.is c.put_text-in-4.ensures, omega (arith, c.put_text-in-4.ensures.place))

pub returns-in-5 : goal.returns-in-5
unfolding sentence sentences
returns-in-5 c = let a = c.args in (sentence_told a.text.now a.place 5 c.in-5.is c.put_text-in-5.ensures, omega (arith, c.put_text-in-5.ensures.place))

pub returns-in-6 : goal.returns-in-6
unfolding sentence sentences
returns-in-6 c = let a = c.args in (sentence_told a.text.now a.place 6 c.in-6.is c.put_grammar.ensures.0, c.put_grammar.ensures.1)

pub returns-in-7 : goal.returns-in-7
unfolding sentence sentences
returns-in-7 c = let a = c.args in (sentence_told a.text.now a.place 7 c.in-7.is c.put_text-in-7.ensures, omega (arith, c.put_text-in-7.ensures.place))

pub returns-in-8 : goal.returns-in-8
unfolding sentence sentences
returns-in-8 c = let a = c.args in (sentence_told a.text.now a.place 8 c.in-8.is c.put_text-in-8.ensures, omega (arith, c.put_text-in-8.ensures.place))

pub returns-in-9 : goal.returns-in-9
unfolding sentence sentences
returns-in-9 c = let a = c.args in (sentence_told a.text.now a.place 9 c.in-9.is c.put_text-in-9.ensures, omega (arith, c.put_text-in-9.ensures.place))

pub returns-in-10 : goal.returns-in-10
unfolding sentence sentences
returns-in-10 c = let a = c.args in (sentence_told a.text.now a.place 10 c.in-10.is c.put_text-in-10.ensures, omega (arith, c.put_text-in-10.ensures.place))

pub returns-in-11 : goal.returns-in-11
unfolding sentence sentences
returns-in-11 c = let a = c.args in (sentence_told a.text.now a.place 11 c.in-11.is c.put_text-in-11.ensures, omega (arith, c.put_text-in-11.ensures.place))

pub returns-in-19 : goal.returns-in-19
unfolding sentence sentences
returns-in-19 c = let a = c.args in (sentence_told a.text.now a.place 19 c.in-19.is c.put_text-in-19.ensures, omega (arith, c.put_text-in-19.ensures.place))

pub returns-in_default : goal.returns-in_default
returns-in_default c =
    let a = c.args in
    let n = c.in_default.in_default-own.rest in (
      puts_text (no_sentence a.text.now a.place n.0.0.0.0.0.0.0.0.0.0.0.1 n.0.0.0.0.0.0.0.0.0.0.1 n.0.0.0.0.0.0.0.0.0.1 n.0.0.0.0.0.0.0.0.1 n.0.0.0.0.0.0.0.1 n.0.0.0.0.0.0.1 n.0.0.0.0.0.1 n.0.0.0.0.1 n.0.0.0.1 n.0.0.1 n.0.1 n.1)
          (puts_none a.at a.out.now (omega (arith, c.requires))),
      omega arith,
    )
