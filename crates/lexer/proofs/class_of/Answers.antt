-- `lexer::class_of` meets its contract: below 128 the table has the class, and from 128 on every byte is foreign. Assumes nothing.
use mathlib.Core.Path.{sym}
use Rattle.lexer.proofs.Classes.{classes_right, above_foreign}
use Rattle.lexer.proofs.class_of.Goals as goal

pub returns-then-b-lt128 : goal.returns-then-b-lt128
returns-then-b-lt128 c = classes_right.right c.args.b c.if-b-lt128.true _

pub returns-else-b-lt128 : goal.returns-else-b-lt128
returns-else-b-lt128 c = sym (above_foreign c.args.b c.if-b-lt128.false)
