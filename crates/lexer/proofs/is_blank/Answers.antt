-- `lexer::is_blank` meets its contract: a byte is blank exactly if its class is. Assumes nothing.
use mathlib.Core.Path.{◌≡◌, ◌∙◌}
use Rattle.std.proofs.Common.{rules}
use Rattle.lexer.specs.Class.{class_of}
use Rattle.lexer.proofs.Blanks.{of_blanks, blank_class}
use Rattle.lexer.proofs.is_blank.Goals as goal

pub returns : goal.returns
returns c =
    let test : c.eq.result ≡ of_blanks (class_of c.args.b) = search rules in
    test ∙ blank_class c.args.b
