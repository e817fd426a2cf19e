-- `lexer::all_blank` meets its contract: every byte is asked. Assumes nothing.
use mathlib.Core.Path.{◌∙◌}
use Rattle.std.proofs.lemmas.Iterator.{YieldsList-from_slice}
use Rattle.std.proofs.lemmas.Iterator.Search.{all_from_yields_List}
use Rattle.std.proofs.Common.{rules, tests}
use Rattle.lexer.specs.Class.{is_blank}
use Rattle.lexer.proofs.Blanks.{all_is}
use Rattle.lexer.proofs.all_blank.Goals as goal

pub returns : goal.returns
returns c =
    let text = c.args.text.now in
    all_from_yields_List is_blank _ _ _ c.all.ensures.ran (YieldsList-from_slice text cc) (λ x b q k. search (rules, tests)) ∙ all_is is_blank text
