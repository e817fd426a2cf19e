-- `syntax::parsed` meets its contract: the kinds that are parsed are those of the text's symbols. Assumes nothing.
use mathlib.Core.Path.{refl, ◌∙◌}
use Rattle.syntax.specs.RuleText.{symbols_of}
use Rattle.syntax.proofs.Rules.{kinds_read, read_value, read_refused}
use Rattle.syntax.proofs.parsed.Goals as goal

pub returns-in-Ok : goal.returns-in-Ok
returns-in-Ok c = λ s ts e l.
    read_value s ts _ e _ _ (c.in-Ok.ensures (symbols_of s ts) (kinds_read s ts _ e) refl)

pub returns-in-Err : goal.returns-in-Err
returns-in-Err c = λ s ts e l.
    c.refusal.ensures
    ∙ read_refused s ts _ e _ _ (c.in-Err.ensures (symbols_of s ts) (kinds_read s ts _ e) refl) (c.place.ensures s ts e l)
