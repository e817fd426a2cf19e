-- `syntax::read_rule` meets its contract: the lexer's answer decides, and its tokens are parsed. Assumes nothing.
use Rattle.std.specs.Prelude.{Ok, Err}
use mathlib.Core.Path.{refl, sym, ap, ◌∙◌}
use Rattle.syntax.specs.Rule.{refusal_of}
use Rattle.syntax.proofs.Rules.{few_tokens, arrays_of, rule_by}
use Rattle.syntax.proofs.read_rule.Goals as goal

pub parsed-requires : goal.parsed-requires
parsed-requires c = few_tokens _ _ c.lex.ensures _ c.in-Ok.is

pub returns-in-Ok : goal.returns-in-Ok
returns-in-Ok c =
    c.parsed.ensures _ _ (arrays_of _ _ c.lex.ensures _ c.in-Ok.is) refl
    ∙ sym (rule_by _ _ c.lex.ensures (Ok _) c.in-Ok.is)

pub returns-in-Err : goal.returns-in-Err
returns-in-Err c =
    c.refusal.ensures ∙ ap refusal_of c.not_cut.ensures ∙ sym (rule_by _ _ c.lex.ensures (Err _) c.in-Err.is)
