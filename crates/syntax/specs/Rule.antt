-- What is computed: the answer for a rule text, with its tokens and its formula's order as arrays. Assumes nothing.
use Rattle.std.specs.Prelude.{Result as Answer, Ok, Err, List, [], ℕ, length, replicate}
use Rattle.lists.specs.Padded.{pad}
use Rattle.lexer.specs.Token.{Token}
use Rattle.lexer.specs.Cutting.{Cutting, tokens, refused}
use Rattle.lexer.specs.Cutter.{cutting}
use Rattle.lexer.specs.Arrays.{tokens_of, lexed}
use Rattle.lexer.specs.declared.LexError.{LexError}
use Rattle.lexer.specs.declared.Tokens.{Tokens}
use Rattle.syntax.specs.Machine.{Result, accepted, refused as refusedAt, reading}
use Rattle.formula.specs.Formula.{Form, Formula, Name}
use Rattle.syntax.specs.Postfix.{formula_of}
use Rattle.syntax.specs.Reader.{codes}
use Rattle.syntax.specs.RuleText.{symbols_of, place_of}
use Rattle.syntax.specs.declared.RuleAnswer.{RuleAnswer}
use Rattle.syntax.specs.declared.Rule.{Rule}

-- a refusal comes with no token and no order
unfoldable pub refusal_of : RuleAnswer → Rule
refusal_of a = record { answer = a; tokens = tokens_of []; order = replicate 256 0; len = 0 }

-- the formula's order in an array, what is past it 0; or refusal 6 at the token's place
abbrev pub read_tokens : List ℕ → List Token → Result → Rule
read_tokens s ts (accepted o) =
    record { answer = RuleAnswer.Formula; tokens = tokens_of ts; order = pad 256 (codes o); len = length o }
read_tokens s ts (refusedAt i) = refusal_of (RuleAnswer.GrammarAt (place_of s ts i))

abbrev pub tokens_in : Cutting → List Token
tokens_in (tokens ts) = ts
tokens_in (refused a) = []

-- the answer for a text that is not cut into tokens
abbrev pub not_cut : LexError → RuleAnswer
not_cut LexError.TooLong = RuleAnswer.TooLong
not_cut LexError.NoToken = RuleAnswer.NoToken
not_cut (LexError.ForeignByte i) = RuleAnswer.ForeignByte i
not_cut (LexError.LongName i) = RuleAnswer.LongName i
not_cut (LexError.Measured i) = RuleAnswer.Measured i

abbrev pub by_answer : Answer Tokens LexError → List ℕ → List Token → Rule
by_answer (Ok t) s ts = read_tokens s ts (reading (symbols_of s ts))
by_answer (Err e) s ts = refusal_of (not_cut e)

-- the answer for a text
unfoldable pub rule_of : List ℕ → Rule
rule_of s = by_answer (lexed s) s (tokens_in (cutting s))

-- "Each entry is the rule's text as it came, and means the formula read from it": of a text that is no rule, F
abbrev pub formula_read : Result → Formula Name
formula_read (accepted o) = formula_of o
formula_read (refusedAt i) = Form.falsity

unfoldable pub meaning_of : List ℕ → Formula Name
meaning_of s = formula_read (reading (symbols_of s (tokens_in (cutting s))))
