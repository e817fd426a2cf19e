-- What is computed: the names of a rule's text, numbered by first place behind those that are known, up to the ninth different one.
-- Assumes nothing.
use Rattle.std.specs.Prelude.{cond, ◌≡◌, List, [], ◌∷◌, ◌++◌, map, ℕ, ◌-◌, ◌≤◌, ltb, length, take, replicate}
use Rattle.lists.specs.Padded.{pad}
use Rattle.formula.specs.Formula.{Name}
use Rattle.lexer.specs.Token.{Token}
use Rattle.lexer.specs.Cutter.{cutting}
use Rattle.syntax.specs.Rule.{tokens_in, rule_of}
use Rattle.syntax.specs.declared.RuleAnswer.{RuleAnswer}
use Rattle.syntax.specs.declared.Rule.{Rule}
use Rattle.evalset.specs.Most.{most}
use Rattle.contact.specs.Numbering.{position, same_name}
use Rattle.contact.specs.Putting.{put}
use Rattle.names.specs.Ninth.{NameAt, places_of}
use Rattle.names.specs.declared.KeptName.{KeptName}
use Rattle.names.specs.declared.Names.{Names}
use Rattle.names.specs.declared.NamesAnswer.{NamesAnswer}
use Rattle.names.specs.declared.Gathered.{Gathered}

-- ---- the tokens of a rule

-- the tokens that a rule is handed back with; a refusal comes with none
abbrev pub if_read : RuleAnswer → List Token → List Token
if_read RuleAnswer.Formula ts = ts
if_read RuleAnswer.TooLong ts = []
if_read RuleAnswer.NoToken ts = []
if_read (RuleAnswer.ForeignByte i) ts = []
if_read (RuleAnswer.LongName i) ts = []
if_read (RuleAnswer.Measured i) ts = []
if_read (RuleAnswer.GrammarAt i) ts = []

-- the tokens of a text that is a rule; none of another
unfoldable pub rule_tokens : List ℕ → List Token
rule_tokens s = if_read (rule_of s).answer (tokens_in (cutting s))

-- ---- numbered behind those that are known

-- a name put last, if it is not among them
unfoldable pub with_name : List Name → Name → List Name
with_name ks w = put same_name ks w

-- the names that are known, the number of each name place, and the answer
pub record Numbered : Type 0 where
  pub names : List Name
  pub numbers : List ℕ
  pub answer : NamesAnswer

abbrev pub numbered : List Name → List ℕ → NamesAnswer → Numbered
numbered ks ns a = record { names = ks; numbers = ns; answer = a }

-- the numbers ns before those that follow
abbrev pub behind : List ℕ → Numbered → Numbered
behind ns r = numbered r.names (ns ++ r.numbers) r.answer

-- "It holds at most 16 rules, 6 names and 16 atoms.": the names at their places, one after the other; at the first that would be one
-- too many, its place is the answer
unfoldable pub names_after : List Name → List NameAt → Numbered
names_after ks [] = numbered ks [] NamesAnswer.Enough
names_after ks (x ∷ xs) =
    let more = behind (position same_name ks x.name ∷ []) (names_after (with_name ks x.name) xs) in
    cond (ltb most (length (with_name ks x.name))) (numbered ks [] (NamesAnswer.TooManyNames x.place)) more

-- ---- as arrays

-- a name as it is kept
unfoldable pub kept_name : Name → KeptName
kept_name w = record { bytes = pad 16 w; len = length w }

-- names as they are kept
unfoldable pub arrays_of : List Name → Names
arrays_of ks = record { list = map kept_name ks ++ replicate (most - length ks) (kept_name []); count = length ks }

-- the names that arrays hold
abbrev pub bytes_in : KeptName → Name
bytes_in k = take k.len k.bytes

unfoldable pub known_of : Names → List Name
known_of ns = map bytes_in (take ns.count ns.list)

-- names and numbers as arrays
unfoldable pub gathered_of : Numbered → Gathered
gathered_of r = record { names = arrays_of r.names; numbers = pad 256 r.numbers; answer = r.answer }

-- what is gathered from a text behind the names that are known
unfoldable pub gathered : List ℕ → List Name → Gathered
gathered s ks = gathered_of (names_after ks (places_of s (rule_tokens s)))

-- ---- what a caller has

-- arrays that hold names, at most eight
pub record Kept (ns : Names) : Type 0 where
  pub canonical : ns ≡ arrays_of (known_of ns)
  pub few : ns.count ≤ most

-- the rule was read from the text, and the names are kept
pub record Gathers (s : List ℕ) (rule : Rule) (ns : Names) : Type 0 where
  pub read : rule ≡ rule_of s
  pub kept : Kept ns
