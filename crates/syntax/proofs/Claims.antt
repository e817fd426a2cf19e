-- What is proved of the reading of rules, for tokens and texts of any length: it answers as the grammar says. What is read
-- is derived and what is derived is read, so that the grammar itself gives one reading and one place of refusal.
-- Assumes nothing.
use mathlib.Core.Path.{◌≡◌}
use mathlib.Core.List.{List}
use Prim.Native.Nat.{ℕ, ◌≤◌}
use lib.ListN.{length}
use Rattle.lists.specs.Padded.{pad}
use Rattle.formula.specs.Formula.{Formula, Name}
use Rattle.formula.specs.Names.{formula_names}
use Rattle.lexer.specs.Arrays.{tokens_of}
use Rattle.syntax.specs.Grammar.{Derives}
use Rattle.syntax.specs.Symbol.{Symbol}
use Rattle.syntax.specs.Postfix.{postfix, formula_of, names_among}
use Rattle.syntax.specs.Machine.{Sym, accepted, refused, reading}
use Rattle.syntax.specs.Refusal.{Refusal}
use Rattle.syntax.specs.RuleText.{IsRule, Answers}
use Rattle.syntax.specs.Reader.{codes, without_order, judged_of}
use Rattle.syntax.specs.Rule.{rule_of, meaning_of}
use Rattle.syntax.specs.declared.RuleAnswer.{RuleAnswer}
use Rattle.syntax.proofs.Heads as heads
use Rattle.syntax.proofs.Judging as judging
use Rattle.syntax.proofs.Sound.{sound}
use Rattle.syntax.proofs.Complete.{complete}
use Rattle.syntax.proofs.Unique.{unique, formula_back}
use Rattle.syntax.proofs.Exact.{exact, exact_only}
use Rattle.syntax.proofs.Names.{names_of_tokens, names_of_order}
use Rattle.syntax.proofs.Texts.{answered, answered_only, rule_read, rule_means, is_rule as rule-if-read}

-- ---- lists of tokens

-- tokens that are accepted are a formula, and the answer is its postfix order
pub read_derived : (xs o : List Sym) → reading xs ≡ accepted o → (f : Formula Name) × Derives xs f × (postfix f ≡ o)
read_derived = sound

-- tokens that are a formula are accepted, with its postfix order
pub derived_read : (xs : List Sym) (f : Formula Name) → Derives xs f → reading xs ≡ accepted (postfix f)
derived_read = complete

-- tokens are one formula at most: the grammar is unambiguous
pub one_reading : (xs : List Sym) (f g : Formula Name) → Derives xs f → Derives xs g → f ≡ g
one_reading = unique

-- tokens are refused at a place exactly where the grammar refuses them: those before it begin a formula, and with the
-- token there they begin none, or none follows and they are no formula
pub refused_exactly : (xs : List Sym) (j : ℕ) → (reading xs ≡ refused j → Refusal xs j) × (Refusal xs j → reading xs ≡ refused j)
refused_exactly xs j = (exact xs j, exact_only xs j)

-- of up to 256 tokens alone, `judge` answers what their reading is
pub judged_few : (xs : List Sym) → length xs ≤ 256 → judged_of xs ≡ without_order (reading xs)
judged_few = judging.judged_few

-- ---- the postfix order

-- a formula is found again from its order
pub order_back : {N : Type 0} (f : Formula N) → formula_of (postfix f) ≡ f
order_back = formula_back

-- the names of the tokens, and those of the order, are the formula's, left to right
pub token_names : {N : Type 0} (xs : List (Symbol N)) (f : Formula N) → Derives xs f → names_among xs ≡ formula_names f
token_names = names_of_tokens

pub order_names : {N : Type 0} (f : Formula N) → names_among (postfix f) ≡ formula_names f
order_names = names_of_order

-- the kinds of an order are as many as its symbols
pub length_codes : (o : List Sym) → length (codes o) ≡ length o
length_codes = heads.length_codes

-- ---- texts

-- each text is answered as the table of calls has it
pub text_answered : (s : List ℕ) → Answers s (rule_of s).answer
text_answered = answered

-- and in no other way
pub text_answered_only : (s : List ℕ) (a : RuleAnswer) → Answers s a → a ≡ (rule_of s).answer
text_answered_only = answered_only

-- a rule is read with its tokens and the kinds of its formula's order
pub text_read : (s : List ℕ) (f : Formula Name) (h : IsRule s f)
    → rule_of s ≡ record { answer = RuleAnswer.Formula; tokens = tokens_of h.cut_tokens; order = pad 256 (codes (postfix f)); len = length (postfix f) }
text_read = rule_read

-- and means that formula
pub text_means : (s : List ℕ) (f : Formula Name) → IsRule s f → meaning_of s ≡ f
text_means = rule_means

-- a text that is answered so is a rule
pub is_rule : (s : List ℕ) → (rule_of s).answer ≡ RuleAnswer.Formula → IsRule s (meaning_of s)
is_rule = rule-if-read

-- and has at most 256 bytes
pub read_short : (s : List ℕ) → (rule_of s).answer ≡ RuleAnswer.Formula → length s ≤ 256
read_short s e = (is_rule s e).short
