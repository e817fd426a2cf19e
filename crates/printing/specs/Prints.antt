-- What is computed: what `print` answers, and every byte of the lent buffer after it. Assumes nothing.
use Rattle.std.specs.Prelude.{◌≡◌, Bool, cond, List, ℕ, leb, length, get_or, Result, Ok, Err}
use Rattle.lists.specs.Buffer.{over}
use Rattle.lists.specs.declared.ShortBuffer.{ShortBuffer}
use Rattle.formula.specs.Formula.{Term, Atom, Form, Name}
use Rattle.formula.specs.Atoms.{atoms_of}
use Rattle.syntax.specs.Rule.{rule_of, meaning_of}
use Rattle.syntax.specs.declared.Rule.{Rule}
use Rattle.syntax.specs.declared.RuleAnswer.TheVariants as RuleAnswer
use Rattle.printing.specs.Text.{text_of}

-- the rule was read from the text
pub record WasRead (s : List ℕ) (rule : Rule) : Type 0 where
  pub read : rule ≡ rule_of s
  pub formula : rule.answer ≡ RuleAnswer.Formula

-- the text that is printed for a rule text: that of the formula read from it
unfoldable pub printed_text : List ℕ → List ℕ
printed_text s = text_of (meaning_of s)

-- the atom of a rule text with this number, from 0 in written order; of a number that none has, 0=0
abbrev pub atom_at : List ℕ → ℕ → Atom Name
atom_at s i = get_or (atoms_of (meaning_of s)) i (Atom.empty Term.zero)

-- the text that is printed for it: that of the formula that is this atom alone
unfoldable pub atom_text : List ℕ → ℕ → List ℕ
atom_text s i = text_of (Form.atom (atom_at s i))

-- the text ws fits into the buffer
abbrev pub fits : List ℕ → List ℕ → Bool
fits ws buf = leb (length ws) (length buf)

-- the text ws is printed into a buffer
pub record Prints (ws buf : List ℕ) (result : Result ℕ ShortBuffer) (exit : List ℕ) : Type 0 where
  -- "the answer carries the length written"; 12 "with the bytes needed"
  pub answer : result ≡ cond (fits ws buf) (Ok (length ws)) (Err (record { needed = length ws }))
  -- "what lies past it is kept"; of 12: "the buffer keeps its contents"
  pub bytes : exit ≡ cond (fits ws buf) (over ws buf) buf
