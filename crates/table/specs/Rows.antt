-- What is meant: an answer, the row of the table of calls that applies first, "checked from the top down", with its number and what it
-- carries. No algorithm: the formulas fs of the standing texts are those that the grammar derives (`AreRules`), and there is one list of
-- them only (`formulas_one` of proofs/Claims.antt); the plan that is given follows document 01's own rule (`IsGiven`). Assumes nothing.
use Rattle.std.specs.Prelude.{ℕ, ◌+◌, ◌≤◌, ◌<◌, ◌≡◌, ◌⊎◌, true, false, List, [], ◌∷◌, ◌++◌, length}
use Rattle.formula.specs.Formula.{Formula, Name}
use Rattle.formula.specs.Names.{atom_names}
use Rattle.syntax.specs.RuleText.{IsRule, Answers}
use Rattle.syntax.specs.declared.RuleAnswer.TheVariants as RuleAnswer
use Rattle.lists.specs.Search.{In, collect}
use Rattle.contact.specs.Numbering.{all_atoms, names_of, different_atoms}
use Rattle.contact.specs.Meaning.{Floor, meets_all}
use Rattle.contact.specs.Question.{Question, plain, Counts, NoFloor}
use Rattle.plan.specs.Words.{Plan, IsPlan, words_of, Refusal}
use Rattle.plan.specs.Floor.{named_floor}
use Rattle.names.specs.Ninth.{NinthAt, places_of}
use Rattle.table.specs.Sheet.{Text, lines_of, blank_line, filled}
use Rattle.table.specs.declared.Outcome.{Outcome}
use Rattle.table.specs.Rules.{AreRules, CanStand}
use Rattle.plan.specs.Meant.{IsGiven, FirstUnmet}
use Rattle.printing.specs.Text.{text_of}
use Rattle.trees.specs.Trees.{Tree, words_of as treeWords}
use Rattle.trees.specs.OfRules.{IsClosedTree, IsNoTree, IsWrittenTree}

-- add's text s where the texts rs stand
pub data AddRow (rs : List Text) (s : Text) : Outcome → Type 0 where
  -- 2: "more than 256 bytes", with 256
  long : Answers s RuleAnswer.TooLong → AddRow rs s (Outcome.Refused 2 256)
  -- 1: "no token and no foreign byte"
  blank : Answers s RuleAnswer.NoToken → AddRow rs s (Outcome.Refused 1 0)
  -- 3: "foreign byte", at "its place"
  foreign : {p : ℕ} → Answers s (RuleAnswer.ForeignByte p) → AddRow rs s (Outcome.Refused 3 p)
  -- 4: "name over 16 bytes", at "its first byte"
  name_long : {p : ℕ} → Answers s (RuleAnswer.LongName p) → AddRow rs s (Outcome.Refused 4 p)
  -- 5: "<=m", at "its first byte"
  measured : {p : ℕ} → Answers s (RuleAnswer.Measured p) → AddRow rs s (Outcome.Refused 5 p)
  -- 6: "tokens up to here begin no formula, or text ends early", at the "token's first byte, or the text's length"
  grammar : {p : ℕ} → Answers s (RuleAnswer.GrammarAt p) → AddRow rs s (Outcome.Refused 6 p)
  -- 9: "16 rules stand"
  full : {f : Formula Name} → IsRule s f → 16 ≤ length rs → AddRow rs s (Outcome.Refused 9 0)
  -- 7: "the ninth name" (document 02, T-08), at "that name's first byte", among the tokens that the text is cut into
  ninth : {f : Formula Name} {fs : List (Formula Name)} {p : ℕ} → (h : IsRule s f) → AreRules rs fs → length rs < 16
      → NinthAt (collect atom_names (all_atoms fs)) (places_of s h.cut_tokens) p → AddRow rs s (Outcome.Refused 7 p)
  -- 8: "more than 16 atoms in all"; "for 7 and 8, add's text is first put at its end"; document 02, T-03: "8 now comes at the seventeenth
  -- different atom, in its old place"
  many : {fs : List (Formula Name)} → AreRules (rs ++ s ∷ []) fs → length rs < 16 → length (names_of fs) ≤ 8 → 16 < length (different_atoms fs) → AddRow rs s (Outcome.Refused 8 0)
  -- "No refusal comes in another case."
  stands : {fs : List (Formula Name)} → AreRules (rs ++ s ∷ []) fs → length rs < 16 → length (names_of fs) ≤ 8 → length (different_atoms fs) ≤ 16 → AddRow rs s Outcome.Done

-- withdraw k where the texts rs stand
pub data WithdrawRow (rs : List Text) (k : ℕ) : Outcome → Type 0 where
  -- 10: "k is 0 or above the number of rules"
  none : (k ≡ 0) ⊎ (length rs < k) → WithdrawRow rs k (Outcome.Refused 10 k)
  taken : 0 < k → k ≤ length rs → WithdrawRow rs k Outcome.Done

-- "The first refused line ends the load": the lines before it that are not blank are added to an empty list
pub record RefusedLine (ls : List Text) (number line place : ℕ) : Type 0 where
  pub before : List Text
  pub text : Text
  pub later : List Text
  pub split : ls ≡ before ++ text ∷ later
  -- "line (from 1, blank ones counted)"
  pub line_is : line ≡ length before + 1
  pub filled_text : blank_line text ≡ false
  pub added : CanStand (filled before)
  pub row : AddRow (filled before) text (Outcome.Refused number place)

-- load's file
pub data LoadRow (f : Text) : Outcome → Type 0 where
  -- 15: "more than 8,192 bytes"
  long : 8192 < length f → LoadRow f (Outcome.RefusedLine 15 0 0)
  -- 1: "every line blank, or no byte"
  blank : length f ≤ 8192 → filled (lines_of f) ≡ [] → LoadRow f (Outcome.RefusedLine 1 0 0)
  line : {k n p : ℕ} → length f ≤ 8192 → RefusedLine (lines_of f) k n p → LoadRow f (Outcome.RefusedLine k n p)
  loads : length f ≤ 8192 → (filled (lines_of f) ≡ [] → ⊥) → CanStand (filled (lines_of f)) → LoadRow f Outcome.Done

-- s is the k-th of the texts rs, from 1
pub record IsKth (rs : List Text) (k : ℕ) (s : Text) : Type 0 where
  pub before : List Text
  pub later : List Text
  pub parts : rs ≡ before ++ s ∷ later
  pub place : length before + 1 ≡ k

-- some rule stands
abbrev pub SomeStand : List Text → Type 0
SomeStand rs = rs ≡ [] → ⊥

-- ask, for a question, with a buffer of so many words; of one building (document 02, T-04): "Refused: 11 and 12, as for the old question."
pub data AskRow (q : Question) (rs : List Text) (room : ℕ) : Outcome → Type 0 where
  -- 11: "no rule stands"
  none : rs ≡ [] → AskRow q rs room (Outcome.Refused 11 0)
  -- no finite floor that counts, of any number of points, meets all rules
  without : {fs : List (Formula Name)} → SomeStand rs → AreRules rs fs → NoFloor q fs → AskRow q rs room Outcome.NoPlan
  -- 12: "the plan has more words than the buffer", with the "words needed"
  short : {fs : List (Formula Name)} {p : Plan} → SomeStand rs → AreRules rs fs → IsGiven q fs p → room < length (words_of p) → AskRow q rs room (Outcome.Refused 12 (length (words_of p)))
  given : {fs : List (Formula Name)} {p : Plan} → SomeStand rs → AreRules rs fs → IsGiven q fs p → length (words_of p) ≤ room → AskRow q rs room (Outcome.Plan (length (words_of p)))

-- the words are those of this plan, and it has as many names as the rules fs
pub record Decodes (fs : List (Formula Name)) (words : List ℕ) (p : Plan) : Type 0 where
  pub is : IsPlan p
  pub words_are : words_of p ≡ words
  pub named : p.names ≡ length (names_of fs)

-- its floor over the rules' names in their numbering
abbrev pub floor_of : {fs : List (Formula Name)} {words : List ℕ} {p : Plan} → Decodes fs words p → Floor Name
floor_of {fs} {words} {p} d = named_floor fs p d.is

-- judge, with these words
pub data JudgeRow (rs : List Text) (words : List ℕ) : Outcome → Type 0 where
  -- 11: "no rule stands"
  none : rs ≡ [] → JudgeRow rs words (Outcome.Refused 11 0)
  -- 13: "words up to here begin no plan, or end early"
  unread : {j : ℕ} → SomeStand rs → Refusal words j → JudgeRow rs words (Outcome.Refused 13 j)
  -- 14: "names differ in number", with the "plan's names"
  differ : {fs : List (Formula Name)} {p : Plan} → SomeStand rs → AreRules rs fs → IsPlan p → words_of p ≡ words → (p.names ≡ length (names_of fs) → ⊥)
      → JudgeRow rs words (Outcome.Refused 14 p.names)
  -- document 02, T-07: "judging a plan of one name or more with a point at evaluation 0 answers 0, after the refusals and ahead of any rule"
  uncovered : {fs : List (Formula Name)} {p : Plan} → SomeStand rs → AreRules rs fs → Decodes fs words p → 0 < p.names → In 0 p.points → JudgeRow rs words (Outcome.Unmet 0)
  -- "Judge answers yes": the plan's floor counts, and meets every rule
  met : {fs : List (Formula Name)} {p : Plan} → SomeStand rs → AreRules rs fs → (d : Decodes fs words p) → Counts plain (names_of fs) (floor_of d) → meets_all (floor_of d) fs ≡ true
      → JudgeRow rs words Outcome.Yes
  -- "or the lowest unmet rule, from 1"
  unmet : {fs : List (Formula Name)} {p : Plan} {k : ℕ} → SomeStand rs → AreRules rs fs → (d : Decodes fs words p) → Counts plain (names_of fs) (floor_of d) → FirstUnmet (floor_of d) 1 fs k
      → JudgeRow rs words (Outcome.Unmet k)

-- document 02, T-09: the words "are a plan of no more names than the table", and "it then meets the table"
pub record Drawn (fs : List (Formula Name)) (words : List ℕ) : Type 0 where
  pub plan : Plan
  pub is : IsPlan plan
  pub words_are : words_of plan ≡ words
  pub no_more : plan.names ≤ length (names_of fs)
  -- "with no point at evaluation 0 where the table uses a name"
  pub somewhere : 0 < length (names_of fs) → In 0 plan.points → ⊥
  -- names are matched by number, and "missing names are taken as empty": a name that the plan lacks has no point on its floor, since each
  -- evaluation is below 2^names (`missing_empty` of plan/proofs/Claims.antt)
  pub meets : meets_all (named_floor fs plan is) fs ≡ true

-- still, with these words: "Refused: 11 only."
pub data StillRow (rs : List Text) (words : List ℕ) : Outcome → Type 0 where
  none : rs ≡ [] → StillRow rs words (Outcome.Refused 11 0)
  -- "exactly if it then meets the table .. the answer is "yes, as drawn""
  drawn : {fs : List (Formula Name)} → SomeStand rs → AreRules rs fs → Drawn fs words → StillRow rs words Outcome.AsDrawn
  -- "Otherwise .. the answer is "yes" or "no"."
  yes : {fs : List (Formula Name)} → SomeStand rs → AreRules rs fs → (Drawn fs words → ⊥) → (F : Floor Name) → Counts plain (names_of fs) F → meets_all F fs ≡ true
      → StillRow rs words Outcome.Yes
  -- "It is "no" exactly when the full question would have no plan, for any lent words, damaged ones too."
  no : {fs : List (Formula Name)} → SomeStand rs → AreRules rs fs → NoFloor plain fs → StillRow rs words Outcome.No

-- print k, with a buffer of so many bytes: document 02, T-02
pub data PrintRow (rs : List Text) (k room : ℕ) : Outcome → Type 0 where
  -- "10 for a bad k", "as now": "k is 0 or above the number of rules"
  none : (k ≡ 0) ⊎ (length rs < k) → PrintRow rs k room (Outcome.Refused 10 k)
  -- "and then 12 with the bytes needed"
  short : {s : Text} {f : Formula Name} → IsKth rs k s → IsRule s f → room < length (text_of f) → PrintRow rs k room (Outcome.Refused 12 (length (text_of f)))
  -- "the answer carries the length written"
  text : {s : Text} {f : Formula Name} → IsKth rs k s → IsRule s f → length (text_of f) ≤ room → PrintRow rs k room (Outcome.Text (length (text_of f)))

-- explain, with a buffer of so many words: document 02, T-06
pub data ExplainRow (rs : List Text) (room : ℕ) : Outcome → Type 0 where
  -- "both calls start with 11"
  none : rs ≡ [] → ExplainRow rs room (Outcome.Refused 11 0)
  -- "17 in the writer, carrying 0, where a plan exists"
  plan : {fs : List (Formula Name)} → SomeStand rs → AreRules rs fs → (F : Floor Name) → Counts plain (names_of fs) F → meets_all F fs ≡ true → ExplainRow rs room (Outcome.Refused 17 0)
  -- "then 12 in the writer, with the words needed"
  short : {fs : List (Formula Name)} (t : Tree) → SomeStand rs → AreRules rs fs → IsWrittenTree fs t → room < length (treeWords t) → ExplainRow rs room (Outcome.Refused 12 (length (treeWords t)))
  -- "A new call writes a closed tree as words"
  tree : {fs : List (Formula Name)} (t : Tree) → SomeStand rs → AreRules rs fs → IsWrittenTree fs t → length (treeWords t) ≤ room → ExplainRow rs room (Outcome.Tree (length (treeWords t)))

-- check_tree, with these words
pub data CheckRow (rs : List Text) (words : List ℕ) : Outcome → Type 0 where
  none : rs ≡ [] → CheckRow rs words (Outcome.Refused 11 0)
  -- "16 in the checker with the index of the first word that .., or with the length where the words end early"
  wrong : {fs : List (Formula Name)} {j : ℕ} → SomeStand rs → AreRules rs fs → IsNoTree fs words j → CheckRow rs words (Outcome.Refused 16 j)
  -- it "accepts exactly the closed trees of these rules that split on no atom twice in a branch"
  closed : {fs : List (Formula Name)} (t : Tree) → SomeStand rs → AreRules rs fs → IsClosedTree fs t → treeWords t ≡ words → CheckRow rs words Outcome.Closed

-- clash, with so many places lent
pub data ClashRow (rs : List Text) (room : ℕ) : Outcome → Type 0 where
  none : rs ≡ [] → ClashRow rs room (Outcome.Refused 11 0)
  -- 17, as for explain: a plan exists
  plan : {fs : List (Formula Name)} → SomeStand rs → AreRules rs fs → (F : Floor Name) → Counts plain (names_of fs) F → meets_all F fs ≡ true → ClashRow rs room (Outcome.Refused 17 0)
  -- "Lent places: one a standing rule"
  short : {fs : List (Formula Name)} → SomeStand rs → AreRules rs fs → NoFloor plain fs → room < length rs → ClashRow rs room (Outcome.Refused 12 (length rs))
  -- "of a table without a plan, a set of its rules": which, the places say
  clash : {fs : List (Formula Name)} → SomeStand rs → AreRules rs fs → NoFloor plain fs → length rs ≤ room → ClashRow rs room (Outcome.Clash (length rs))
