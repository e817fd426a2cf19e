-- For proofs: the contracts of functions that only our own crates call: what is known and what is compiled of a list of rules, what one rule
-- more is asked and gives, and what the compiled rules answer. Assumes nothing.
use Rattle.std.specs.Prelude.{Bool, cond, ◌≡◌, List, [], ◌∷◌, ◌++◌, map, ℕ, ◌+◌, ◌*◌, ◌≤◌, ◌<◌, leb, length, take, Option, Result, Ok, Err, MatchResult}
use Rattle.std.proofs.lemmas.List.Edits.{sets}
use Rattle.formula.specs.Formula.{Formula, Name}
use Rattle.syntax.specs.RuleText.{IsRule}
use Rattle.syntax.specs.Rule.{rule_of, meaning_of}
use Rattle.syntax.specs.declared.Rule.{Rule}
use Rattle.lists.specs.Search.{In}
use Rattle.contact.specs.Numbering.{map_form, names_of, different_atoms, atom_number, numbered_atoms, row_atoms}
use Rattle.names.specs.Gather.{arrays_of, gathered}
use Rattle.names.specs.declared.NamesAnswer.{NamesAnswer}
use Rattle.contact.specs.Question.{Question}
use Rattle.contact.specs.Check.{first_row_of}
use Rattle.kleene.specs.Code.{postfix}
use Rattle.solver.specs.Coded.{Coded}
use Rattle.solver.specs.Tree.{answer_for}
use Rattle.search.specs.Rows.{row_bits}
use Rattle.evalset.specs.declared.EvalSet.{EvalSet}
use Rattle.evalset.specs.Sets.{mem}
use Rattle.squares.specs.Square.{square_at}
use Rattle.plan.specs.declared.PlanArrays.{PlanArrays}
use Rattle.plan.specs.Words.{Plan, IsPlan}
use Rattle.plan.specs.Stored.{Stored}
use Rattle.plan.specs.Arrays.{points_plan}
use Rattle.plan.specs.Plans.{row_plan}
use Rattle.judging.specs.declared.Judged.{Judged}
use Rattle.judging.specs.Judges.{judged_plan}
use Rattle.trees.specs.declared.NotClosed.{NotClosed}
use Rattle.trees.specs.Checker.{checked_of, trees_of}
use Rattle.explaining.specs.declared.NoTree.{NoTree}
use Rattle.explaining.specs.Explained.{Explained}
use Rattle.spelling.specs.Kept.{Keeps}
use Rattle.compile.specs.Chart.{CompiledFrom}
use Rattle.ruleset.specs.declared.Known.{Known}
use Rattle.ruleset.specs.declared.NoRoom.{NoRoom}
use Rattle.ruleset.specs.declared.Grown.{Grown}
use Rattle.ruleset.specs.declared.Compiling.{Compiling}

-- "It holds at most 16 rules, 6 names and 16 atoms.", the atoms that are the same counted as one; document 02, T-08: "Names go up to 8"
pub record Fits (rules : List (Formula Name)) : Type 0 where
  pub rules_fit : length rules ≤ 16
  pub names_fit : length (names_of rules) ≤ 8
  pub atoms_fit : length (different_atoms rules) ≤ 16

-- ---- what is known of rules

-- their names, and their different atoms with numbers for names, whose symbols are kept
pub record KnownRules (rules : List (Formula Name)) (k : Known) (kept : List ℕ) : Type 0 where
  pub fits : Fits rules
  pub names_are : k.names ≡ arrays_of (names_of rules)
  pub names_counted : k.atoms.chart.names ≡ length (names_of rules)
  pub compiled : CompiledFrom k.atoms.chart (row_atoms rules)
  pub keeps : Keeps kept k.atoms.lens k.atoms.chart.contact (row_atoms rules)
  pub counted : k.count ≡ length rules

-- nothing is known, whatever the bytes are in which symbols will be kept
unfoldable pub NothingKnown : Known → Type 0
NothingKnown r = (kept : List ℕ) → length kept ≡ 2048 → KnownRules [] r kept

-- the text is the rule f, read, the rules before it are known and fewer than 16, and the code has room for a rule
pub record OneMore (text : List ℕ) (rule : Rule) (k : Known) (kept code : List ℕ) (from : ℕ) (rules : List (Formula Name)) (f : Formula Name) : Type 0 where
  pub is_rule : IsRule text f
  pub read : rule ≡ rule_of text
  pub so_far : KnownRules rules k kept
  pub few : length rules < 16
  pub fits : from + 256 ≤ length code

-- there are such rules
pub record Ready (text : List ℕ) (rule : Rule) (k : Known) (kept code : List ℕ) (from : ℕ) : Type 0 where
  pub rules : List (Formula Name)
  pub formula : Formula Name
  pub one_more : OneMore text rule k kept code from rules formula

-- refusal 7, and then 8: "at the seventeenth different atom"
abbrev pub room_for : Bool → Result Unit NoRoom
room_for enough = cond enough (Ok tt) (Err NoRoom.TooManyAtoms)

abbrev pub room_answer : NamesAnswer → ℕ → Result Unit NoRoom
room_answer NamesAnswer.Enough atoms = room_for (leb atoms 16)
room_answer (NamesAnswer.TooManyNames p) atoms = Err (NoRoom.TooManyNames p)

-- the code of the rule put last
abbrev pub code_of : List (Formula Name) → Formula Name → List ℕ
code_of rules f = postfix (map_form (atom_number (rules ++ f ∷ [])) f)

-- all rules are known then, and the code of the rule stands from there on
pub record Grows (text : List ℕ) (code : List ℕ) (from : ℕ) (rules : List (Formula Name)) (f : Formula Name) (r : Grown) (keptOut out : List ℕ) : Type 0 where
  pub known : KnownRules (rules ++ f ∷ []) r.known keptOut
  pub ends : r.end ≡ from + length (code_of rules f)
  pub wrote : out ≡ sets code from (code_of rules f)

-- whether there is room for the rule behind the rules
abbrev pub room_of : List ℕ → List (Formula Name) → Formula Name → Result Unit NoRoom
room_of text rules f = room_answer (gathered text (names_of rules)).answer (length (different_atoms (rules ++ f ∷ [])))

-- there is room for the rule, or why not; of a rule for which there is none no more is said
unfoldable pub WithRule : List ℕ → Rule → Known → List ℕ → List ℕ → ℕ → Result Grown NoRoom → List ℕ → List ℕ → Type 0
WithRule text rule k kept code from r keptOut out =
    (rules : List (Formula Name)) (f : Formula Name) → OneMore text rule k kept code from rules f
    → MatchResult r (λ g. (room_of text rules f ≡ Ok tt) × Grows text code from rules f g keptOut out) (λ e. room_of text rules f ≡ Err e)

-- ---- the compiled rules

-- the rules are known, and compiled: their code with numbers for atoms
pub record CompiledRules (rules : List (Formula Name)) (c : Compiling) (kept code : List ℕ) : Type 0 where
  pub known : KnownRules rules c.known kept
  pub coded : Coded c.known.atoms.chart.atoms code (take c.known.count c.ends) (numbered_atoms rules)

-- the texts are rules, and these are compiled
pub record CompiledTexts (texts : List (List ℕ)) (c : Compiling) (kept code : List ℕ) : Type 0 where
  pub are_rules : (s : List ℕ) → In s texts → IsRule s (meaning_of s)
  pub rules_compiled : CompiledRules (map meaning_of texts) c kept code

-- the text is the rule f, the rules before it are compiled, there is room for it, and for 256 bytes of code a rule
pub record Another (text : List ℕ) (c : Compiling) (kept code : List ℕ) (rules : List (Formula Name)) (f : Formula Name) : Type 0 where
  pub is_rule : IsRule text f
  pub so_far : CompiledRules rules c kept code
  pub room : Fits (rules ++ f ∷ [])
  pub code_fits : 256 * length (rules ++ f ∷ []) ≤ length code

pub record Compilable (text : List ℕ) (c : Compiling) (kept code : List ℕ) : Type 0 where
  pub rules : List (Formula Name)
  pub formula : Formula Name
  pub another : Another text c kept code rules formula

-- then all are compiled
unfoldable pub WithText : List ℕ → Compiling → List ℕ → List ℕ → Compiling → List ℕ → List ℕ → Type 0
WithText text c kept code r keptOut out =
    (rules : List (Formula Name)) (f : Formula Name) → Another text c kept code rules f → CompiledRules (rules ++ f ∷ []) r keptOut out

-- nothing is compiled, whatever the bytes are
unfoldable pub NothingCompiled : Compiling → Type 0
NothingCompiled r = (kept code : List ℕ) → length kept ≡ 2048 → CompiledRules [] r kept code

-- some rules are compiled
pub record Whole (c : Compiling) (code : List ℕ) : Type 0 where
  pub rules : List (Formula Name)
  pub kept : List ℕ
  pub rules_compiled : CompiledRules rules c kept code

-- ---- what the compiled rules answer

-- the answer is the number of the first row of the rules that are compiled, for the question
unfoldable pub FirstRowIs : Question → Compiling → List ℕ → Option ℕ → Type 0
FirstRowIs q c code r = (rules : List (Formula Name)) (kept : List ℕ) → CompiledRules rules c kept code → r ≡ answer_for (first_row_of q rules)

-- the plan of these points, by what the square has apart, is that of a row of the rules that are compiled
unfoldable pub RowPlanIs : Question → Compiling → ℕ → EvalSet → List ℕ → Type 0
RowPlanIs q c row r ws =
    (rules : List (Formula Name)) (kept code : List ℕ) → CompiledRules rules c kept code
    → points_plan c.known.atoms.chart.names (mem r) (square_at ws) ≡ row_plan q rules (row_bits c.known.atoms.chart.atoms row)

-- the answer is the judgement, by the rules that are compiled, of the plan that the arrays hold
unfoldable pub JudgedIs : Compiling → List ℕ → PlanArrays → Judged → Type 0
JudgedIs c code arrays r =
    (rules : List (Formula Name)) (kept : List ℕ) → CompiledRules rules c kept code → (p : Plan) (h : IsPlan p) → p.names ≡ length (names_of rules)
    → Stored arrays p → r ≡ judged_plan rules p h

-- the verdict is that of the checker on the words, against the rules that are compiled
unfoldable pub VerdictIs : Compiling → List ℕ → List ℕ → Result Unit NotClosed → Type 0
VerdictIs c code words r = (rules : List (Formula Name)) (kept : List ℕ) → CompiledRules rules c kept code → r ≡ checked_of rules words

-- the answer and the buffer are by the writer's trees of the rules that are compiled
unfoldable pub ExplainedIs : Compiling → List ℕ → List ℕ → List ℕ → Result ℕ NoTree → Type 0
ExplainedIs c code before after r = (rules : List (Formula Name)) (kept : List ℕ) → CompiledRules rules c kept code → Explained (trees_of rules) before after r
