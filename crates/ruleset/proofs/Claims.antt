-- What is proved of texts compiled one after another, for whoever builds on it: compiled texts are what the search, the plan of a row and
-- judging ask for, since their chart, code and names are those of the numbered rules; the answers are the first row of these rules, the
-- plan of a row and the judgement of the rules as read. Assumes nothing.
use mathlib.Core.Path.{◌≡◌, sym, ap, subst, ◌∙◌}
use mathlib.Core.Logic.{⊎_elim}
use mathlib.Core.List.{List, [], ◌∷◌, ◌++◌, map, map-append}
use Prim.Native.Nat.{ℕ, ◌+◌, ◌*◌, ◌≤◌, ◌<◌}
use native.Mathlib.Omega.{arith}
use lib.ListN.{length, take, length-map}
use lib.Seq.{length-take-le}
use Rattle.formula.specs.Formula.{Formula, Name}
use Rattle.syntax.specs.RuleText.{IsRule}
use Rattle.syntax.specs.Rule.{meaning_of}
use Rattle.lists.proofs.Search.{in_either, uncons, none_in}
use Rattle.contact.specs.Numbering.{names_of, map_atom, different_atoms, numbered_atoms, row_atoms, number_of, AtomsBelow}
use Rattle.contact.specs.Question.{Question, plain}
use Rattle.contact.specs.Check.{points_for, first_row, first_row_of}
use Rattle.solver.specs.Tree.{ComesFrom, Runnable, answer_for, FirstRowSays}
use Rattle.solver.proofs.Claims.{runnable, answer_is, answer_found, answer_none}
use Rattle.search.specs.declared.Chart.{Chart}
use Rattle.search.specs.Rows.{row_bits}
use Rattle.search.specs.Compiled.{limit}
use Rattle.search.specs.Planned.{marks_in, PlanSays}
use Rattle.search.proofs.Claims.{planned_is}
use Rattle.plan.specs.declared.PlanArrays.{PlanArrays}
use Rattle.plan.specs.Words.{Plan, IsPlan}
use Rattle.evalset.specs.declared.EvalSet.{EvalSet}
use Rattle.evalset.specs.Sets.{mem}
use Rattle.evalset.specs.Most.{most}
use Rattle.squares.specs.Square.{square_at}
use Rattle.plan.specs.Arrays.{points_plan}
use Rattle.plan.specs.Stored.{Stored}
use Rattle.plan.specs.Given.{given_plan}
use Rattle.plan.specs.Plans.{row_plan, plans_of}
use Rattle.judging.specs.declared.Judged.{Judged}
use Rattle.judging.specs.Judges.{judged_plan, JudgesSay}
use Rattle.judging.proofs.Claims as judging
use Rattle.trees.specs.declared.NotClosed.{NotClosed}
use Rattle.trees.specs.Branch.{CheckSays}
use Rattle.trees.specs.Trees.{Tree}
use Rattle.trees.specs.Checker.{checked, write, no_floor, checked_of, trees_of}
use Rattle.explaining.specs.declared.NoTree.{NoTree}
use Rattle.explaining.specs.Explained.{Explained, ExplainSays}
use Rattle.contact.proofs.Claims.{numbered_below}
use Rattle.compile.proofs.Searched.{compiled_search}
use Rattle.kleene.specs.Code.{atom_sign}
use Rattle.std.specs.Prelude.{Option, Some, None, Result}
use Rattle.ruleset.specs.declared.AtomPlace.{AtomPlace}
use Rattle.ruleset.specs.declared.Compiling.{Compiling}
use Rattle.ruleset.specs.Texts.{Fits, CompiledRules, CompiledTexts, Another, Compilable, WithText, NothingCompiled, FirstRowIs, JudgedIs}
use Rattle.ruleset.specs.Places.{Writing, place_from}
use Rattle.ruleset.proofs.Writings.{first_writing}
use Rattle.ruleset.proofs.Planning.{plan_is_given}

-- ---- for a caller of `with_text`: the texts

-- no text at first
pub no_texts : (c : Compiling) (kept code : List ℕ) → NothingCompiled c → length kept ≡ 2048 → CompiledTexts [] c kept code
unfolding NothingCompiled
no_texts c kept code n w = record { are_rules = λ s i. none_in i; rules_compiled = n kept code w }

module _ (texts : List (List ℕ)) (s : List ℕ) (c : Compiling) (kept code : List ℕ) (so_far : CompiledTexts texts c kept code) (rule : IsRule s (meaning_of s))
    (fits : 256 * length (texts ++ s ∷ []) ≤ length code) where
  meanings : map meaning_of (texts ++ s ∷ []) ≡ map meaning_of texts ++ meaning_of s ∷ []
  meanings = map-append meaning_of texts (s ∷ [])

  another : Fits (map meaning_of (texts ++ s ∷ [])) → Another s c kept code (map meaning_of texts) (meaning_of s)
  another room = record { is_rule = rule; so_far = so_far.rules_compiled; room = subst Fits meanings room; code_fits = omega (arith, fits, ap length meanings, length-map (texts ++ s ∷ []) meaning_of) }

  -- a text that is a rule may be put last, if there is room for it
  pub may_add : Fits (map meaning_of (texts ++ s ∷ [])) → Compilable s c kept code
  may_add room = record { rules = map meaning_of texts; formula = meaning_of s; another = another room }

  -- then it is compiled too
  pub text_added : Fits (map meaning_of (texts ++ s ∷ [])) → (r : Compiling) (keptOut out : List ℕ) → WithText s c kept code r keptOut out → CompiledTexts (texts ++ s ∷ []) r keptOut out
  unfolding WithText
  text_added room r keptOut out says =
      record {
        are_rules = λ t i. ⊎_elim (so_far.are_rules t) (λ j. ⊎_elim (λ e. subst (λ (u : List ℕ). IsRule u (meaning_of u)) (sym e) rule) (λ k. none_in k) (uncons j)) (in_either texts (s ∷ []) i);
        rules_compiled = subst (λ (fs : List (Formula Name)). CompiledRules fs r keptOut out) (sym meanings) (says (map meaning_of texts) (meaning_of s) (another room));
      }

-- ---- for a caller of the search

module _ (rules : List (Formula Name)) (c : Compiling) (kept code : List ℕ) (h : CompiledRules rules c kept code) where
  abbrev chart : Chart
  chart = c.known.atoms.chart

  abbrev ends : List ℕ
  ends = take c.known.count c.ends

  -- the chart and the code come from the numbered rules
  pub comes_from : ComesFrom code ends chart (row_atoms rules) (numbered_atoms rules)
  comes_from =
      record {
        compiled = compiled_search chart (row_atoms rules) (omega (arith, h.known.names_counted, h.known.fits.names_fit)) h.known.compiled;
        coded = h.coded;
      }

  -- so `first_row` and `judge_plan` may be called with them
  pub may_run : Runnable code ends chart
  may_run = runnable comes_from (omega (arith, h.known.compiled.counted, h.known.compiled.few))

  -- and the ends of the rules have their places in the array
  pub ends_fit : length c.ends ≡ 16 → c.known.count ≤ length c.ends
  ends_fit long = omega (arith, h.known.counted, h.known.fits.rules_fit)

  -- the sign of an atom stands in a part of the code, and its first place is where the atom is written first
  pub answer_writing : (i : ℕ) → i < chart.atoms → (s : ℕ) → s ≡ 7 + i → (r : Option AtomPlace) → r ≡ place_from s code 0 0 ends → (p : AtomPlace) × (r ≡ Some p) × Writing rules i p
  answer_writing i l s e r says =
      let sign : s ≡ atom_sign i = omega (arith, e) in
      let few : i < length (different_atoms rules) = omega (arith, l, h.known.compiled.counted, length-map (different_atoms rules) (map_atom (number_of rules))) in
      let found = first_writing rules chart.atoms code ends h.coded i few in
      (found.0, says ∙ ap (λ (n : ℕ). place_from n code 0 0 ends) sign ∙ found.1, found.2)

  -- the answer of `first_row` is the number of the first row of the numbered rules
  pub answer_first_row : (q : Question) (r : Option ℕ) → FirstRowSays q code ends chart r
      → r ≡ answer_for (first_row_of q rules)
  answer_first_row q r says =
      answer_is q code ends chart r says (row_atoms rules) (numbered_atoms rules) comes_from
      ∙ ap (λ (n : ℕ). answer_for (first_row q n (row_atoms rules) (numbered_atoms rules))) h.known.names_counted

  -- where `row_of` finds none, no plan is given
  pub none_given : (q : Question) (r : Option ℕ) → FirstRowIs q c code r → r ≡ None → plans_of q rules ≡ []
  unfolding FirstRowIs plans_of
  none_given q r says e =
      ap (map (row_plan q rules))
      (answer_none q (length (names_of rules)) (row_atoms rules) (numbered_atoms rules) (sym (says rules kept h) ∙ e))

  -- ---- for a caller of the plan of a row

  -- the chart has at most 8 names and 16 atoms, so `points_of` may be called with it and a square that has room for them
  pub may_plan : (chart.names ≤ most) × (chart.atoms ≤ limit)
  may_plan = (omega (arith, h.known.names_counted, h.known.fits.names_fit), omega (arith, h.known.compiled.counted, h.known.compiled.few))

  -- what search's `points_of` finds is the plan of the row (Planning)
  pub answer_row_plan : (q : Question) (row : ℕ) (r : EvalSet) (ws : List ℕ) → PlanSays q chart row r ws
      → points_plan chart.names (mem r) (square_at ws) ≡ row_plan q rules (row_bits chart.atoms row)
  unfolding row_plan
  answer_row_plan q row r ws says =
      let atoms = row_atoms rules in
      plan_is_given q chart.names (marks_in chart atoms row) r ws (planned_is chart atoms comes_from.compiled q r ws row says)
      ∙ ap (λ (n : ℕ). given_plan n (marks_in chart atoms row) (points_for q n (marks_in chart atoms row))) h.known.names_counted

  -- where `row_of` finds a row, its plan is given, and no other
  pub plan_given : (q : Question) (r : Option ℕ) (row : ℕ) → FirstRowIs q c code r → r ≡ Some row
      → plans_of q rules ≡ row_plan q rules (row_bits chart.atoms row) ∷ []
  unfolding FirstRowIs plans_of
  plan_given q r row says e =
      ap (map (row_plan q rules))
      (answer_found q (length (names_of rules)) (row_atoms rules) (numbered_atoms rules) chart.atoms row h.known.compiled.counted
      (sym (says rules kept h) ∙ e))

  -- ---- for a caller of the judgement

  module _ (arrays : PlanArrays) (r : Judged) (p : Plan) (is : IsPlan p) (named : p.names ≡ length (names_of rules)) (stored : Stored arrays p) where
    -- what `judge_plan` answers is the judgement of the rules as read
    pub answer_judged : JudgesSay arrays chart code ends r → r ≡ judged_plan rules p is
    answer_judged says =
        judging.answer_is arrays chart code ends r says rules comes_from p is (named ∙ sym h.known.names_counted) stored

    -- and so is the answer of `judged`
    pub judged_is : JudgedIs c code arrays r → r ≡ judged_plan rules p is
    unfolding JudgedIs
    judged_is says = says rules kept h p is named stored

  -- ---- for a caller of the checker of trees

  -- the test of kind 7 by numbers for names, and how many atoms there are
  as_many : length (row_atoms rules) ≡ length (different_atoms rules)
  as_many = length-map (different_atoms rules) (map_atom (number_of rules))

  -- what `check_tree` answers is the verdict by the rules as read
  pub answer_verdict : (words : List ℕ) (r : Result Unit NotClosed) → CheckSays words code ends chart r → r ≡ checked_of rules words
  unfolding CheckSays checked_of
  answer_verdict words r says =
      says (row_atoms rules) (numbered_atoms rules) comes_from
      ∙ ap (λ (n : ℕ). checked n (numbered_atoms rules) (no_floor plain chart.names (row_atoms rules)) words) as_many
      ∙ ap (λ (n : ℕ). checked (length (different_atoms rules)) (numbered_atoms rules) (no_floor plain n (row_atoms rules)) words) h.known.names_counted

  -- ---- for a caller of the writer of trees

  -- the rules are few enough to have their numbers in words
  pub few_ends : length c.ends ≡ 16 → length ends ≤ limit
  few_ends long = omega (arith, length-take-le c.known.count c.ends (ends_fit long), ends_fit long, long)

  -- what `explain` answers is by the writer's trees of the rules as read
  pub answer_explained : (before after : List ℕ) (r : Result ℕ NoTree) → ExplainSays code ends chart before after r → Explained (trees_of rules) before after r
  unfolding ExplainSays trees_of
  answer_explained before after r says =
      subst (λ (ts : List Tree). Explained ts before after r)
      (ap (λ (n : ℕ). write (numbered_atoms rules) (no_floor plain chart.names (row_atoms rules)) n []) as_many
      ∙ ap (λ (n : ℕ). write (numbered_atoms rules) (no_floor plain n (row_atoms rules)) (length (different_atoms rules)) []) h.known.names_counted)
      (says (row_atoms rules) (numbered_atoms rules) comes_from (subst (λ (n : ℕ). AtomsBelow n (row_atoms rules)) (sym h.known.names_counted) (numbered_below rules)))
