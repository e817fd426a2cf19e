-- Add and withdraw are answered by the row of the table of calls that applies first, and by no other: the judgement tests the rows in
-- their order, and each test decides what its row says. Assumes nothing.
use Prim.Native.Nat.{ℕ, ◌≤◌, ◌<◌}
use mathlib.Core.Path.{◌≡◌, refl, sym, ap, subst, subst⁻¹, ◌∙◌}
use mathlib.Core.Logic.{◌⊎◌, inl, inr, ⊎_elim}
use mathlib.Core.List.{List, [], ◌∷◌, ◌++◌}
use native.Mathlib.Omega.{arith}
use lib.ListN.{length}
use lib.Dec.{ltb, leb}
use borrow.Author.Tests.{ltb-true, ltb-false, leb-true, leb-false}
use Rattle.formula.specs.Formula.{Formula, Name}
use Rattle.formula.specs.Names.{atom_names}
use Rattle.syntax.specs.RuleText.{IsRule, Answers}
use Rattle.syntax.specs.Rule.{rule_of, meaning_of}
use Rattle.syntax.specs.declared.RuleAnswer.{RuleAnswer}
use Rattle.syntax.proofs.Claims.{text_answered, text_answered_only, is_rule}
use Rattle.lexer.specs.Token.{Token}
use Rattle.lists.specs.Search.{collect, here}
use Rattle.lists.proofs.Search.{in_right}
use Rattle.lists.proofs.Truth.{cases}
use Rattle.contact.specs.Numbering.{all_atoms, names_of}
use Rattle.names.specs.Gather.{rule_tokens, gathered}
use Rattle.names.specs.Ninth.{NinthAt, places_of}
use Rattle.names.specs.declared.NamesAnswer.{NamesAnswer}
use Rattle.names.proofs.Claims.{rule_ninth}
use Rattle.names.proofs.Tokens.{tokens_of_rule}
use Rattle.table.specs.declared.AddAnswer.{AddAnswer}
use Rattle.table.specs.declared.WithdrawAnswer.{WithdrawAnswer}
use Rattle.table.specs.Sheet.{Text}
use Rattle.table.specs.Calls.{formulas_of, names_in, atoms_in, read_answer, judge_names, judge_text, judge_add, judge_withdraw}
use Rattle.table.specs.Rules.{AreRules, CanStand}
use Rattle.table.specs.declared.Outcome.{Outcome}
use Rattle.table.specs.Numbers.{add_outcome, withdraw_outcome, rule_outcome}
use Rattle.table.specs.Rows.{AddRow, full, ninth, many, stands, WithdrawRow, none, taken}
use Rattle.table.proofs.Rules.{rule_answer, are_read, are_formulas, formulas_are, are_names, are_atoms, can_read, can_rules, can_names}
use Rattle.table.proofs.Standing.{NotAdded, read_formula, read_more, enough}
use Rattle.table.proofs.Counting.{text_is, names_are, judge_text_lem, judge_full, judge_names_lem, judge_atoms_lem, judge_added}
use Rattle.table.proofs.Results.{withdraw_zero, withdraw_high, withdraw_good}

-- ---- add

formula_or : (a : RuleAnswer) → (a ≡ RuleAnswer.Formula) ⊎ (a ≡ RuleAnswer.Formula → ⊥)
formula_or RuleAnswer.Formula = inl refl
formula_or RuleAnswer.TooLong = inr (λ e. let z : ◌≡◌ {A = ℕ} 0 1 = cc in omega arith)
formula_or RuleAnswer.NoToken = inr (λ e. let z : ◌≡◌ {A = ℕ} 0 1 = cc in omega arith)
formula_or (RuleAnswer.ForeignByte i) = inr (λ e. let z : ◌≡◌ {A = ℕ} 0 1 = cc in omega arith)
formula_or (RuleAnswer.LongName i) = inr (λ e. let z : ◌≡◌ {A = ℕ} 0 1 = cc in omega arith)
formula_or (RuleAnswer.Measured i) = inr (λ e. let z : ◌≡◌ {A = ℕ} 0 1 = cc in omega arith)
formula_or (RuleAnswer.GrammarAt i) = inr (λ e. let z : ◌≡◌ {A = ℕ} 0 1 = cc in omega arith)

not_ninth : (p : ℕ) → NotAdded (AddAnswer.TooManyNames p)
not_ninth p e = let z : ◌≡◌ {A = ℕ} 0 1 = cc in omega arith

module _ (rs : List Text) (s : Text) (h : CanStand rs) where
  abbrev Holds : AddAnswer → Type 0
  Holds a = AddRow rs s (add_outcome a)

  unread_row : (a : RuleAnswer) → Answers s a → (a ≡ RuleAnswer.Formula → ⊥) → Holds (read_answer a)
  unread_row RuleAnswer.Formula r n = absurd (n refl)
  unread_row RuleAnswer.TooLong r n = AddRow.long r
  unread_row RuleAnswer.NoToken r n = AddRow.blank r
  unread_row (RuleAnswer.ForeignByte i) r n = AddRow.foreign r
  unread_row (RuleAnswer.LongName i) r n = AddRow.name_long r
  unread_row (RuleAnswer.Measured i) r n = AddRow.measured r
  unread_row (RuleAnswer.GrammarAt i) r n = AddRow.grammar r

  -- a rule, with room for one more
  module _ (e : (rule_of s).answer ≡ RuleAnswer.Formula) (few : length rs < 16) where
    rule : IsRule s (meaning_of s)
    rule = is_rule s e

    read : judge_text s ≡ AddAnswer.Added
    read = text_is s RuleAnswer.Formula e

    ninth_row : (p : ℕ) → (gathered s (names_in rs)).answer ≡ NamesAnswer.TooManyNames p → Holds (AddAnswer.TooManyNames p)
    unfolding names_in
    ninth_row p f =
        ninth rule (can_rules rs h) few
        (subst (λ (ts : List Token). NinthAt (collect atom_names (all_atoms (formulas_of rs))) (places_of s ts) p) (tokens_of_rule s (meaning_of s) rule)
        ((rule_ninth (formulas_of rs) (can_names rs h) s (meaning_of s) rule p).0 f))

    counted : (gathered s (names_in rs)).answer ≡ NamesAnswer.Enough → Holds (judge_add rs s)
    unfolding names_in atoms_in
    counted f =
        let names = (enough rs s (can_names rs h) e).0 f in
        let are : AreRules (rs ++ s ∷ []) (formulas_of (rs ++ s ∷ [])) = formulas_are (rs ++ s ∷ []) (read_more rs s (can_read rs h) e) in
        let fine = names_are rs s NamesAnswer.Enough f in
        cases (ltb 16 (atoms_in (rs ++ s ∷ [])))
        (λ t. subst⁻¹ Holds (judge_atoms_lem rs s read few fine (ltb-true _ _ t)) (many are few names (let z : 16 < atoms_in (rs ++ s ∷ []) = ltb-true _ _ t in omega arith)))
        (λ t. subst⁻¹ Holds (judge_added rs s read few fine (ltb-false _ _ t)) (stands are few names (ltb-false _ _ t)))

    named : (a : NamesAnswer) → (gathered s (names_in rs)).answer ≡ a → Holds (judge_add rs s)
    named NamesAnswer.Enough f = counted f
    named (NamesAnswer.TooManyNames p) f =
        subst⁻¹ Holds (judge_names_lem rs s read few (AddAnswer.TooManyNames p) (names_are rs s (NamesAnswer.TooManyNames p) f) (not_ninth p)) (ninth_row p f)

  -- the answer is that of a row
  pub add_row : AddRow rs s (add_outcome (judge_add rs s))
  add_row = ⊎_elim of_rule of_other (formula_or (rule_of s).answer)
    where
      of_rule : (rule_of s).answer ≡ RuleAnswer.Formula → Holds (judge_add rs s)
      of_rule e =
          cases (leb 16 (length rs))
          (λ t. subst⁻¹ Holds (judge_full rs s (text_is s RuleAnswer.Formula e) (leb-true _ _ t)) (full (is_rule s e) (leb-true _ _ t)))
          (λ t. named e (leb-false _ _ t) (gathered s (names_in rs)).answer refl)

      of_other : ((rule_of s).answer ≡ RuleAnswer.Formula → ⊥) → Holds (judge_add rs s)
      of_other n =
          subst⁻¹ Holds (judge_text_lem rs s (read_answer (rule_of s).answer) (text_is s (rule_of s).answer refl) (λ k. n (read_formula (rule_of s).answer k)))
          (unread_row (rule_of s).answer (text_answered s) n)

  of_formula : {f : Formula Name} → IsRule s f → (rule_of s).answer ≡ RuleAnswer.Formula
  of_formula {f} r = rule_answer s f r

  -- a text that is a rule behind the others
  of_last : {fs : List (Formula Name)} → AreRules (rs ++ s ∷ []) fs → (rule_of s).answer ≡ RuleAnswer.Formula
  of_last {fs} are = are_read (rs ++ s ∷ []) fs are s (in_right rs here)

  last_names : {fs : List (Formula Name)} → AreRules (rs ++ s ∷ []) fs → length (names_of fs) ≤ 8 → judge_names rs s ≡ AddAnswer.Added
  last_names {fs} are l =
      names_are rs s NamesAnswer.Enough ((enough rs s (can_names rs h) (of_last are)).1 (omega (arith, ap length (are_names (rs ++ s ∷ []) fs are))))

  ninth_found : {f : Formula Name} (p : ℕ) (r : IsRule s f) (fs : List (Formula Name)) → AreRules rs fs → NinthAt (collect atom_names (all_atoms fs)) (places_of s r.cut_tokens) p
      → judge_names rs s ≡ AddAnswer.TooManyNames p
  unfolding names_in
  ninth_found {f = f} p r fs are x =
      names_are rs s (NamesAnswer.TooManyNames p)
      ((rule_ninth (formulas_of rs) (can_names rs h) s (meaning_of s) (is_rule s (of_formula r)) p).1
      (subst (λ (gs : List (Formula Name)). NinthAt (collect atom_names (all_atoms gs)) (places_of s (rule_tokens s)) p) (are_formulas rs fs are)
      (subst (λ (ts : List Token). NinthAt (collect atom_names (all_atoms fs)) (places_of s ts) p) (sym (tokens_of_rule s f r)) x)))

  unread_only : (a : RuleAnswer) → Answers s a → (a ≡ RuleAnswer.Formula → ⊥) → add_outcome (read_answer a) ≡ add_outcome (judge_add rs s)
  unread_only a r n =
      let f : (rule_of s).answer ≡ a = sym (text_answered_only s a r) in
      sym (ap add_outcome (judge_text_lem rs s (read_answer a) (text_is s a f) (λ k. n (read_formula a k))))

  -- and a row has no other outcome
  pub add_row_only : (o : Outcome) → AddRow rs s o → o ≡ add_outcome (judge_add rs s)
  add_row_only o (AddRow.long r) = unread_only RuleAnswer.TooLong r (λ e. let z : ◌≡◌ {A = ℕ} 0 1 = cc in omega arith)
  add_row_only o (AddRow.blank r) = unread_only RuleAnswer.NoToken r (λ e. let z : ◌≡◌ {A = ℕ} 0 1 = cc in omega arith)
  add_row_only o (AddRow.foreign {p} r) = unread_only (RuleAnswer.ForeignByte p) r (λ e. let z : ◌≡◌ {A = ℕ} 0 1 = cc in omega arith)
  add_row_only o (AddRow.name_long {p} r) = unread_only (RuleAnswer.LongName p) r (λ e. let z : ◌≡◌ {A = ℕ} 0 1 = cc in omega arith)
  add_row_only o (AddRow.measured {p} r) = unread_only (RuleAnswer.Measured p) r (λ e. let z : ◌≡◌ {A = ℕ} 0 1 = cc in omega arith)
  add_row_only o (AddRow.grammar {p} r) = unread_only (RuleAnswer.GrammarAt p) r (λ e. let z : ◌≡◌ {A = ℕ} 0 1 = cc in omega arith)
  add_row_only o (full r k) = sym (ap add_outcome (judge_full rs s (text_is s RuleAnswer.Formula (of_formula r)) k))
  add_row_only o (ninth {fs = fs} {p = p} r are few x) =
      sym
      (ap add_outcome
      (judge_names_lem rs s (text_is s RuleAnswer.Formula (of_formula r)) few (AddAnswer.TooManyNames p) (ninth_found p r fs are x) (not_ninth p)))
  add_row_only o (many {fs = fs} are few names k) =
      sym
      (ap add_outcome
      (judge_atoms_lem rs s (text_is s RuleAnswer.Formula (of_last are)) few (last_names are names) (omega (arith, are_atoms (rs ++ s ∷ []) fs are))))
  add_row_only o (stands {fs = fs} are few names k) =
      sym
      (ap add_outcome
      (judge_added rs s (text_is s RuleAnswer.Formula (of_last are)) few (last_names are names) (omega (arith, are_atoms (rs ++ s ∷ []) fs are))))

-- the reader's answers have the numbers that add gives them
read_outcome : (a : RuleAnswer) → add_outcome (read_answer a) ≡ rule_outcome a
read_outcome RuleAnswer.Formula = refl
read_outcome RuleAnswer.TooLong = refl
read_outcome RuleAnswer.NoToken = refl
read_outcome (RuleAnswer.ForeignByte i) = refl
read_outcome (RuleAnswer.LongName i) = refl
read_outcome (RuleAnswer.Measured i) = refl
read_outcome (RuleAnswer.GrammarAt i) = refl

-- a text that is refused alone is so by add, whatever rules stand
pub text_refused : (rs : List Text) (s : Text) (k p : ℕ) → rule_outcome (rule_of s).answer ≡ Outcome.Refused k p → add_outcome (judge_add rs s) ≡ Outcome.Refused k p
text_refused rs s k p e =
    let told : add_outcome (read_answer (rule_of s).answer) ≡ Outcome.Refused k p = read_outcome (rule_of s).answer ∙ e in
    ap add_outcome (judge_text_lem rs s (read_answer (rule_of s).answer) (text_is s (rule_of s).answer refl) (λ f. let z : Outcome.Done ≡ Outcome.Refused k p = sym (ap add_outcome f) ∙ told in absurd (let y : ◌≡◌ {A = ℕ} 0 1 = cc in omega arith)))
    ∙ told

-- ---- withdraw

module _ (rs : List Text) (k : ℕ) where
  abbrev WithdrawHolds : WithdrawAnswer → Type 0
  WithdrawHolds a = WithdrawRow rs k (withdraw_outcome a)

  pub withdraw_row : WithdrawRow rs k (withdraw_outcome (judge_withdraw rs k))
  withdraw_row =
      cases (leb k 0)
      (λ t. subst⁻¹ WithdrawHolds (withdraw_zero rs k (leb-true _ _ t)) (none (inl (let z : k ≤ 0 = leb-true _ _ t in omega arith))))
      (λ t. cases (ltb (length rs) k)
      (λ u. subst⁻¹ WithdrawHolds (withdraw_high rs k (leb-false _ _ t) (ltb-true _ _ u)) (none (inr (ltb-true _ _ u))))
      (λ u. subst⁻¹ WithdrawHolds (withdraw_good rs k (leb-false _ _ t) (ltb-false _ _ u)) (taken (leb-false _ _ t) (ltb-false _ _ u))))

  pub withdraw_row_only : (o : Outcome) → WithdrawRow rs k o → o ≡ withdraw_outcome (judge_withdraw rs k)
  withdraw_row_only o (none (inl e)) = sym (ap withdraw_outcome (withdraw_zero rs k (omega arith)))
  withdraw_row_only o (none (inr h)) =
      sym (ap withdraw_outcome (cases (leb k 0) (λ t. withdraw_zero rs k (leb-true _ _ t)) (λ t. withdraw_high rs k (leb-false _ _ t) h)))
  withdraw_row_only o (taken h m) = sym (ap withdraw_outcome (withdraw_good rs k h m))
