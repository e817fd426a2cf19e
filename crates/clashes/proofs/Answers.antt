-- What clash answers for the rules that stand, as the text has it: the places have the set, and without one a plan exists. Assumes nothing.
use mathlib.Core.Bool.{Bool}
use mathlib.Core.Path.{◌≡◌, refl, sym, ap, subst, ◌∙◌}
use mathlib.Core.List.{List, [], ◌∷◌, ◌++◌, append-nil}
use Prim.Native.Nat.{ℕ, ◌-◌, ◌≤◌}
use native.Mathlib.Omega.{arith}
use lib.ListN.{length, take, drop, replicate, length-map}
use lib.Seq.{take_all}
use types.Run.{OneOf, miss}
use denote.Enum.Declared.{tag_of}
use Rattle.formula.specs.Formula.{Formula, Name}
use Rattle.lists.specs.Padded.{pad}
use Rattle.lexer.specs.Text.{bytes}
use Rattle.syntax.specs.Rule.{meaning_of}
use Rattle.contact.specs.Question.{plain, NoFloor}
use Rattle.contact.specs.Row.{Row}
use Rattle.contact.specs.Check.{first_row_of}
use Rattle.contact.proofs.Claims.{no_plan_named}
use Rattle.clashing.specs.Clashing.{clash_of}
use Rattle.clashing.proofs.Claims.{clash_exactly, clash_length}
use Rattle.table.specs.declared.Table.{Table}
use Rattle.table.specs.declared.ClashAnswer.{ClashAnswer}
use Rattle.table.specs.declared.ClashResult.{ClashResult}
use Rattle.table.specs.contracts.ClashAnswer.{the_type}
use Rattle.table.specs.declared.Outcome.{Outcome}
use Rattle.table.specs.Sheet.{Text}
use Rattle.table.specs.Store.{rules_of}
use Rattle.table.specs.Calls.{formulas_of, FromUs}
use Rattle.table.specs.Clashing.{clash_given, GivesClash}
use Rattle.table.specs.Numbers.{clash_outcome}
use Rattle.table.specs.Rows.{SomeStand, ClashRow}
use Rattle.table.proofs.Rules.{of_computed, can_rules}
use Rattle.table.proofs.ClashRows.{clash_written, had_places}
use Rattle.table.proofs.Claims.{clash_answered}
use Rattle.report.specs.Lines.{ended}
use Rattle.clashes.specs.Printed.{clash_lines}
use Rattle.clashes.specs.Output.{rows_text, rules_clash}
use Rattle.clashes.proofs.Lines.{lines_short}

-- a case that is another than the first has no set
pub told_no_clash : (a : ClashAnswer) → OneOf (1 ∷ 2 ∷ 3 ∷ []) (tag_of the_type a) → (n : ℕ) → a ≡ ClashAnswer.Clash n → ⊥
told_no_clash a h n e = miss (1 ∷ 2 ∷ 3 ∷ []) 0 tt (subst (λ (x : ClashAnswer). OneOf (1 ∷ 2 ∷ 3 ∷ []) (tag_of the_type x)) e h)

is_clash : (a : ClashAnswer) {n : ℕ} → clash_outcome a ≡ Outcome.Clash n → a ≡ ClashAnswer.Clash n
is_clash (ClashAnswer.Clash k) {n} e = let z : k ≡ n = cc in ap ClashAnswer.Clash z
is_clash ClashAnswer.NoRule e = absurd (let z : ◌≡◌ {A = ℕ} 0 1 = cc in omega arith)
is_clash ClashAnswer.HasPlan e = absurd (let z : ◌≡◌ {A = ℕ} 0 1 = cc in omega arith)
is_clash (ClashAnswer.ShortBuffer k) e = absurd (let z : ◌≡◌ {A = ℕ} 0 1 = cc in omega arith)

-- a row that is found has one text
pub found_text : (found : List Row) (text : List ℕ) → (found ≡ [] → ⊥) → ended (bytes "PLAN EXISTS") ≡ rows_text found text
found_text [] text n = absurd (n refl)
found_text (row ∷ found) text n = refl

module _ (t : Table) (v : FromUs t) (some : SomeStand (rules_of t)) (places : List Bool) (room : length places ≡ 16) (r : ClashResult) (exit : List Bool) (h : GivesClash t places r exit) where
  abbrev rs : List Text
  rs = rules_of t

  abbrev fs : List (Formula Name)
  fs = formulas_of rs

  row : ClashRow rs (length places) (clash_outcome r.answer)
  unfolding clash_given
  row =
      subst (λ (a : ClashAnswer). ClashRow rs (length places) (clash_outcome a)) (sym (ap (λ (x : ClashResult). x.answer) h.result))
      (clash_answered (length places) rs v.standing)

  -- another answer than a set: a plan exists
  pub exists_text : (ns : List ℕ) → ((n : ℕ) → r.answer ≡ ClashAnswer.Clash n → ⊥) → ended (bytes "PLAN EXISTS") ≡ rules_clash ns fs
  unfolding rules_clash
  exists_text ns other = go (clash_outcome r.answer) row refl
    where
      go : (o : Outcome) → ClashRow rs (length places) o → clash_outcome r.answer ≡ o → ended (bytes "PLAN EXISTS") ≡ rows_text (first_row_of plain fs) (clash_lines ns fs (clash_of fs))
      go o (ClashRow.none e) f = absurd (some e)
      go o (ClashRow.plan {fs = gs} also are F counts meets) f =
          found_text (first_row_of plain fs) _ (of_computed rs gs are (λ hs. first_row_of plain hs ≡ [] → ⊥) (λ e. (no_plan_named plain gs).0 e F counts meets))
      go o (ClashRow.short also are never l) f = absurd (omega (arith, l, room, v.standing.few))
      go o (ClashRow.clash also are never l) f = absurd (other (length rs) (is_clash r.answer f))

  module _ (n : ℕ) (e : r.answer ≡ ClashAnswer.Clash n) where
    had : SomeStand rs × (length rs ≤ length places) × NoFloor plain fs
    had = had_places rs (length places) (clash_outcome r.answer) row n (ap clash_outcome e)

    -- so many rules
    pub clash_count : n ≡ length rs
    clash_count = go (clash_outcome r.answer) row (ap clash_outcome e)
      where
        go : (o : Outcome) → ClashRow rs (length places) o → o ≡ Outcome.Clash n → n ≡ length rs
        go o (ClashRow.none z) f = absurd (let z : ◌≡◌ {A = ℕ} 0 1 = cc in omega arith)
        go o (ClashRow.plan also are F counts meets) f = absurd (let z : ◌≡◌ {A = ℕ} 0 1 = cc in omega arith)
        go o (ClashRow.short also are never l) f = absurd (let z : ◌≡◌ {A = ℕ} 0 1 = cc in omega arith)
        go o (ClashRow.clash also are never l) f = cc

    -- and the lines of the set
    pub set_text : (ns : List ℕ) → length ns ≡ 16 → clash_lines ns fs exit ≡ rules_clash ns fs
    unfolding rules_clash
    set_text ns long =
        let s = clash_of fs in
        let as_many : length fs ≡ length rs = length-map rs meaning_of in
        ap (clash_lines ns fs) (h.written ∙ clash_written rs places fs had.0 (can_rules rs v.standing) s ((clash_exactly fs had.2 s).0 refl) had.1)
        ∙ ap (λ (xs : List ℕ). clash_lines xs fs (s ++ drop (length s) places)) (sym (append-nil ns))
        ∙ lines_short ns [] fs s (drop (length s) places) (omega (arith, as_many, long, v.standing.few)) (omega (arith, clash_length fs))
        ∙ sym (ap (λ (found : List Row). rows_text found (clash_lines ns fs s)) ((no_plan_named plain fs).1 had.2))

-- ---- a sheet

-- the numbers in the array are those of the rules' lines
pub sheet_text : (ns : List ℕ) (gs : List (Formula Name)) → length ns ≡ length gs → length gs ≤ 16 → rules_clash (pad 16 (take 16 ns)) gs ≡ rules_clash ns gs
unfolding rules_clash pad
sheet_text ns gs e l =
    ap (rows_text (first_row_of plain gs))
    (ap (λ (xs : List ℕ). clash_lines (xs ++ replicate (16 - length xs) 0) gs (clash_of gs)) (take_all 16 ns (omega arith))
    ∙ ap (clash_lines (ns ++ replicate (16 - length ns) 0) gs) (sym (append-nil (clash_of gs)))
    ∙ lines_short ns (replicate (16 - length ns) 0) gs (clash_of gs) [] (omega arith) (omega (arith, clash_length gs)))
