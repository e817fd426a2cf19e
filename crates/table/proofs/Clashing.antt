-- Clash meets its definition: the rules are compiled, and what is found of them is the call's answer and is in the places. Assumes nothing.
use Prim.Native.Nat.{ℕ, ◌≤◌, ◌<◌}
use mathlib.Core.Bool.{Bool, true, false, cond}
use mathlib.Core.Path.{◌≡◌, refl, sym, ap, ap₂, ◌∙◌}
use mathlib.Core.List.{List, [], ◌∷◌, ◌++◌}
use lib.Dec.{leb}
use lib.ListN.{length, drop}
use borrow.Author.Tests.{leb-true, leb-false}
use Rattle.contact.specs.Question.{plain}
use Rattle.contact.specs.Row.{Row}
use Rattle.contact.specs.Check.{first_row_of}
use Rattle.ruleset.specs.declared.Compiling.{Compiling}
use Rattle.ruleset.specs.Texts.{CompiledRules}
use Rattle.std.specs.Prelude.{Result}
use Rattle.clashing.specs.declared.NoClash.{NoClash}
use Rattle.clashing.specs.Clashing.{clash_of}
use Rattle.clashing.specs.Steps.{Clashes, ClashIs}
use Rattle.table.specs.declared.Table.{Table}
use Rattle.table.specs.declared.ClashAnswer.{ClashAnswer}
use Rattle.table.specs.declared.ClashResult.{ClashResult}
use Rattle.table.specs.Store.{rules_of}
use Rattle.table.specs.Sheet.{Text}
use Rattle.table.specs.Calls.{formulas_of, FromUs}
use Rattle.table.specs.Clashing.{rows_answer, clash_answer, rows_places, clash_places, clash_given, GivesClash, clashed_answer}
use Rattle.table.proofs.Lines.{none_stand}
use Rattle.table.proofs.Asking.{some_stand}
use Rattle.table.proofs.ClashRows.{answer_some, places_some}

abbrev pub clash_result : Table → ClashAnswer → ClashResult
clash_result t a = record { table = t; answer = a }

-- what is found, as clash's answer and places
found_so : (found : List Row) (set before after : List Bool) (r : Result ℕ NoClash) → Clashes found set before after r
    → (clashed_answer r ≡ rows_answer found (length set) (length before)) × (after ≡ rows_places found set before)
found_so (row ∷ found) set before after r h = (ap clashed_answer h.0, h.1)
found_so [] set before after r h = go (leb (length set) (length before)) refl
  where
    go : (b : Bool) → leb (length set) (length before) ≡ b
        → (clashed_answer r ≡ cond b (ClashAnswer.Clash (length set)) (ClashAnswer.ShortBuffer (length set)))
        × (after ≡ cond b (set ++ drop (length set) before) before)
    go true l = let s = h.0 (leb-true (length set) (length before) l) in (ap clashed_answer s.0, s.1)
    go false l = let s = h.1 (leb-false (length set) (length before) l) in (ap clashed_answer s.0, s.1)

module _ (t : Table) (v : FromUs t) (places : List Bool) where
  pub clashes_of : (a : ClashAnswer) (exit : List Bool) → a ≡ clash_answer (rules_of t) (length places) → exit ≡ clash_places (rules_of t) places
      → GivesClash t places (clash_result t a) exit
  unfolding clash_given
  clashes_of a exit e f = record { result = ap₂ clash_result v.same e; written = f; same = refl; from_us = v }

  pub clashes_none : t.count ≤ 0 → GivesClash t places (clash_result t ClashAnswer.NoRule) places
  unfolding clash_answer clash_places
  clashes_none h =
      let none = none_stand t v h in
      clashes_of ClashAnswer.NoRule places (sym (ap (λ (rs : List Text). clash_answer rs (length places)) none)) (sym (ap (λ (rs : List Text). clash_places rs places) none))

  -- the answer by the compiled rules
  pub clashes_by : 0 < t.count → (c : Compiling) (kept code : List ℕ) → CompiledRules (formulas_of (rules_of t)) c kept code → (r : Result ℕ NoClash) (exit : List Bool)
      → ClashIs c code places exit r → (a : ClashAnswer) → a ≡ clashed_answer r → GivesClash t places (clash_result t a) exit
  unfolding ClashIs
  clashes_by h c kept code compiled r exit says a e =
      let some = some_stand t v h in
      let fs = formulas_of (rules_of t) in
      let so = found_so (first_row_of plain fs) (clash_of fs) places exit r (says fs kept compiled) in
      clashes_of a exit (e ∙ so.0 ∙ sym (answer_some (rules_of t) some (length places))) (so.1 ∙ sym (places_some (rules_of t) some places))
