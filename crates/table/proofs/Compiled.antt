-- The rules of a table compiled text by text: each text of a list that can stand is a rule, and there is room for it behind those
-- before it. Assumes nothing.
use Prim.Native.Nat.{ℕ, ◌+◌, ◌*◌, ◌≤◌, ◌<◌}
use mathlib.Core.Path.{sym, ap, subst}
use mathlib.Core.List.{List, [], ◌∷◌, ◌++◌, map}
use native.Mathlib.Omega.{arith}
use lib.ListN.{length, take, length-map}
use lib.Seq.{take_all, length-take-le}
use Rattle.syntax.specs.Rule.{meaning_of}
use Rattle.ruleset.specs.declared.Compiling.{Compiling}
use Rattle.ruleset.specs.Texts.{Fits, CompiledRules, CompiledTexts, Compilable, WithText}
use Rattle.ruleset.proofs.Claims.{may_add, text_added}
use Rattle.table.specs.declared.Table.{Table}
use Rattle.table.specs.Store.{rules_of}
use Rattle.table.specs.Sheet.{Text}
use Rattle.table.specs.Calls.{formulas_of, names_in, atoms_in, FromUs}
use Rattle.table.specs.Rules.{CanStand}
use Rattle.table.specs.Steps.{TextsCompiled}
use Rattle.table.proofs.Rules.{can_names, can_atoms}
use Rattle.syntax.proofs.Claims.{is_rule}
use Rattle.table.proofs.Lines.{count_is}
use Rattle.table.proofs.Recount.{text, first, stands, text_read}

-- rules that can stand can be compiled
stand_fits : (rs : List Text) → CanStand rs → Fits (map meaning_of rs)
unfolding names_in atoms_in
stand_fits rs h = record { rules_fit = omega (arith, length-map rs meaning_of, h.few); names_fit = can_names rs h; atoms_fit = can_atoms rs h }

-- the first i texts are compiled
abbrev pub Reached : Table → Compiling → List ℕ → List ℕ → ℕ → Type 0
Reached t c kept code i = CompiledTexts (take i (rules_of t)) c kept code

-- as many as stand, which are all
pub reached_all : (t : Table) (c : Compiling) (code : List ℕ) → FromUs t → (p : TextsCompiled (take t.count (rules_of t)) c code) → CompiledRules (formulas_of (rules_of t)) c p.kept code
reached_all t c code v p =
    subst (λ (rs : List Text). CompiledRules (formulas_of rs) c p.kept code) (take_all t.count (rules_of t) (omega (arith, count_is t v))) p.compiled.rules_compiled

-- the i-th text
module _ {t : Table} {i : ℕ} (v : FromUs t) (h : i < t.count) (c : Compiling) (kept code : List ℕ) (p : Reached t c kept code i) (long : 256 * (i + 1) ≤ length code) where
  fits : 256 * length (take i (rules_of t) ++ text v h ∷ []) ≤ length code
  fits = omega (arith, ap length (sym (first v h)), length-take-le (i + 1) (rules_of t) (omega (arith, count_is t v)))

  room : Fits (map meaning_of (take i (rules_of t) ++ text v h ∷ []))
  room = stand_fits (take i (rules_of t) ++ text v h ∷ []) (stands v h)

  pub reached_ready : Compilable (text v h) c kept code
  reached_ready = may_add (take i (rules_of t)) (text v h) c kept code p (is_rule (text v h) (text_read v h)) fits room

  pub reached_next : (r : Compiling) (keptOut out : List ℕ) → WithText (text v h) c kept code r keptOut out → Reached t r keptOut out (i + 1)
  reached_next r keptOut out says =
      subst (λ (rs : List Text). CompiledTexts rs r keptOut out) (sym (first v h))
      (text_added (take i (rules_of t)) (text v h) c kept code p (is_rule (text v h) (text_read v h)) fits room r keptOut out says)
