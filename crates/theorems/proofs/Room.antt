-- A buffer that has room for what the standing rules' limits allow never gets 12; and a table came from us exactly if calls leave it. Assumes nothing.
use Prim.Native.Nat.{ℕ, ◌≤◌, ◌^◌}
use mathlib.Core.Path.{◌≡◌, subst, sym}
use mathlib.Core.Logic.{◌↔◌}
use mathlib.Core.List.{List}
use native.Mathlib.Omega.{arith}
use lib.ListN.{length}
use lib.Pow.{pow_mono}
use Rattle.formula.specs.Formula.{Formula, Name}
use Rattle.contact.specs.Question.{Question, plain, building}
use Rattle.contact.specs.Numbering.{names_of, different_atoms}
use Rattle.plan.specs.Words.{Plan, words_of}
use Rattle.plan.specs.Meant.{IsGiven}
use Rattle.plan.proofs.Claims.{given_exactly, given_words, room_words}
use Rattle.trees.specs.Trees.{Tree, words_of as treeWords}
use Rattle.trees.specs.OfRules.{IsWrittenTree}
use Rattle.trees.proofs.Claims.{written_few}
use Rattle.printing.proofs.Claims.{never_longer}
use Rattle.table.specs.declared.Table.{Table}
use Rattle.table.specs.declared.Outcome.{Outcome}
use Rattle.table.specs.Sheet.{Text}
use Rattle.table.specs.Rules.{AreRules, CanStand}
use Rattle.table.specs.Calls.{FromUs}
use Rattle.table.specs.Numbers.{ask_outcome, print_outcome, explain_outcome, clash_outcome}
use Rattle.table.specs.Rows.{AskRow, PrintRow, ExplainRow, ClashRow}
use Rattle.table.specs.Stands.{Call, Stands}
use Rattle.table.specs.Runs.{standing}
use Rattle.table.proofs.Rules.{are_one}
use Rattle.table.proofs.Claims as table
use Rattle.theorems.specs.Demands.{Leaves, words_enough, tree_enough, EnoughRoom}
use Rattle.theorems.proofs.Demands.{left, leaves_run, demand_one}

module _ (rs : List Text) (h : CanStand rs) where
  -- the rules' formulas have no more names and atoms than the limits
  few_names : (fs : List (Formula Name)) → AreRules rs fs → length (names_of fs) ≤ 8
  few_names fs are = subst (λ (gs : List (Formula Name)). length (names_of gs) ≤ 8) (are_one rs h.formulas fs h.rules are) h.names

  few_atoms : (fs : List (Formula Name)) → AreRules rs fs → length (different_atoms fs) ≤ 16
  few_atoms fs are = subst (λ (gs : List (Formula Name)). length (different_atoms gs) ≤ 16) (are_one rs h.formulas fs h.rules are) h.atoms

  -- the plan of rules that can stand has no more words
  pub plan_few : (q : Question) (fs : List (Formula Name)) → AreRules rs fs → (p : Plan) → IsGiven q fs p → length (words_of p) ≤ words_enough q
  plan_few plain fs are p g = given_words fs (few_atoms fs are) p ((given_exactly plain fs p).1 g)
  plan_few building fs are p g = room_words building fs p ((given_exactly building fs p).1 g) (few_names fs are)

  tree_few : (fs : List (Formula Name)) → AreRules rs fs → (w : Tree) → IsWrittenTree fs w → length (treeWords w) ≤ tree_enough
  tree_few fs are w is =
      let few : 2 ^ length (different_atoms fs) ≤ 2 ^ 16 = pow_mono {i = length (different_atoms fs)} {j = 16} (few_atoms fs are) in
      omega (arith, written_few fs w is, few)

  ask_fits : (q : Question) (room : ℕ) → words_enough q ≤ room → (o : Outcome) → AskRow q rs room o → (n : ℕ) → o ≡ Outcome.Refused 12 n → ⊥
  ask_fits q room l o (AskRow.none z) n e = absurd (let z : ◌≡◌ {A = ℕ} 11 12 = cc in omega arith)
  ask_fits q room l o (AskRow.without some are never) n e = absurd (let z : ◌≡◌ {A = ℕ} 0 1 = cc in omega arith)
  ask_fits q room l o (AskRow.short {fs} {p} some are g s) n e = omega (arith, l, s, plan_few q fs are p g)
  ask_fits q room l o (AskRow.given some are g s) n e = absurd (let z : ◌≡◌ {A = ℕ} 0 1 = cc in omega arith)

  explain_fits : (room : ℕ) → tree_enough ≤ room → (o : Outcome) → ExplainRow rs room o → (n : ℕ) → o ≡ Outcome.Refused 12 n → ⊥
  explain_fits room l o (ExplainRow.none z) n e = absurd (let z : ◌≡◌ {A = ℕ} 11 12 = cc in omega arith)
  explain_fits room l o (ExplainRow.plan some are F counts meets) n e = absurd (let z : ◌≡◌ {A = ℕ} 17 12 = cc in omega arith)
  explain_fits room l o (ExplainRow.short {fs} w some are is s) n e = omega (arith, l, s, tree_few fs are w is)
  explain_fits room l o (ExplainRow.tree w some are is s) n e = absurd (let z : ◌≡◌ {A = ℕ} 0 1 = cc in omega arith)

  clash_fits : (room : ℕ) → 16 ≤ room → (o : Outcome) → ClashRow rs room o → (n : ℕ) → o ≡ Outcome.Refused 12 n → ⊥
  clash_fits room l o (ClashRow.none z) n e = absurd (let z : ◌≡◌ {A = ℕ} 11 12 = cc in omega arith)
  clash_fits room l o (ClashRow.plan some are F counts meets) n e = absurd (let z : ◌≡◌ {A = ℕ} 17 12 = cc in omega arith)
  clash_fits room l o (ClashRow.short some are never s) n e = omega (arith, l, s, h.few)
  clash_fits room l o (ClashRow.clash some are never s) n e = absurd (let z : ◌≡◌ {A = ℕ} 0 1 = cc in omega arith)

print_fits : (rs : List Text) (k room : ℕ) → 256 ≤ room → (o : Outcome) → PrintRow rs k room o → (n : ℕ) → o ≡ Outcome.Refused 12 n → ⊥
print_fits rs k room l o (PrintRow.none z) n e = absurd (let z : ◌≡◌ {A = ℕ} 10 12 = cc in omega arith)
print_fits rs k room l o (PrintRow.short {s} {f} at rule x) n e = omega (arith, l, x, never_longer s f rule, rule.short)
print_fits rs k room l o (PrintRow.text at rule x) n e = absurd (let z : ◌≡◌ {A = ℕ} 0 1 = cc in omega arith)

pub enough_room : (cs : List Call) (t : Table) → Leaves cs t → EnoughRoom t
enough_room cs t l =
    let rs : List Text = standing cs in
    let stands : Stands cs rs = table.standing_stands cs in
    let can : CanStand rs = table.stands_within cs rs stands in
    let answered = demand_one cs t rs l stands in
    record {
      ask = λ q buffer r exit h room. ask_fits rs can q (length buffer) room (ask_outcome r.answer) (answered.ask q buffer r exit h).row;
      explain = λ buffer r exit h room. explain_fits rs can (length buffer) room (explain_outcome r.answer) (answered.explain buffer r exit h).row;
      print = λ k buffer r exit h room. print_fits rs k (length buffer) room (print_outcome r.answer) (answered.print k buffer r exit h).row;
      clash = λ places r exit h room. clash_fits rs can (length places) room (clash_outcome r.answer) (answered.clash places r exit h).row;
    }

pub from_us_exactly : (t : Table) → FromUs t ↔ ((cs : List Call) × Leaves cs t)
from_us_exactly t = (
  λ us. let c = (table.from_us_exactly t).0 us in (c.0, subst (Leaves c.0) (sym c.1) (leaves_run c.0)),
  λ c. (table.from_us_exactly t).1 (c.0, left c.0 t c.1),
)
