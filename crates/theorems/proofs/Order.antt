-- Document 02, T-10. An empty table accepts all of a list exactly if its texts can stand together, which no order changes; and ask then says
-- "no plan" exactly where no floor that counts meets the rules, which no order changes either. A sheet is loaded exactly if its lines that
-- are not blank can stand together. Assumes nothing.
use Prim.Native.Nat.{ℕ, ◌≤◌}
use mathlib.Core.Path.{◌≡◌, refl, sym, ap, subst, ◌∙◌}
use mathlib.Core.List.{List, [], ◌∷◌, ◌++◌, append_assoc, append-nil, cons≢nil}
use native.Mathlib.Omega.{arith}
use lib.ListN.{length}
use Rattle.formula.specs.Formula.{Formula, Name}
use Rattle.formula.specs.Same.{name_discrete}
use Rattle.lists.specs.Search.{In, here}
use Rattle.lists.specs.Often.{EquallyOften}
use Rattle.lists.proofs.Search.{none_in}
use Rattle.lists.proofs.Often.{often_in, often_back}
use Rattle.contact.specs.Question.{Question, NoFloor}
use Rattle.plan.specs.Words.{Plan}
use Rattle.plan.specs.Meant.{IsGiven}
use Rattle.plan.proofs.Claims.{no_plan_given, given_exactly}
use Rattle.table.specs.declared.Table.{Table}
use Rattle.table.specs.declared.Outcome.{Outcome}
use Rattle.table.specs.declared.LoadResult.{LoadResult}
use Rattle.table.specs.Store.{table_of, rules_of}
use Rattle.table.specs.Sheet.{Text, lines_of, filled}
use Rattle.table.specs.Rules.{CanStand}
use Rattle.table.specs.Calls.{formulas_of, judge_add, added, loaded, Loads}
use Rattle.table.specs.Numbers.{load_outcome, ask_outcome}
use Rattle.table.specs.Rows.{LoadRow, SomeStand, AskRow}
use Rattle.table.specs.Stands.{Call, adds, StandsAfter, StandsFrom, Stands}
use Rattle.table.specs.Runs.{run}
use Rattle.table.proofs.Results.{adds_of, loads_of}
use Rattle.table.proofs.Rules.{of_computed}
use Rattle.table.proofs.Stands.{done_added}
use Rattle.table.proofs.Standing.{stand_none, stand_more}
use Rattle.table.proofs.Claims as table
use Rattle.theorems.specs.Demands.{Called, Exactly, words_enough}
use Rattle.theorems.specs.Order.{SameRules, AcceptsAll, LongEnough, BothSay, AnswersAlike, InAnyOrder, SameLines, LoadsAll, LinesInAnyOrder}
use Rattle.theorems.proofs.Demands.{leaves_run, taken, demand_one}
use Rattle.theorems.proofs.Room.{plan_few}

-- ---- what the empty table accepts

-- the add after texts that can stand is taken, so that they can stand with it
accepted_next : (before : List Text) (s : Text) (later : List Text) → AcceptsAll (before ++ s ∷ later) → CanStand before → CanStand (before ++ s ∷ [])
unfolding added
accepted_next before s later all h =
    let t : Table = run (adds before) in
    let held : rules_of t ≡ before = (table.same_table (adds before)).holds ∙ table.adds_stand before h in
    let done = all before s later refl t (leaves_run (adds before)) (added (rules_of t) s) (adds_of t s (added (rules_of t) s) (table.same_table (adds before)).from_us refl) in
    stand_more before s h (ap (λ (rs : List Text). judge_add rs s) (sym held) ∙ done_added (judge_add (rules_of t) s) done)

accepted_stand : (before later : List Text) → AcceptsAll (before ++ later) → CanStand before → CanStand (before ++ later)
accepted_stand before [] all h = subst CanStand (sym (append-nil before)) h
accepted_stand before (s ∷ later) all h =
    let e : (before ++ s ∷ []) ++ later ≡ before ++ s ∷ later = append_assoc before (s ∷ []) later in
    subst CanStand e (accepted_stand (before ++ s ∷ []) later (subst AcceptsAll (sym e) all) (accepted_next before s later all h))

accepts_stand : (rs : List Text) → AcceptsAll rs → CanStand rs
accepts_stand rs all = accepted_stand [] rs all stand_none

stand_accepts : (rs : List Text) → CanStand rs → AcceptsAll rs
stand_accepts rs h before s later e = taken (adds rs) before s later (table.adds_stand rs h ∙ e)

adds_stands : (rs : List Text) → CanStand rs → Stands (adds rs) rs
adds_stands rs h = subst (Stands (adds rs)) (table.adds_stand rs h) (table.standing_stands (adds rs))

-- ---- what ask says then

-- a plan, where some floor that counts meets the rules, or no plan, where none does
pub data Says (q : Question) (rs : List Text) : Outcome → Type 0 where
  plan : {n : ℕ} → (NoFloor q (formulas_of rs) → ⊥) → Says q rs (Outcome.Plan n)
  no_plan : NoFloor q (formulas_of rs) → Says q rs Outcome.NoPlan

given_floor : (q : Question) (fs : List (Formula Name)) (p : Plan) → IsGiven q fs p → NoFloor q fs → ⊥
given_floor q fs p g never = cons≢nil (sym ((given_exactly q fs p).1 g) ∙ (no_plan_given q fs).1 never)

row_says : (q : Question) (rs : List Text) (buffer : List ℕ) → SomeStand rs → LongEnough q rs buffer → (o : Outcome) → AskRow q rs (length buffer) o → Says q rs o
row_says q rs buffer some long o (AskRow.none z) = absurd (some z)
row_says q rs buffer some long o (AskRow.without {fs} also are never) = Says.no_plan (of_computed rs fs are (NoFloor q) never)
row_says q rs buffer some long o (AskRow.short {fs} {p} also are g l) = absurd (omega (arith, long fs are p g, l))
row_says q rs buffer some long o (AskRow.given {fs} {p} also are g l) =
    Says.plan (of_computed rs fs are (λ gs. NoFloor q gs → ⊥) (given_floor q fs p g))

both_say : (q : Question) (rs ss : List Text) → EquallyOften rs ss → (o p : Outcome) → Says q rs o → Says q ss p → BothSay o p
both_say q rs ss often o p (Says.plan some) (Says.plan more) = BothSay.plan
both_say q rs ss often o p (Says.plan some) (Says.no_plan none) = absurd (some ((table.no_floor_order rs ss often q).1 none))
both_say q rs ss often o p (Says.no_plan none) (Says.plan some) = absurd (some ((table.no_floor_order rs ss often q).0 none))
both_say q rs ss often o p (Says.no_plan none) (Says.no_plan never) = BothSay.no_plan

-- the plan of rules that can stand has no more words
stand_enough : (q : Question) (rs : List Text) → CanStand rs → (buffer : List ℕ) → words_enough q ≤ length buffer → LongEnough q rs buffer
stand_enough q rs h buffer l fs are p g = omega (arith, plan_few rs h q fs are p g)

-- a list of the same rules has a rule
some_too : (rs ss : List Text) → EquallyOften rs ss → SomeStand rs → SomeStand ss
some_too [] ss often some e = some refl
some_too (r ∷ rs) ss often some e = none_in (subst (In r) e (often_in name_discrete (r ∷ rs) ss often r here))

-- whatever calls leave them standing
alike : (rs ss : List Text) → EquallyOften rs ss → SomeStand rs → (cs ds : List Call) → Stands cs rs → Stands ds ss → AnswersAlike rs ss cs ds
alike rs ss often some cs ds stands also =
    record {
      said = λ q t u l m lent other long wide x exit a y words b.
          both_say q rs ss often (ask_outcome x.answer) (ask_outcome y.answer)
          (row_says q rs lent some long _ ((demand_one cs t rs l stands).ask q lent x exit a).row)
          (row_says q ss other (some_too rs ss often some) wide _ ((demand_one ds u ss m also).ask q other y words b).row);
      enough = λ q buffer l. (stand_enough q rs (table.stands_within cs rs stands) buffer l, stand_enough q ss (table.stands_within ds ss also) buffer l);
    }

-- ---- the claim

pub in_any_order : (rs ss : List Text) → SameRules rs ss → InAnyOrder rs ss
in_any_order rs ss same =
    let order = table.stand_order rs ss same.often in
    record {
      accepted = (λ all. stand_accepts ss (order.0 (accepts_stand rs all)), λ all. stand_accepts rs (order.1 (accepts_stand ss all)));
      answered = λ all.
          let h = accepts_stand rs all in
          alike rs ss same.often same.some (adds rs) (adds ss) (adds_stands rs h) (adds_stands ss (order.0 h));
    }

-- ---- sheets

-- load on the empty table has the outcome of its row
load_row : (f : Text) (r : LoadResult) → Loads (table_of []) f r → Exactly (LoadRow f) (load_outcome r.answer)
load_row f = (demand_one [] (table_of []) [] Called.none StandsFrom.none).load f

done_row : (f : Text) → LoadsAll f → LoadRow f Outcome.Done
done_row f all =
    let r : LoadResult = loaded (rules_of (table_of [])) f in
    let h : Loads (table_of []) f r = loads_of (table_of []) f r (table.may_stand [] stand_none) refl in
    subst (LoadRow f) (all r h) (load_row f r h).row

-- a sheet that is loaded is not too long
done_within : (f : Text) (o : Outcome) → LoadRow f o → o ≡ Outcome.Done → length f ≤ 8192
done_within f o (LoadRow.long l) e = absurd (let z : ◌≡◌ {A = ℕ} 0 1 = cc in omega arith)
done_within f o (LoadRow.blank l z) e = l
done_within f o (LoadRow.line l r) e = l
done_within f o (LoadRow.loads l n h) e = l

lines_stand : (f : Text) → LoadsAll f → Stands (Call.load f ∷ []) (filled (lines_of f))
lines_stand f all = StandsFrom.next (StandsAfter.loaded (done_row f all)) StandsFrom.none

lines_loaded : (f g : Text) → EquallyOften (filled (lines_of f)) (filled (lines_of g)) → SomeStand (filled (lines_of f)) → (length f ≤ 8192 → length g ≤ 8192) → LoadsAll f → LoadsAll g
lines_loaded f g often some within all r h =
    let rs : List Text = filled (lines_of f) in
    let ss : List Text = filled (lines_of g) in
    let stands : CanStand ss = (table.stand_order rs ss often).0 (table.stands_within (Call.load f ∷ []) rs (lines_stand f all)) in
    sym ((load_row g r h).only Outcome.Done (LoadRow.loads (within (done_within f Outcome.Done (done_row f all) refl)) (some_too rs ss often some) stands))

pub lines_in_any_order : (f g : Text) → SameLines f g → LinesInAnyOrder f g
lines_in_any_order f g same =
    let rs : List Text = filled (lines_of f) in
    let ss : List Text = filled (lines_of g) in
    let often = same.lines.often in
    let some = same.lines.some in
    let over = lines_loaded f g often some same.within.0 in
    record {
      loaded = (over, lines_loaded g f (often_back rs ss often) (some_too rs ss often some) same.within.1);
      answered = λ all. alike rs ss often some (Call.load f ∷ []) (Call.load g ∷ []) (lines_stand f all) (lines_stand g (over all));
    }
