-- Every call leaves a list that can stand: an add that is not refused found room for its text, a withdrawal leaves rules that stood, and
-- a load that is not refused is a list of such adds. Assumes nothing.
use Prim.Native.Nat.{ℕ, suc, ◌+◌, ◌-◌, ◌≤◌, ◌<◌}
use mathlib.Core.Path.{◌≡◌, refl, sym, ap, subst, ◌∙◌}
use mathlib.Core.Logic.{◌↔◌, ◌⊎◌, inl, inr, ⊎_elim}
use mathlib.Core.List.{List, [], ◌∷◌, ◌++◌, map-append, append_assoc, append-nil}
use mathlib.Core.Bool.{Bool, true, false, cond, not}
use native.Mathlib.Omega.{arith}
use lib.ListN.{length, take, drop, length-append, length-take, length-drop}
use lib.Dec.{ltb, leb}
use borrow.Author.Tests.{ltb-false, leb-false, le-ltb, lt-leb}
use Rattle.formula.specs.Formula.{Formula, Name}
use Rattle.syntax.specs.Rule.{rule_of, meaning_of}
use Rattle.syntax.specs.declared.RuleAnswer.{RuleAnswer}
use Rattle.syntax.proofs.Claims.{is_rule}
use Rattle.lists.specs.Search.{In, here}
use Rattle.lists.proofs.Search.{none_in, uncons, in_left, in_right, in_either, map_intro, map_elim, in_take, in_drop}
use Rattle.contact.specs.Numbering.{names_of}
use Rattle.names.specs.Gather.{gathered}
use Rattle.names.specs.declared.NamesAnswer.{NamesAnswer}
use Rattle.names.proofs.Claims.{rule_enough}
use Rattle.table.specs.declared.AddAnswer.{AddAnswer}
use Rattle.table.specs.declared.WithdrawAnswer.{WithdrawAnswer}
use Rattle.table.specs.declared.LoadAnswer.{LoadAnswer}
use Rattle.table.specs.Sheet.{Text, lines_of, blank_line, filled}
use Rattle.table.specs.Calls.{formulas_of, names_in, atoms_in, read_answer, names_answer, if_added, first_refusal, judge_names, judge_atoms, judge_room, judge_text, judge_add, add_rules, judge_withdraw, without, if_withdrawn, withdraw_rules, judge_lines, is_none, judge_load, if_loaded, load_rules}
use Rattle.table.specs.Rules.{CanStand}
use Rattle.contact.proofs.Claims.{atoms_fewer}
use Rattle.table.proofs.Fewer.{names_fewer}
use Rattle.table.proofs.Rules.{AllRead, can_stand, can_read, can_names, can_atoms}

-- ---- answers

abbrev pub NotAdded : AddAnswer → Type 0
NotAdded a = a ≡ AddAnswer.Added → ⊥

-- of two the second, where the answer is a refusal
pub refused_else : {A : Type 0} (a : AddAnswer) (x y : A) → NotAdded a → if_added a x y ≡ y
refused_else AddAnswer.Added x y n = absurd (n refl)
refused_else AddAnswer.TooLong x y n = refl
refused_else AddAnswer.NoToken x y n = refl
refused_else (AddAnswer.ForeignByte i) x y n = refl
refused_else (AddAnswer.LongName i) x y n = refl
refused_else (AddAnswer.Measured i) x y n = refl
refused_else (AddAnswer.GrammarAt i) x y n = refl
refused_else AddAnswer.TableFull x y n = refl
refused_else (AddAnswer.TooManyNames i) x y n = refl
refused_else AddAnswer.TooManyAtoms x y n = refl

pub not_withdrawn : {A : Type 0} (a : WithdrawAnswer) (x y : A) → (a ≡ WithdrawAnswer.Withdrawn → ⊥) → if_withdrawn a x y ≡ y
not_withdrawn WithdrawAnswer.Withdrawn x y n = absurd (n refl)
not_withdrawn (WithdrawAnswer.NoSuchRule k) x y n = refl

pub not_loaded : {A : Type 0} (a : LoadAnswer) (x y : A) → (a ≡ LoadAnswer.Loaded → ⊥) → if_loaded a x y ≡ y
not_loaded LoadAnswer.Loaded x y n = absurd (n refl)
not_loaded LoadAnswer.FileTooLong x y n = refl
not_loaded LoadAnswer.AllBlank x y n = refl
not_loaded (LoadAnswer.Line l a) x y n = refl

-- an answer is Added or not
pub added_or : (a : AddAnswer) → (a ≡ AddAnswer.Added) ⊎ NotAdded a
added_or AddAnswer.Added = inl refl
added_or AddAnswer.TooLong = inr (λ e. let z : ◌≡◌ {A = ℕ} 0 1 = cc in omega arith)
added_or AddAnswer.NoToken = inr (λ e. let z : ◌≡◌ {A = ℕ} 0 1 = cc in omega arith)
added_or (AddAnswer.ForeignByte i) = inr (λ e. let z : ◌≡◌ {A = ℕ} 0 1 = cc in omega arith)
added_or (AddAnswer.LongName i) = inr (λ e. let z : ◌≡◌ {A = ℕ} 0 1 = cc in omega arith)
added_or (AddAnswer.Measured i) = inr (λ e. let z : ◌≡◌ {A = ℕ} 0 1 = cc in omega arith)
added_or (AddAnswer.GrammarAt i) = inr (λ e. let z : ◌≡◌ {A = ℕ} 0 1 = cc in omega arith)
added_or AddAnswer.TableFull = inr (λ e. let z : ◌≡◌ {A = ℕ} 0 1 = cc in omega arith)
added_or (AddAnswer.TooManyNames i) = inr (λ e. let z : ◌≡◌ {A = ℕ} 0 1 = cc in omega arith)
added_or AddAnswer.TooManyAtoms = inr (λ e. let z : ◌≡◌ {A = ℕ} 0 1 = cc in omega arith)

both_added : (a b : AddAnswer) → first_refusal a b ≡ AddAnswer.Added → (a ≡ AddAnswer.Added) × (b ≡ AddAnswer.Added)
both_added a b e = ⊎_elim (λ f. (f, sym (ap (λ (x : AddAnswer). if_added x b a) f) ∙ e)) (λ n. absurd (n (sym (refused_else a b a n) ∙ e))) (added_or a)

passed : (t : Bool) (a b : AddAnswer) → NotAdded a → cond t a b ≡ AddAnswer.Added → (t ≡ false) × (b ≡ AddAnswer.Added)
passed true a b n e = absurd (n e)
passed false a b n e = (refl, e)

pub not_full : NotAdded AddAnswer.TableFull
not_full e = let z : ◌≡◌ {A = ℕ} 0 1 = cc in omega arith

pub not_many : NotAdded AddAnswer.TooManyAtoms
not_many e = let z : ◌≡◌ {A = ℕ} 0 1 = cc in omega arith

pub read_formula : (a : RuleAnswer) → read_answer a ≡ AddAnswer.Added → a ≡ RuleAnswer.Formula
read_formula RuleAnswer.Formula e = refl
read_formula RuleAnswer.TooLong e = absurd (let z : ◌≡◌ {A = ℕ} 0 1 = cc in omega arith)
read_formula RuleAnswer.NoToken e = absurd (let z : ◌≡◌ {A = ℕ} 0 1 = cc in omega arith)
read_formula (RuleAnswer.ForeignByte i) e = absurd (let z : ◌≡◌ {A = ℕ} 0 1 = cc in omega arith)
read_formula (RuleAnswer.LongName i) e = absurd (let z : ◌≡◌ {A = ℕ} 0 1 = cc in omega arith)
read_formula (RuleAnswer.Measured i) e = absurd (let z : ◌≡◌ {A = ℕ} 0 1 = cc in omega arith)
read_formula (RuleAnswer.GrammarAt i) e = absurd (let z : ◌≡◌ {A = ℕ} 0 1 = cc in omega arith)

pub names_enough : (a : NamesAnswer) → names_answer a ≡ AddAnswer.Added → a ≡ NamesAnswer.Enough
names_enough NamesAnswer.Enough e = refl
names_enough (NamesAnswer.TooManyNames p) e = absurd (let z : ◌≡◌ {A = ℕ} 0 1 = cc in omega arith)

-- ---- names and atoms of lists put together

pub names_last : (rs : List Text) (s : Text) → names_in (rs ++ s ∷ []) ≡ names_of (formulas_of rs ++ meaning_of s ∷ [])
unfolding names_in
names_last rs s = ap names_of (map-append meaning_of rs (s ∷ []))

-- ---- part of a list that can stand

-- the formulas of texts that are all among others are among theirs
pub formulas_among : (rs ss : List Text) → ((s : Text) → In s rs → In s ss) → (f : Formula Name) → In f (formulas_of rs) → In f (formulas_of ss)
formulas_among rs ss among f i =
    let r = map_elim meaning_of rs i in
    subst (λ (g : Formula Name). In g (formulas_of ss)) (sym r.1) (map_intro meaning_of (among r.0 r.2))

pub stand_part : (rs ss : List Text) → CanStand ss → ((s : Text) → In s rs → In s ss) → length rs ≤ length ss → CanStand rs
unfolding names_in atoms_in
stand_part rs ss h among few =
    let formulas = formulas_among rs ss among in
    can_stand rs (omega (arith, h.few)) (λ s i. can_read ss h s (among s i))
    (omega (arith, can_names ss h, names_fewer (formulas_of rs) (formulas_of ss) formulas))
    (omega (arith, can_atoms ss h, atoms_fewer (formulas_of rs) (formulas_of ss) formulas))

pub stand_none : CanStand []
unfolding names_in atoms_in
stand_none = can_stand [] (omega arith) (λ s i. none_in i) (omega arith) (omega arith)

pub stand_first : (rs ss : List Text) → CanStand (rs ++ ss) → CanStand rs
stand_first rs ss h = stand_part rs (rs ++ ss) h (λ s i. in_left ss i) (omega (arith, length-append rs ss))

stand_without : (rs : List Text) (i : ℕ) → CanStand rs → CanStand (without rs i)
unfolding without
stand_without rs i h =
    stand_part (take i rs ++ drop (suc i) rs) rs h
    (λ s k. ⊎_elim (λ a. in_take i rs a) (λ b. in_drop (suc i) rs b) (in_either (take i rs) (drop (suc i) rs) k))
    (simp (length-append, length-take, length-drop) (omega arith))

-- ---- one text more

pub record Room (rs : List Text) (s : Text) : Type 0 where
  pub read : (rule_of s).answer ≡ RuleAnswer.Formula
  pub few : length rs < 16
  pub names : (gathered s (names_in rs)).answer ≡ NamesAnswer.Enough
  pub atoms : atoms_in (rs ++ s ∷ []) ≤ 16

pub room : (rs : List Text) (s : Text) → judge_add rs s ≡ AddAnswer.Added → Room rs s
unfolding judge_add judge_text judge_room judge_names judge_atoms
room rs s e =
    let a = both_added (read_answer (rule_of s).answer) (judge_room rs s) e in
    let b = passed (leb 16 (length rs)) AddAnswer.TableFull (first_refusal (judge_names rs s) (judge_atoms rs s)) not_full a.1 in
    let d = both_added (judge_names rs s) (judge_atoms rs s) b.1 in
    let f = passed (ltb 16 (atoms_in (rs ++ s ∷ []))) AddAnswer.TooManyAtoms AddAnswer.Added not_many d.1 in
    record { read = read_formula _ a.0; few = leb-false _ _ b.0; names = names_enough _ d.0; atoms = ltb-false _ _ f.0 }

room_added : (rs : List Text) (s : Text) → Room rs s → judge_add rs s ≡ AddAnswer.Added
unfolding judge_add judge_text judge_room judge_names judge_atoms
room_added rs s h = rw (h.read, lt-leb 16 (length rs) h.few, h.names, le-ltb 16 (atoms_in (rs ++ s ∷ [])) h.atoms)

-- names are enough exactly if those with the text are at most eight
pub enough : (rs : List Text) (s : Text) → length (names_in rs) ≤ 8 → (rule_of s).answer ≡ RuleAnswer.Formula
    → ((gathered s (names_in rs)).answer ≡ NamesAnswer.Enough) ↔ (length (names_in (rs ++ s ∷ [])) ≤ 8)
unfolding names_in
enough rs s h e =
    let r = rule_enough (formulas_of rs) h s (meaning_of s) (is_rule s e) in
    (λ a. omega (arith, r.0 a, ap length (names_last rs s)), λ b. r.1 (omega (arith, ap length (names_last rs s))))

-- one text more is read
pub read_more : (rs : List Text) (s : Text) → AllRead rs → (rule_of s).answer ≡ RuleAnswer.Formula → AllRead (rs ++ s ∷ [])
read_more rs s h e t i = ⊎_elim (h t) (λ j. last (uncons j)) (in_either rs (s ∷ []) i)
  where
    last : (t ≡ s) ⊎ In t [] → (rule_of t).answer ≡ RuleAnswer.Formula
    last (inl f) = ap (λ (x : Text). (rule_of x).answer) f ∙ e
    last (inr j) = none_in j

pub stand_more : (rs : List Text) (s : Text) → CanStand rs → judge_add rs s ≡ AddAnswer.Added → CanStand (rs ++ s ∷ [])
stand_more rs s h e =
    let m = room rs s e in
    can_stand (rs ++ s ∷ []) (omega (arith, m.few, length-append rs (s ∷ []))) (read_more rs s (can_read rs h) m.read)
    ((enough rs s (can_names rs h) m.read).0 m.names) m.atoms

-- what can stand is added
pub stand_added : (rs : List Text) (s : Text) → CanStand (rs ++ s ∷ []) → judge_add rs s ≡ AddAnswer.Added
stand_added rs s h =
    let b = stand_first rs (s ∷ []) h in
    let read = can_read (rs ++ s ∷ []) h s (in_right rs here) in
    room_added rs s
    (record {
      read = read;
      few = omega (arith, h.few, length-append rs (s ∷ []));
      names = (enough rs s (can_names rs b) read).1 (can_names (rs ++ s ∷ []) h);
      atoms = can_atoms (rs ++ s ∷ []) h;
    })

-- ---- each call leaves a list that can stand

pub added_taken : (rs : List Text) (s : Text) → judge_add rs s ≡ AddAnswer.Added → add_rules rs s ≡ rs ++ s ∷ []
unfolding add_rules
added_taken rs s e = rw e

pub added_refused : (rs : List Text) (s : Text) → NotAdded (judge_add rs s) → add_rules rs s ≡ rs
unfolding add_rules
added_refused rs s n = refused_else (judge_add rs s) (rs ++ s ∷ []) rs n

pub stand_add : (rs : List Text) (s : Text) → CanStand rs → CanStand (add_rules rs s)
stand_add rs s h =
    ⊎_elim (λ e. subst CanStand (sym (added_taken rs s e)) (stand_more rs s h e)) (λ n. subst CanStand (sym (added_refused rs s n)) h)
    (added_or (judge_add rs s))

pub stand_withdraw : (rs : List Text) (k : ℕ) → CanStand rs → CanStand (withdraw_rules rs k)
unfolding withdraw_rules
stand_withdraw rs k h = go (judge_withdraw rs k)
  where
    go : (a : WithdrawAnswer) → CanStand (if_withdrawn a (without rs (k - 1)) rs)
    go WithdrawAnswer.Withdrawn = stand_without rs (k - 1) h
    go (WithdrawAnswer.NoSuchRule n) = h

-- the lines of a load that is not refused can stand after rs
lines_added : (a : AddAnswer) (n : ℕ) (l : LoadAnswer) → if_added a l (LoadAnswer.Line n a) ≡ LoadAnswer.Loaded → (a ≡ AddAnswer.Added) × (l ≡ LoadAnswer.Loaded)
lines_added a n l e =
    ⊎_elim (λ f. (f, sym (ap (λ (x : AddAnswer). if_added x l (LoadAnswer.Line n a)) f) ∙ e)) (λ m. absurd (never (sym (refused_else a l (LoadAnswer.Line n a) m) ∙ e)))
    (added_or a)
  where
    never : LoadAnswer.Line n a ≡ LoadAnswer.Loaded → ⊥
    never e = let z : ◌≡◌ {A = ℕ} 0 1 = cc in omega arith

stand_lines : (ls : List Text) (n : ℕ) (rs : List Text) → CanStand rs → judge_lines n rs ls ≡ LoadAnswer.Loaded → CanStand (rs ++ filled ls)
unfolding judge_lines filled
stand_lines [] n rs h e = rw append-nil h
stand_lines (l ∷ ls) n rs h e =
    go (stand_lines ls (n + 1) rs h) (stand_lines ls (n + 1) (rs ++ l ∷ [])) (blank_line l) e
  where
    go : (judge_lines (n + 1) rs ls ≡ LoadAnswer.Loaded → CanStand (rs ++ filled ls))
        → (CanStand (rs ++ l ∷ []) → judge_lines (n + 1) (rs ++ l ∷ []) ls ≡ LoadAnswer.Loaded → CanStand ((rs ++ l ∷ []) ++ filled ls))
        → (b : Bool)
        → cond b (judge_lines (n + 1) rs ls) (if_added (judge_add rs l) (judge_lines (n + 1) (rs ++ l ∷ []) ls) (LoadAnswer.Line n (judge_add rs l))) ≡ LoadAnswer.Loaded
        → CanStand (rs ++ cond (not b) (l ∷ filled ls) (filled ls))
    go skip more true e = skip e
    go skip more false e =
        let a = lines_added (judge_add rs l) n _ e in
        subst CanStand (append_assoc rs (l ∷ []) (filled ls)) (more (stand_more rs l h a.0) a.1)

pub stand_load : (rs : List Text) (f : Text) → CanStand rs → CanStand (load_rules rs f)
unfolding load_rules judge_load
stand_load rs f h = go (ltb 8192 (length f)) (is_none (filled (lines_of f))) (judge_lines 1 [] (lines_of f)) refl
  where
    go : (a b : Bool) (j : LoadAnswer) → judge_lines 1 [] (lines_of f) ≡ j
        → CanStand (if_loaded (cond a LoadAnswer.FileTooLong (cond b LoadAnswer.AllBlank j)) (filled (lines_of f)) rs)
    go true b j e = h
    go false true j e = h
    go false false LoadAnswer.Loaded e = stand_lines (lines_of f) 1 [] stand_none e
    go false false LoadAnswer.FileTooLong e = h
    go false false LoadAnswer.AllBlank e = h
    go false false (LoadAnswer.Line n r) e = h
