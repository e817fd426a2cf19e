-- One text more is put to the texts before it: its names are gathered behind theirs, its atoms put behind their different ones, and the first
-- refusal of the table of calls that applies is the answer. Assumes nothing.
use Prim.Native.Nat.{ℕ, ◌≤◌, ◌<◌}
use mathlib.Core.Path.{◌≡◌, refl, sym, ap, subst, ◌∙◌}
use mathlib.Core.List.{List, [], ◌∷◌, ◌++◌, map-append}
use native.Mathlib.Omega.{arith}
use lib.Dec.{leb}
use lib.ListN.{length, length-map}
use borrow.Author.Tests.{leb-true, leb-false, le-ltb, lt-leb, le-leb, lt-ltb}
use Rattle.lists.proofs.Truth.{cases}
use Rattle.formula.specs.Formula.{Formula, Name}
use Rattle.syntax.specs.Rule.{rule_of, meaning_of}
use Rattle.syntax.specs.declared.RuleAnswer.{RuleAnswer}
use Rattle.syntax.specs.declared.Rule.{Rule}
use Rattle.syntax.proofs.Claims.{is_rule}
use Rattle.contact.specs.Numbering.{different_atoms}
use Rattle.names.specs.Gather.{arrays_of, gathered}
use Rattle.names.specs.declared.Gathered.{Gathered}
use Rattle.names.proofs.Claims.{rule_gathered}
use Rattle.names.specs.declared.NamesAnswer.{NamesAnswer}
use Rattle.ruleset.specs.declared.Known.{Known}
use Rattle.ruleset.specs.declared.Grown.{Grown}
use Rattle.std.specs.Prelude.{Result, Ok, Err}
use Rattle.ruleset.specs.declared.NoRoom.{NoRoom}
use Rattle.ruleset.specs.Texts.{KnownRules, OneMore, Ready, room_answer, room_of, WithRule}
use Rattle.table.specs.declared.AddAnswer.{AddAnswer}
use Rattle.table.specs.Sheet.{Text}
use Rattle.table.specs.Calls.{formulas_of, names_in, atoms_in, read_answer, names_answer, first_refusal, judge_names, judge_atoms, judge_room, judge_text, judge_add}
use Rattle.table.specs.Rules.{CanStand}
use Rattle.table.specs.Steps.{KnownTexts, Knowing, no_room, Tries}
use Rattle.table.proofs.Standing.{NotAdded, not_full, refused_else, names_last, read_formula}

-- ---- how a text is judged, step by step

module _ (rs : List Text) (s : Text) where
  pub judge_text_lem : (a : AddAnswer) → judge_text s ≡ a → NotAdded a → judge_add rs s ≡ a
  unfolding judge_add
  judge_text_lem a e n = refused_else (judge_text s) (judge_room rs s) (judge_text s) (λ f. n (sym e ∙ f)) ∙ e

  judge_room_lem : judge_text s ≡ AddAnswer.Added → judge_add rs s ≡ judge_room rs s
  unfolding judge_add
  judge_room_lem e = rw e

  pub judge_full : judge_text s ≡ AddAnswer.Added → 16 ≤ length rs → judge_add rs s ≡ AddAnswer.TableFull
  unfolding judge_room
  judge_full e h = judge_room_lem e ∙ rw (le-leb 16 (length rs) h)

  judge_counted : judge_text s ≡ AddAnswer.Added → length rs < 16 → judge_add rs s ≡ first_refusal (judge_names rs s) (judge_atoms rs s)
  unfolding judge_room
  judge_counted e h = judge_room_lem e ∙ rw (lt-leb 16 (length rs) h)

  pub judge_names_lem : judge_text s ≡ AddAnswer.Added → length rs < 16 → (a : AddAnswer) → judge_names rs s ≡ a → NotAdded a → judge_add rs s ≡ a
  judge_names_lem e h a f n = judge_counted e h ∙ refused_else (judge_names rs s) (judge_atoms rs s) (judge_names rs s) (λ g. n (sym f ∙ g)) ∙ f

  judge_named : judge_text s ≡ AddAnswer.Added → length rs < 16 → judge_names rs s ≡ AddAnswer.Added → judge_add rs s ≡ judge_atoms rs s
  judge_named e h f = judge_counted e h ∙ rw f

  pub judge_atoms_lem : judge_text s ≡ AddAnswer.Added → length rs < 16 → judge_names rs s ≡ AddAnswer.Added → 16 < atoms_in (rs ++ s ∷ []) → judge_add rs s ≡ AddAnswer.TooManyAtoms
  unfolding judge_atoms
  judge_atoms_lem e h f k = judge_named e h f ∙ rw (lt-ltb 16 (atoms_in (rs ++ s ∷ [])) k)

  pub judge_added : judge_text s ≡ AddAnswer.Added → length rs < 16 → judge_names rs s ≡ AddAnswer.Added → atoms_in (rs ++ s ∷ []) ≤ 16 → judge_add rs s ≡ AddAnswer.Added
  unfolding judge_atoms
  judge_added e h f k = judge_named e h f ∙ rw (le-ltb 16 (atoms_in (rs ++ s ∷ [])) k)

pub text_is : (s : Text) (a : RuleAnswer) → (rule_of s).answer ≡ a → judge_text s ≡ read_answer a
unfolding judge_text
text_is s a e = ap read_answer e

pub names_are : (rs : List Text) (s : Text) (a : NamesAnswer) → (gathered s (names_in rs)).answer ≡ a → judge_names rs s ≡ names_answer a
unfolding judge_names
names_are rs s a e = ap names_answer e

-- the reader's answer and the names' as the code has them
pub text_judged : (s : Text) (rule : Rule) (a : AddAnswer) → rule ≡ rule_of s → a ≡ read_answer rule.answer → judge_text s ≡ a
text_judged s rule a e f = text_is s rule.answer (sym (ap (λ (x : Rule). x.answer) e)) ∙ sym f

pub text_formula : (s : Text) → judge_text s ≡ AddAnswer.Added → (rule_of s).answer ≡ RuleAnswer.Formula
unfolding judge_text
text_formula s e = read_formula _ e

-- the names with one text more
pub names_with : (rs : List Text) (s : Text) → length (names_in rs) ≤ 8 → (rule_of s).answer ≡ RuleAnswer.Formula → (gathered s (names_in rs)).answer ≡ NamesAnswer.Enough
    → (gathered s (names_in rs)).names ≡ arrays_of (names_in (rs ++ s ∷ []))
unfolding names_in
names_with rs s h e f =
    ap (λ (g : Gathered). g.names) (rule_gathered (formulas_of rs) h s (meaning_of s) (is_rule s e) f)
    ∙ ap arrays_of (sym (names_last rs s))

-- ---- the room

-- whether there is room, as add's answer
abbrev room_add : Result Unit NoRoom → AddAnswer
room_add (Ok u) = AddAnswer.Added
room_add (Err why) = no_room why

room_refused : (why : NoRoom) → NotAdded (no_room why)
room_refused (NoRoom.TooManyNames p) e = let z : ◌≡◌ {A = ℕ} 0 1 = cc in omega arith
room_refused NoRoom.TooManyAtoms e = let z : ◌≡◌ {A = ℕ} 0 1 = cc in omega arith

-- the answer for the room is add's, of a rule where fewer than 16 stand
module _ (rs : List Text) (s : Text) (read : judge_text s ≡ AddAnswer.Added) (few : length rs < 16) where
  room_judged : (a : NamesAnswer) → (gathered s (names_in rs)).answer ≡ a → room_add (room_answer a (atoms_in (rs ++ s ∷ []))) ≡ judge_add rs s
  room_judged NamesAnswer.Enough e =
      cases (leb (atoms_in (rs ++ s ∷ [])) 16)
      (λ h. rw h (sym (judge_added rs s read few (names_are rs s NamesAnswer.Enough e) (leb-true _ _ h))))
      (λ h. rw h (sym (judge_atoms_lem rs s read few (names_are rs s NamesAnswer.Enough e) (leb-false _ _ h))))
  room_judged (NamesAnswer.TooManyNames p) e =
      sym (judge_names_lem rs s read few (AddAnswer.TooManyNames p) (names_are rs s (NamesAnswer.TooManyNames p) e) (room_refused (NoRoom.TooManyNames p)))

-- ---- a text put to what is known

formulas_with : (rs : List Text) (s : Text) → formulas_of (rs ++ s ∷ []) ≡ formulas_of rs ++ meaning_of s ∷ []
formulas_with rs s = map-append meaning_of rs (s ∷ [])

module _ (k : Known) (s : Text) (kept : List ℕ) where
  known_count : (rs : List Text) → KnownTexts rs k kept → k.count ≡ length rs
  known_count rs h = h.counted ∙ length-map rs meaning_of

  pub tries_refused : (a : AddAnswer) (out : Known) (keptOut : List ℕ) → judge_text s ≡ a → NotAdded a → Tries k s kept a out keptOut
  unfolding Tries
  tries_refused a out keptOut f n rs can h = (sym (judge_text_lem rs s a f n), λ e. absurd (n e))

  module _ (read : judge_text s ≡ AddAnswer.Added) where
    pub tries_full : (out : Known) (keptOut : List ℕ) → 16 ≤ k.count → Tries k s kept AddAnswer.TableFull out keptOut
    unfolding Tries
    tries_full out keptOut l rs can h = (sym (judge_full rs s read (omega (arith, known_count rs h))), λ e. absurd (not_full e))

    module _ (few : k.count < 16) (rule : Rule) (is : rule ≡ rule_of s) (code : List ℕ) (long : 256 ≤ length code) where
      one_more : (rs : List Text) → KnownTexts rs k kept → OneMore s rule k kept code 0 (formulas_of rs) (meaning_of s)
      one_more rs h =
          record {
            is_rule = is_rule s (text_formula s read);
            read = is;
            so_far = h;
            few = omega (arith, h.counted);
            fits = omega arith;
          }

      pub ready : Knowing k kept → Ready s rule k kept code 0
      ready h = record { rules = formulas_of h.rules; formula = meaning_of s; one_more = one_more h.rules h.known }

      -- what is judged of the room is judged of the text
      room_is : (rs : List Text) → CanStand rs → (h : KnownTexts rs k kept) → room_add (room_of s (formulas_of rs) (meaning_of s)) ≡ judge_add rs s
      unfolding names_in atoms_in
      room_is rs can h =
          ap (λ (fs : List (Formula Name)). room_add (room_answer (gathered s (names_in rs)).answer (length (different_atoms fs)))) (sym (formulas_with rs s))
          ∙ room_judged rs s read (omega (arith, known_count rs h)) (gathered s (names_in rs)).answer refl

      pub tries_grown : (g : Grown) (keptOut out : List ℕ) → WithRule s rule k kept code 0 (Ok g) keptOut out → Tries k s kept AddAnswer.Added g.known keptOut
      unfolding Tries WithRule
      tries_grown g keptOut out says rs can h =
          let w = says (formulas_of rs) (meaning_of s) (one_more rs h) in (
            ap room_add (sym w.0) ∙ room_is rs can h,
            λ q. subst (λ (fs : List (Formula Name)). KnownRules fs g.known keptOut) (sym (formulas_with rs s)) w.1.known,
          )

      pub tries_no_room : (why : NoRoom) (keptOut out : List ℕ) → WithRule s rule k kept code 0 (Err why) keptOut out → (a : AddAnswer) → a ≡ no_room why → (known : Known)
          → Tries k s kept a known keptOut
      unfolding Tries WithRule
      tries_no_room why keptOut out says a e known rs can h =
          (e ∙ ap room_add (sym (says (formulas_of rs) (meaning_of s) (one_more rs h))) ∙ room_is rs can h, λ q. absurd (room_refused why (sym e ∙ q)))

-- the answer and what is known after a text
module _ (k : Known) (rs : List Text) (can : CanStand rs) (kept : List ℕ) (h : KnownTexts rs k kept) (s : Text) (a : AddAnswer) (out : Known) (keptOut : List ℕ) (t : Tries k s kept a out keptOut) where
  pub answer_is : a ≡ judge_add rs s
  unfolding Tries
  answer_is = (t rs can h).0

  pub known_next : a ≡ AddAnswer.Added → KnownTexts (rs ++ s ∷ []) out keptOut
  unfolding Tries
  known_next e = (t rs can h).1 e
