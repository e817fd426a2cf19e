-- Behind the different names of earlier texts the fold finds the different names of all, or the ninth: what is put last where it is not
-- known yet is what is different from all before it. Assumes nothing.
use mathlib.Core.Bool.{false}
use mathlib.Core.Path.{◌≡◌, sym, ap, ◌∙◌}
use mathlib.Core.Logic.{⊎_elim, ◌↔◌}
use mathlib.Core.List.{List, ◌∷◌, ◌++◌}
use mathlib.Mathlib.Data.Bool.Basic.{eq-false_of_not-eq-true}
use Prim.Native.Nat.{ℕ, ◌≤◌}
use native.Mathlib.Omega.{arith}
use lib.ListN.{length}
use Rattle.formula.specs.Formula.{Name}
use Rattle.evalset.specs.Most.{most}
use Rattle.lists.proofs.Truth.{clash}
use Rattle.contact.specs.Numbering.{distinct, same_name}
use Rattle.contact.proofs.Naming.{same_name_lem, name_alike}
use Rattle.names.specs.declared.NamesAnswer.{NamesAnswer}
use Rattle.names.specs.Gather.{Numbered, numbered, names_after}
use Rattle.contact.specs.Putting.{is_in}
use Rattle.names.specs.Ninth.{names_at, NinthAt, NameAt, name_at}
use Rattle.contact.proofs.Distinct.{distinct_append, in_distinct, distinct_in_list}
use Rattle.names.proofs.Outcome.{all_of, numbers_in, Fits, Stops, outcome, ninth_answered, stops_many}

-- the different names of earlier texts and of those at their places
abbrev different : List Name → List NameAt → List Name
different earlier xs = distinct same_name (earlier ++ names_at xs)

different_is : (earlier : List Name) (xs : List NameAt) → different earlier xs ≡ all_of (distinct same_name earlier) xs
different_is earlier xs = distinct_append same_name name_alike earlier (names_at xs)

apart : {a : NamesAnswer} {p : ℕ} → a ≡ NamesAnswer.TooManyNames p → a ≡ NamesAnswer.Enough → ⊥
apart e f = let z : ◌≡◌ {A = ℕ} 0 1 = cc in omega arith

module _ (earlier : List Name) (xs : List NameAt) where
  abbrev known : List Name
  known = distinct same_name earlier

  abbrev result : Numbered
  result = names_after known xs

  stopped : Stops known xs → (p : ℕ) × (result.answer ≡ NamesAnswer.TooManyNames p)
  stopped r = (r.place, ap (λ (n : Numbered). n.answer) r.result)

  fitted : Fits known xs → result.answer ≡ NamesAnswer.Enough
  fitted r = ap (λ (n : Numbered). n.answer) r.result

  -- the name that is answered is the ninth different one, at its first place
  ninth_from : {p : ℕ} → Stops known xs → result.answer ≡ NamesAnswer.TooManyNames p → NinthAt earlier xs p
  ninth_from {p} r e =
      let same : r.place ≡ p = (let f = (stopped r).1 in cc) in
      let eight : different earlier r.before ≡ all_of known r.before = different_is earlier r.before in
      record {
        before = r.before;
        name = r.name;
        after = r.after;
        split = r.split ∙ ap (λ (n : ℕ). r.before ++ name_at n r.name ∷ r.after) same;
        eight = ap length eight ∙ r.full;
        new = λ i. clash (ap (λ (l : List Name). is_in same_name l r.name) (sym eight) ∙ in_distinct same_name name_alike (earlier ++ names_at r.before) r.name i) r.new;
      }

  -- and the ninth different one is answered, with the names and numbers before it
  ninth_result : {p : ℕ} (h : NinthAt earlier xs p)
      → result ≡ numbered (different earlier h.before) (numbers_in (different earlier h.before) h.before) (NamesAnswer.TooManyNames p)
  ninth_result {p} h =
      let eight : different earlier h.before ≡ all_of known h.before = different_is earlier h.before in
      let new : is_in same_name (different earlier h.before) h.name ≡ false =
      eq-false_of_not-eq-true (λ k. h.new (distinct_in_list same_name same_name_lem (earlier ++ names_at h.before) h.name k)) in
      ap (names_after known) h.split
      ∙ ninth_answered known h.before p h.name h.after (sym (ap length eight) ∙ h.eight) (ap (λ (l : List Name). is_in same_name l h.name) (sym eight) ∙ new)
      ∙ ap (λ (l : List Name). numbered l (numbers_in l h.before) (NamesAnswer.TooManyNames p)) (sym eight)

  module _ (few : length known ≤ most) where
    pub places_enough : (result.answer ≡ NamesAnswer.Enough) ↔ (length (different earlier xs) ≤ most)
    places_enough = (
      λ e. ⊎_elim (λ r. omega (arith, ap length (different_is earlier xs), r.few)) (λ r. absurd (apart (stopped r).1 e)) (outcome known xs few),
      λ h. ⊎_elim fitted (λ r. absurd (omega (arith, ap length (different_is earlier xs), stops_many known xs r))) (outcome known xs few),
    )

    pub places_known : result.answer ≡ NamesAnswer.Enough → result ≡ numbered (different earlier xs) (numbers_in (different earlier xs) xs) NamesAnswer.Enough
    places_known e =
        ⊎_elim
        (λ r. r.result ∙ ap (λ (l : List Name). numbered l (numbers_in l xs) NamesAnswer.Enough) (sym (different_is earlier xs)))
        (λ r. absurd (apart (stopped r).1 e)) (outcome known xs few)

    pub places_ninth : (p : ℕ) → (result.answer ≡ NamesAnswer.TooManyNames p) ↔ NinthAt earlier xs p
    places_ninth p = (
      λ e. ⊎_elim (λ r. absurd (apart e (fitted r))) (λ r. ninth_from r e) (outcome known xs few),
      λ h. ap (λ (n : Numbered). n.answer) (ninth_result h),
    )
