-- What is kept has no floor that meets it where all rules have none: a rule that is left out leaves none behind it, by its own reason. Each rule
-- that is kept is needed: the floor that meets those before it and those kept meets what is left of them. There is one such set, the
-- computed one. Assumes nothing.
use mathlib.Core.Bool.{Bool, true, false}
use mathlib.Core.Path.{◌≡◌, refl, sym, ap, subst, ◌∙◌}
use mathlib.Core.Logic.{◌↔◌, ⊎_elim, ∥∥₁_map, ∥∥₁_elim}
use mathlib.Core.List.{List, [], ◌∷◌, ◌++◌, map-append, append_assoc}
use Prim.Native.Nat.{ℕ, zero, suc}
use lib.ListN.{length, get_or, set}
use Rattle.formula.specs.Formula.{Form, Formula, Name}
use Rattle.lists.specs.Search.{In, next}
use Rattle.lists.proofs.Search.{all_intro, all_elim, in_left, in_right, in_either}
use Rattle.lists.proofs.Truth.{clash}
use Rattle.contact.specs.Meaning.{meets}
use Rattle.contact.specs.Question.{plain, NoFloor}
use Rattle.contact.specs.Numbering.{names_of, row_atoms}
use Rattle.contact.specs.Check.{first_row}
use Rattle.clashing.specs.Clash.{chosen, NoneMeets, SomeMeets, Kept, IsClash}
use Rattle.clashing.specs.Clashing.{is_found, clash_from, clash_of}
use Rattle.clashing.proofs.Choosing.{chosen_in, chosen_map}
use Rattle.clashing.proofs.Meeting.{Among, numbered, found_some, found_none}

-- ---- fewer rules

-- a floor that meets rules meets those that are among them
fewer : (names : List Name) (part rules : List (Formula Name)) → Among part rules → SomeMeets names rules → SomeMeets names part
fewer names part rules among s = ∥∥₁_map s (λ m. (m.0, m.1, all_intro (meets m.0) part (λ f i. all_elim (meets m.0) (among f i) m.2)))

-- both cannot be
never_both : {P : Type 0} (names : List Name) (rules : List (Formula Name)) → SomeMeets names rules → NoneMeets names rules → P
never_both names rules s n = absurd (∥∥₁_elim s (λ x y. absurd x) (λ m. n m.0 m.1 m.2))

-- without one rule
without_in : (before : List (Formula Name)) (f : Formula Name) (rest : List (Formula Name)) → Among (before ++ rest) ((before ++ f ∷ []) ++ rest)
without_in before f rest g i = ⊎_elim (λ j. in_left rest (in_left (f ∷ []) j)) (λ j. in_right (before ++ f ∷ []) j) (in_either before rest i)

-- ---- what is kept

module _ (names : List Name) where
  -- where no floor meets all rules none meets those that are kept
  none_kept : (before rules : List (Formula Name)) (s : List Bool) → Kept names before rules s → NoneMeets names (before ++ rules) → NoneMeets names (before ++ chosen s rules)
  none_kept before rules s Kept.none n = n
  none_kept before rules s (Kept.needed {rules = later} {f = f} {set = t} k some) n =
      subst (NoneMeets names) (append_assoc before (f ∷ []) (chosen t later))
      (none_kept (before ++ f ∷ []) later t k (subst (NoneMeets names) (sym (append_assoc before (f ∷ []) later)) n))
  none_kept before rules s (Kept.left_out k none) n = none

  -- and without one of them some floor meets the others
  each_needed : (before rules : List (Formula Name)) (s : List Bool) → Kept names before rules s → (i : ℕ) → get_or s i false ≡ true
      → SomeMeets names (before ++ chosen (set s i false) rules)
  each_needed before rules s Kept.none i h = clash h refl
  each_needed before rules s (Kept.needed k some) zero h = some
  each_needed before rules s (Kept.needed {rules = later} {f = f} {set = t} k some) (suc i) h =
      subst (SomeMeets names) (append_assoc before (f ∷ []) (chosen (set t i false) later)) (each_needed (before ++ f ∷ []) later t k i h)
  each_needed before rules s (Kept.left_out k none) zero h = clash h refl
  each_needed before rules s (Kept.left_out {rules = later} {f = f} {set = t} k none) (suc i) h =
      fewer names (before ++ chosen (set t i false) later) ((before ++ f ∷ []) ++ chosen (set t i false) later) (without_in before f (chosen (set t i false) later))
      (each_needed (before ++ f ∷ []) later t k i h)

  -- there is one such set
  one_kept : (before rules : List (Formula Name)) (s t : List Bool) → Kept names before rules s → Kept names before rules t → s ≡ t
  one_kept before rules s t Kept.none Kept.none = refl
  one_kept before rules s t (Kept.needed {rules = later} {f = f} {set = u} k some) (Kept.needed {set = v} l other) = ap (λ (w : List Bool). true ∷ w) (one_kept (before ++ f ∷ []) later u v k l)
  one_kept before rules s t (Kept.left_out {rules = later} {f = f} {set = u} k none) (Kept.left_out {set = v} l other) = ap (λ (w : List Bool). false ∷ w) (one_kept (before ++ f ∷ []) later u v k l)
  one_kept before rules s t (Kept.needed {rules = later} {f = f} {set = u} k some) (Kept.left_out {set = v} l none) =
      never_both names (before ++ chosen u later) some
      (subst (λ (w : List Bool). NoneMeets names (before ++ chosen w later)) (sym (one_kept (before ++ f ∷ []) later u v k l)) none)
  one_kept before rules s t (Kept.left_out {rules = later} {f = f} {set = u} k none) (Kept.needed {set = v} l some) =
      never_both names (before ++ chosen u later)
      (subst (λ (w : List Bool). SomeMeets names (before ++ chosen w later)) (sym (one_kept (before ++ f ∷ []) later u v k l)) some) none

-- ---- what is computed

module _ (rules : List (Formula Name)) where
  -- of the rules behind others, where all are among the rules
  kept_from : (before later : List (Formula Name)) → Among (before ++ later) rules
      → Kept (names_of rules) before later (clash_from (length (names_of rules)) (row_atoms rules) (numbered rules before) (numbered rules later))
  unfolding clash_from
  kept_from before [] among = Kept.none
  kept_from before (f ∷ later) among =
      step (clash_from (length (names_of rules)) (row_atoms rules) (numbered rules before ++ numbered rules (f ∷ [])) (numbered rules later))
      (subst
      (λ (ns : List (Form ℕ)). Kept (names_of rules) (before ++ f ∷ []) later (clash_from (length (names_of rules)) (row_atoms rules) ns (numbered rules later)))
      (map-append _ before (f ∷ []))
      (kept_from (before ++ f ∷ []) later (λ g i. among g (subst (In g) (append_assoc before (f ∷ []) later) i))))
    where
      step : (s : List Bool) → Kept (names_of rules) (before ++ f ∷ []) later s
          → Kept (names_of rules) before (f ∷ later)
          (is_found (first_row plain (length (names_of rules)) (row_atoms rules) (numbered rules before ++ chosen s (numbered rules later))) ∷ s)
      step s k =
          let part = before ++ chosen s later in
          let within : Among part rules = λ g i. among g (⊎_elim (λ j. in_left (f ∷ later) j) (λ j. in_right before (next (chosen_in s later j))) (in_either before (chosen s later) i)) in
          subst
          (λ (ns : List (Form ℕ)). Kept (names_of rules) before (f ∷ later) (is_found (first_row plain (length (names_of rules)) (row_atoms rules) ns) ∷ s))
          (map-append _ before (chosen s later) ∙ ap (λ (ns : List (Form ℕ)). numbered rules before ++ ns) (chosen_map _ s later))
          (pick s k part within (is_found (first_row plain (length (names_of rules)) (row_atoms rules) (numbered rules part))) (found_some rules part within) (found_none rules part within))
        where
          pick : (s : List Bool) → Kept (names_of rules) (before ++ f ∷ []) later s → (part : List (Formula Name)) → Among part rules → (b : Bool) → (b ≡ true → SomeMeets (names_of rules) (before ++ chosen s later)) → (b ≡ false → NoneMeets (names_of rules) (before ++ chosen s later))
              → Kept (names_of rules) before (f ∷ later) (b ∷ s)
          pick s k part within true some none = Kept.needed k (some refl)
          pick s k part within false some none = Kept.left_out k (none refl)

  pub clash_kept : Kept (names_of rules) [] rules (clash_of rules)
  clash_kept = kept_from [] rules (λ f i. i)

  -- the computed set is the one that is meant, where no floor meets the rules
  pub clash_exactly : NoFloor plain rules → (s : List Bool) → (s ≡ clash_of rules) ↔ IsClash rules s
  clash_exactly none s = (
    λ e. record { no_plan = none; kept = subst (Kept (names_of rules) [] rules) (sym e) clash_kept },
    λ c. one_kept (names_of rules) [] rules s (clash_of rules) c.kept clash_kept,
  )

  pub clash_none_meets : (s : List Bool) → IsClash rules s → NoneMeets (names_of rules) (chosen s rules)
  clash_none_meets s c = none_kept (names_of rules) [] rules s c.kept c.no_plan

  pub clash_needed : (s : List Bool) → IsClash rules s → (i : ℕ) → get_or s i false ≡ true → SomeMeets (names_of rules) (chosen (set s i false) rules)
  clash_needed s c = each_needed (names_of rules) [] rules s c.kept
