-- Of some of the rules, numbered as all of them are, a row is found exactly where a floor that counts for all the rules meets them: the atoms
-- of all rules have the values of such a floor, and the numbered rules say of these values what the rules say of the floor. Of no rules
-- a row is found: the floor of one point that lies in every name counts. Assumes nothing.
use mathlib.Core.Bool.{true, false, ◌&&◌}
use mathlib.Core.Path.{◌≡◌, refl, sym, ap, ap₂, ◌∙◌}
use mathlib.Core.List.{List, [], ◌∷◌, map}
use Prim.Native.Nat.{ℕ, ◌≤◌}
use native.Mathlib.Omega.{arith}
use lib.ListN.{length, get_or}
use Rattle.formula.specs.Formula.{Atom, Form, Formula, Name}
use Rattle.formula.specs.Atoms.{atoms_of}
use Rattle.lists.specs.Search.{In, here, next, all, below}
use Rattle.lists.proofs.Lists.{map_at}
use Rattle.lists.proofs.Search.{any_intro, collect_intro, first_short}
use Rattle.lists.proofs.Truth.{clash}
use Rattle.contact.specs.Meaning.{Floor, atom_on, value, meets_all, renamed}
use Rattle.contact.specs.Question.{plain, Counts}
use Rattle.contact.specs.Numbering.{names_of, map_form, different_atoms, atom_number, row_atoms, number_of, name_of, AtomsBelow}
use Rattle.contact.specs.Row.{Row, rules_true}
use Rattle.contact.specs.Check.{rows, good, first_row}
use Rattle.contact.proofs.Numbered.{number_value, values_agree}
use Rattle.contact.proofs.Naming.{numbered_below, numbers_row, names_row, numbers_count, names_count}
use Rattle.contact.proofs.Answer.{first_good, row_floor, row_counts, plan_gives_row, none_exactly}
use Rattle.clashing.specs.Clash.{NoneMeets, SomeMeets}
use Rattle.clashing.specs.Clashing.{is_found}

-- these are some of the rules
abbrev pub Among : List (Formula Name) → List (Formula Name) → Type 0
Among part rules = (f : Formula Name) → In f part → In f rules

module _ (rules : List (Formula Name)) where
  -- with the numbers that the atoms have among all rules
  abbrev pub numbered : List (Formula Name) → List (Form ℕ)
  numbered part = map (map_form (atom_number rules)) part

  values : (F : Floor Name) (part : List (Formula Name)) → Among part rules
      → all (value (λ i. get_or (map (atom_on F) (different_atoms rules)) i false)) (numbered part) ≡ meets_all F part
  values F [] among = refl
  values F (f ∷ part) among =
      ap₂ ◌&&◌
      (number_value (atom_number rules) (λ i. get_or (map (atom_on F) (different_atoms rules)) i false) (atom_on F) f
      (λ a i. values_agree rules F (λ j. get_or (map (atom_on F) (different_atoms rules)) j false) a
      (λ j l. map_at (atom_on F) (different_atoms rules) j a false l) a (collect_intro atoms_of (among f here) i)))
      (values F part (λ g i. among g (next i)))

  module _ (part : List (Formula Name)) (among : Among part rules) where
    -- they say of a floor what the rules say
    faithful : (F : Floor Name) → rules_true (numbered part) (map (atom_on F) (different_atoms rules)) ≡ meets_all F part
    unfolding rules_true
    faithful F = values F part among

    abbrev found : List Row
    found = first_row plain (length (names_of rules)) (row_atoms rules) (numbered part)

    none_meets : found ≡ [] → NoneMeets (names_of rules) part
    none_meets e F c h =
        (none_exactly plain (length (names_of rules)) (row_atoms rules) (numbered part) (numbered_below rules)).0 e (renamed (name_of rules) F) (names_count rules plain F c)
        (ap (rules_true (numbered part)) (names_row rules F) ∙ faithful F ∙ h)

    some_meets : (row : Row) → found ≡ row ∷ [] → SomeMeets (names_of rules) part
    some_meets row e =
        let n = length (names_of rules) in
        let F = row_floor plain n (row_atoms rules) (numbered part) row e in
        let G = renamed (number_of rules) F in
        ∣ (
          G,
          numbers_count rules plain F (row_counts plain n (row_atoms rules) (numbered part) row e),
          sym (faithful G) ∙ ap (rules_true (numbered part)) (numbers_row rules F ∙ plan_gives_row plain n (row_atoms rules) (numbered part) row e)
              ∙ (first_good plain n (row_atoms rules) (numbered part) row e).makes,
        ) ∣₁

    at_most_one : length found ≤ 1
    unfolding first_row
    at_most_one = first_short (good plain (length (names_of rules)) (row_atoms rules) (numbered part)) (rows (length (row_atoms rules)))

    -- a row is found where some floor meets them, and none where none does
    pub found_some : is_found found ≡ true → SomeMeets (names_of rules) part
    found_some h = go found refl h
      where
        go : (l : List Row) → found ≡ l → is_found l ≡ true → SomeMeets (names_of rules) part
        go [] e k = clash k refl
        go (row ∷ []) e k = some_meets row e
        go (row ∷ other ∷ l) e k = absurd (omega (arith, at_most_one, ap length e))

    pub found_none : is_found found ≡ false → NoneMeets (names_of rules) part
    found_none h = go found refl h
      where
        go : (l : List Row) → found ≡ l → is_found l ≡ false → NoneMeets (names_of rules) part
        go [] e k = none_meets e
        go (row ∷ l) e k = clash refl k

-- ---- no rules

-- one point, which lies in every name
abbrev everywhere : Floor ℕ
everywhere = record { points = 1; some = omega arith; touch = λ p q. true; reflexive = λ p l. refl; symmetric = λ p q l m e. refl; lies = λ x p. true }

everywhere_counts : (n : ℕ) → Counts plain (below n) everywhere
everywhere_counts n = record { somewhere = λ x i p l. any_intro (λ y. true) i refl; shaped = tt }

module _ (n : ℕ) (atoms : List (Atom ℕ)) (names : AtomsBelow n atoms) where
  no_rules : rules_true [] (map (atom_on everywhere) atoms) ≡ true
  unfolding rules_true
  no_rules = refl

  pub found_no_rules : is_found (first_row plain n atoms []) ≡ true
  found_no_rules = go (first_row plain n atoms []) refl
    where
      go : (l : List Row) → first_row plain n atoms [] ≡ l → is_found l ≡ true
      go [] e = absurd ((none_exactly plain n atoms [] names).0 e everywhere (everywhere_counts n) no_rules)
      go (row ∷ l) e = refl
