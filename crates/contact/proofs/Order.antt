-- Rules that are the same in another order use the same names, so that the same floors count, and these meet the ones where they meet the
-- others: no count, no value of a rule and no test of a point's names looks at the order. Assumes nothing.
use mathlib.Core.Bool.{true}
use mathlib.Core.Path.{◌≡◌, subst}
use mathlib.Core.List.{List}
use Rattle.formula.specs.Formula.{Formula, Name}
use Rattle.formula.specs.Names.{atom_names}
use Rattle.lists.specs.Search.{In, collect}
use Rattle.lists.proofs.Search.{any_intro, any_elim, all_intro, all_elim}
use Rattle.contact.specs.Meaning.{Floor, meets, meets_all}
use Rattle.contact.specs.Question.{Question, Counts, NoFloor}
use Rattle.contact.specs.Numbering.{all_atoms, same_name, names_of}
use Rattle.contact.proofs.Distinct.{from_distinct, in_distinct}
use Rattle.contact.proofs.Naming.{same_name_lem, name_alike, names_among}

-- each rule is one of the others
abbrev pub Among : List (Formula Name) → List (Formula Name) → Type 0
Among rules others = (f : Formula Name) → In f rules → In f others

-- then each of its names is one of theirs
name_among : (rules others : List (Formula Name)) → Among rules others → (x : Name) → In x (names_of rules) → In x (names_of others)
name_among rules others among x i =
    let j = names_among rules others among x (from_distinct same_name (collect atom_names (all_atoms rules)) i) in
    let r = any_elim (λ y. same_name y x) (names_of others) (in_distinct same_name name_alike (collect atom_names (all_atoms others)) x j) in
    subst (λ (y : Name). In y (names_of others)) ((same_name_lem r.0 x).0 r.2) r.1

-- and what meets them meets it
meets_among : (rules others : List (Formula Name)) → Among rules others → (F : Floor Name) → meets_all F others ≡ true → meets_all F rules ≡ true
meets_among rules others among F h = all_intro (meets F) rules (λ f i. all_elim (meets F) (among f i) h)

-- where each is one of the other list, both ways, the same floors count
counts_among : (rules others : List (Formula Name)) → Among rules others → Among others rules → (q : Question) (F : Floor Name) → Counts q (names_of others) F
    → Counts q (names_of rules) F
counts_among rules others into back q F c =
    record {
      somewhere = λ x i p l.
          let r = any_elim (λ y. F.lies y p) (names_of others) (c.somewhere x (name_among rules others into x i) p l) in
          any_intro (λ y. F.lies y p) (name_among others rules back r.0 r.1) r.2;
      shaped = c.shaped;
    }

-- so there is no floor for the one list where there is none for the other
pub no_floor_order : (rules others : List (Formula Name)) → Among rules others → Among others rules → (q : Question) → NoFloor q rules → NoFloor q others
no_floor_order rules others into back q none F c m = none F (counts_among rules others into back q F c) (meets_among rules others into F m)
