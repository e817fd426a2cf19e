-- One rule put last changes no number: the names of the rules before it keep theirs, and so their atoms are, with numbers for names, what
-- they were. The rule's own atoms, put behind them where none is the same, are the different atoms of all rules, since numbers for names
-- leave the same atoms the same and different ones different. Assumes nothing.
use mathlib.Core.Bool.{Bool}
use mathlib.Core.Path.{◌≡◌, sym, ap, ap₂, ◌∙◌}
use mathlib.Core.List.{List, [], ◌∷◌, ◌++◌, map, map-append, foldl}
use Prim.Native.Nat.{ℕ}
use native.Mathlib.Decide.{ℕ_discrete}
use Rattle.formula.specs.Formula.{Atom, Formula, Name}
use Rattle.formula.specs.Atoms.{atoms_of}
use Rattle.formula.specs.Names.{atom_names}
use Rattle.formula.specs.Same.{name_discrete, same_atom}
use Rattle.lists.specs.Search.{In}
use Rattle.lists.proofs.Lists.{map_agree}
use Rattle.lists.proofs.Search.{collect_intro, collect_last, in_left, in_right}
use Rattle.contact.specs.Numbering.{all_atoms, distinct, position, map_atom, map_form, number_of, name_of, different_atoms, atom_number, row_atoms}
use Rattle.contact.specs.Putting.{put}
use Rattle.contact.proofs.Distinct.{from_distinct, distinct_append, distinct_map, position_map}
use Rattle.contact.proofs.Naming.{atom_again}
use Rattle.contact.proofs.Numbered.{atoms_map}
use Rattle.contact.proofs.Renaming.{atom_same, form_same, form_twice}
use Rattle.contact.proofs.Same.{same_alike, same_map}
use Rattle.names.proofs.Claims.{rules_number_stays}

-- the test of the atoms as read, and of those with numbers for names
abbrev same : Atom Name → Atom Name → Bool
same = same_atom name_discrete

abbrev other : Atom ℕ → Atom ℕ → Bool
other = same_atom ℕ_discrete

module _ (rules : List (Formula Name)) where
  -- numbers for names leave the same atoms the same and different ones different
  numbers_same : (a b : Atom Name) → In a (all_atoms rules) → In b (all_atoms rules) → other (map_atom (number_of rules) a) (map_atom (number_of rules) b) ≡ same a b
  numbers_same a b i j = same_map name_discrete ℕ_discrete (number_of rules) (name_of rules) a b (atom_again rules i) (atom_again rules j)

module _ (rules : List (Formula Name)) (f : Formula Name) where
  abbrev every : List (Formula Name)
  every = rules ++ f ∷ []

  abbrev numbered : Atom Name → Atom ℕ
  numbered = map_atom (number_of every)

  atoms_with : all_atoms every ≡ all_atoms rules ++ atoms_of f
  atoms_with = collect_last atoms_of rules f

  earlier : {a : Atom Name} → In a (all_atoms rules) → In a (all_atoms every)
  earlier {a} i = rw atoms_with (in_left (atoms_of f) i)

  -- the atoms of the rules before it, with the numbers that their names have now
  earlier_numbers : map numbered (different_atoms rules) ≡ row_atoms rules
  earlier_numbers =
      map_agree numbered (map_atom (number_of rules)) (different_atoms rules)
      (λ a i. atom_same (number_of every) (number_of rules) a
      (λ x j. rules_number_stays rules (f ∷ []) x (collect_intro atom_names (from_distinct same (all_atoms rules) i) j)))

  -- the rule's atoms put behind them are those of all rules
  pub row_atoms_with : foldl (put other) (row_atoms rules) (atoms_of (map_form numbered f)) ≡ row_atoms every
  row_atoms_with =
      ap₂ (foldl (put other)) (sym earlier_numbers ∙ sym (distinct_map same other numbered (all_atoms rules) (λ a b i j. numbers_same every a b (earlier i) (earlier j)))) (atoms_map numbered f)
      ∙ sym (distinct_append other (same_alike ℕ_discrete) (map numbered (all_atoms rules)) (map numbered (atoms_of f)))
      ∙ ap (distinct other) (sym (map-append numbered (all_atoms rules) (atoms_of f)) ∙ ap (map numbered) (sym atoms_with))
      ∙ distinct_map same other numbered (all_atoms every) (numbers_same every)

  -- and its atoms have their numbers there
  pub numbers_with : map_form (position other (row_atoms every)) (map_form numbered f) ≡ map_form (atom_number every) f
  numbers_with =
      form_twice (position other (row_atoms every)) numbered f
      ∙ form_same (λ a. position other (row_atoms every) (numbered a)) (atom_number every) f
      (λ a i. let j : In a (all_atoms every) = rw atoms_with (in_right (all_atoms rules) i) in
      position_map same other numbered (different_atoms every) a (λ k l. numbers_same every k a (from_distinct same (all_atoms every) l) j))
