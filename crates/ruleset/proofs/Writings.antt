-- The first sign of an atom in the code stands where the atom is written first: the numbers of the atoms before it are others, so none of
-- them is the same, and of the different atoms it is the one that stands at its number. Assumes nothing.
use mathlib.Core.Path.{◌≡◌, refl, sym, ap, ap₂, subst, ◌∙◌}
use mathlib.Core.Bool.{Bool, true, false, cond}
use mathlib.Core.Logic.{⊎_elim}
use mathlib.Mathlib.Data.Bool.Basic.{eq-false_of_not-eq-true}
use mathlib.Core.List.{List, [], ◌∷◌, ◌++◌, map, foldl, map-map, map-append, append-nil, append_assoc}
use Prim.Native.Nat.{ℕ, suc, ◌+◌, ◌≤◌, ◌<◌}
use native.Mathlib.Omega.{arith}
use lib.Dec.{eqb, leb}
use lib.ListN.{length, get_or, take, length-append, get_or-append}
use lib.Seq.{get_or_at, take-append_seam}
use borrow.Author.Tests.{eqb-true, eqb-false, le-leb}
use Rattle.lists.specs.Search.{In, elem}
use Rattle.lists.proofs.Search.{none_in, uncons, in_either, any_elim, elem_intro, elem_elim, keep_intro, keep_elim, keep_append, map_intro, map_elim, below_intro}
use Rattle.lists.proofs.Truth.{cases, clash}
use Rattle.formula.specs.Formula.{Atom, Term, Form, Formula, Name}
use Rattle.formula.specs.Atoms.{atoms_of}
use Rattle.formula.specs.Same.{name_discrete, same_atom}
use Rattle.contact.specs.Numbering.{all_atoms, distinct, position, map_form, different_atoms, atom_number, numbered_atoms}
use Rattle.contact.specs.Putting.{is_in, put}
use Rattle.contact.proofs.Distinct.{Alike, from_distinct, position_out, put_all_position, distinct_append, position_alike, distinct_places}
use Rattle.contact.proofs.Same.{same_alike}
use Rattle.contact.proofs.Numbered.{atoms_map}
use Rattle.kleene.specs.Code.{atom_sign, postfix}
use Rattle.solver.specs.Coded.{part, CodedFrom, Coded}
use Rattle.std.specs.Prelude.{Option, Some}
use Rattle.ruleset.specs.declared.AtomPlace.{AtomPlace}
use Rattle.ruleset.specs.Places.{atom_at, atoms_in, Writing, atom_signs, signs_to, place_from}

-- ---- of those that are the same, the first stays

module _ {N : Type 0} (same : N → N → Bool) where
  put_longer : (ks : List N) (w : N) → length ks ≤ length (put same ks w)
  put_longer ks w = go (is_in same ks w)
    where
      go : (b : Bool) → length ks ≤ length (cond b ks (ks ++ w ∷ []))
      go true = omega arith
      go false = omega (arith, length-append ks (w ∷ []))

  put_keeps : (ws ks : List N) (i : ℕ) (d : N) → i < length ks → get_or (foldl (put same) ks ws) i d ≡ get_or ks i d
  put_keeps [] ks i d h = refl
  put_keeps (w ∷ ws) ks i d h = put_keeps ws (put same ks w) i d (omega (arith, put_longer ks w)) ∙ go (is_in same ks w)
    where
      go : (b : Bool) → get_or (cond b ks (ks ++ w ∷ [])) i d ≡ get_or ks i d
      go true = refl
      go false = get_or-append ks (w ∷ []) d i h

  module _ (is : Alike same) (pre post : List N) (x d : N) where
    abbrev number : N → ℕ
    number = position same (distinct same (pre ++ x ∷ post))

    first_stays : ((y : N) → In y pre → number y ≡ number x → ⊥) → get_or (distinct same (pre ++ x ∷ post)) (number x) d ≡ x
    first_stays h = cases (is_in same (distinct same pre) x) before fresh
      where
        before : is_in same (distinct same pre) x ≡ true → get_or (distinct same (pre ++ x ∷ post)) (number x) d ≡ x
        before e =
            let r = any_elim (λ k. same k x) (distinct same pre) e in
            absurd (h r.0 (from_distinct same pre r.1) (position_alike same is (distinct same (pre ++ x ∷ post)) r.0 x r.2))

        fresh : is_in same (distinct same pre) x ≡ false → get_or (distinct same (pre ++ x ∷ post)) (number x) d ≡ x
        fresh e =
            let ks = distinct same pre in
            let grown = distinct_append same is pre (x ∷ post) in
            let place = ap (λ (l : List N). position same l x) grown ∙ put_all_position same is ks post x ∙ position_out same ks x e in
            let new : put same ks x ≡ ks ++ x ∷ [] = ap (λ (b : Bool). cond b ks (ks ++ x ∷ [])) e in
            ap₂ (λ (l : List N) (n : ℕ). get_or l n d) grown place
            ∙ put_keeps post (put same ks x) (length ks) d (omega (arith, ap length new, length-append ks (x ∷ [])))
            ∙ ap (λ (l : List N). get_or l (length ks) d) new ∙ get_or_at ks x [] d (length ks) refl

-- ---- the first with a number

module _ {A : Type 0} (g : A → ℕ) (s : ℕ) where
  record Split (ls : List A) (n : ℕ) : Type 0 where
    front : List A
    at : A
    back : List A
    split : ls ≡ front ++ at ∷ back
    is : g at ≡ s
    count : n ≡ length front
    others : (y : A) → In y front → g y ≡ s → ⊥

  split_first : (ls : List A) → In s (map g ls) → Split ls (position eqb (map g ls) s)
  split_first [] i = none_in i
  split_first (l ∷ ls) i = go (eqb (g l) s) refl (split_first ls)
    where
      go : (b : Bool) → eqb (g l) s ≡ b → (In s (map g ls) → Split ls (position eqb (map g ls) s)) → Split (l ∷ ls) (cond b 0 (suc (position eqb (map g ls) s)))
      go true e f = record { front = []; at = l; back = ls; split = refl; is = eqb-true (g l) s e; count = refl; others = λ y j. none_in j }
      go false e f =
          let r = f (⊎_elim (λ q. absurd (eqb-false (g l) s e (sym q))) (λ j. j) (uncons i)) in
          record {
            front = l ∷ r.front;
            at = r.at;
            back = r.back;
            split = ap (λ (m : List A). l ∷ m) r.split;
            is = r.is;
            count = ap suc r.count;
            others = λ y j q. ⊎_elim (λ z. absurd (eqb-false (g l) s e (sym (ap g z) ∙ q))) (λ k. r.others y k q) (uncons j);
          }

-- ---- the signs of atoms in a rule's code

signs_two : (f g : Form ℕ) (c : ℕ) → atom_signs (c ∷ []) ≡ [] → atom_signs (postfix f) ≡ map atom_sign (atoms_of f) → atom_signs (postfix g) ≡ map atom_sign (atoms_of g)
    → atom_signs (postfix f ++ (postfix g ++ c ∷ [])) ≡ map atom_sign (atoms_of f ++ atoms_of g)
signs_two f g c e p q =
    keep_append (leb 7) (postfix f) (postfix g ++ c ∷ [])
    ∙ ap₂ ◌++◌ p (keep_append (leb 7) (postfix g) (c ∷ []) ∙ ap (λ (l : List ℕ). atom_signs (postfix g) ++ l) e ∙ append-nil (atom_signs (postfix g)) ∙ q)
    ∙ sym (map-append atom_sign (atoms_of f) (atoms_of g))

signs_of : (f : Form ℕ) → atom_signs (postfix f) ≡ map atom_sign (atoms_of f)
unfolding postfix
signs_of Form.truth = refl
signs_of Form.falsity = refl
signs_of (Form.atom i) = ap (λ (b : Bool). cond b (atom_sign i ∷ []) []) (le-leb 7 (atom_sign i) (omega arith))
signs_of (Form.negation f) = keep_append (leb 7) (postfix f) (0 ∷ []) ∙ append-nil (atom_signs (postfix f)) ∙ signs_of f
signs_of (Form.conjunction f g) = signs_two f g 1 refl (signs_of f) (signs_of g)
signs_of (Form.disjunction f g) = signs_two f g 2 refl (signs_of f) (signs_of g)
signs_of (Form.implication f g) = signs_two f g 3 refl (signs_of f) (signs_of g)
signs_of (Form.equivalence f g) = signs_two f g 4 refl (signs_of f) (signs_of g)

-- ---- the code of rules

abbrev place_at : ℕ → ℕ → Option AtomPlace
place_at atom rule = Some (record { rule = rule; atom = atom })

module _ (all : List (Atom Name)) (i many : ℕ) (code : List ℕ) where
  abbrev same : Atom Name → Atom Name → Bool
  same = same_atom name_discrete

  abbrev num : Atom Name → ℕ
  num = position same (distinct same all)

  abbrev sign : Atom Name → ℕ
  sign a = atom_sign (num a)

  -- none of these atoms has the number i
  abbrev NoneOf : List (Atom Name) → Type 0
  NoneOf atoms = (y : Atom Name) → In y atoms → num y ≡ i → ⊥

  -- the atom at a place of a rule is the different atom with the number i, and none before it there has this number
  abbrev IsThere : Formula Name → ℕ → Type 0
  IsThere f k = (k < length (atoms_of f)) × (atom_at (atoms_of f) k ≡ atom_at (distinct same all) i) × (num (atom_at (distinct same all) i) ≡ i) × NoneOf (take k (atoms_of f))

  signs_in : (f : Formula Name) (from end : ℕ) → part code from end ≡ postfix (map_form num f) → atom_signs (part code from end) ≡ map sign (atoms_of f)
  signs_in f from end e = ap atom_signs e ∙ signs_of (map_form num f) ∙ ap (map atom_sign) (atoms_map num f) ∙ map-map atom_sign num (atoms_of f)

  -- the sign stands in the code of the rule f
  in_rule : (pre rest : List (Atom Name)) (f : Formula Name) → pre ++ (atoms_of f ++ rest) ≡ all → ((y : Atom Name) → In y pre → num y ≡ i → ⊥)
      → (n : ℕ) → Split sign (atom_sign i) (atoms_of f) n → IsThere f n
  in_rule pre rest f e h n r =
      let is-i : num r.at ≡ i = omega (arith, r.is) in
      let whole : (pre ++ r.front) ++ r.at ∷ (r.back ++ rest) ≡ all =
      append_assoc pre r.front (r.at ∷ (r.back ++ rest)) ∙ ap (λ (l : List (Atom Name)). pre ++ l) (sym (append_assoc r.front (r.at ∷ r.back) rest) ∙ ap (λ (l : List (Atom Name)). l ++ rest) (sym r.split)) ∙ e in
      let none : (y : Atom Name) → In y (pre ++ r.front) → num y ≡ num r.at → ⊥ = λ y j q. ⊎_elim (λ k. h y k (q ∙ is-i)) (λ k. r.others y k (ap atom_sign (q ∙ is-i))) (in_either pre r.front j) in
      let stays : atom_at (distinct same all) (num r.at) ≡ r.at =
      subst (λ (l : List (Atom Name)). ((y : Atom Name) → In y (pre ++ r.front) → position same (distinct same l) y ≡ position same (distinct same l) r.at → ⊥) → atom_at (distinct same l) (position same (distinct same l) r.at) ≡ r.at) whole
      (first_stays same (same_alike name_discrete) (pre ++ r.front) (r.back ++ rest) r.at (Atom.empty Term.zero)) none in (
        omega (arith, r.count, ap length r.split, length-append r.front (r.at ∷ r.back)),
        ap₂ (λ (l : List (Atom Name)) (k : ℕ). atom_at l k) r.split r.count ∙ get_or_at r.front r.at r.back (Atom.empty Term.zero) (length r.front) refl ∙ sym stays ∙ ap (atom_at (distinct same all)) is-i,
        ap num (sym (ap (atom_at (distinct same all)) is-i) ∙ stays) ∙ is-i,
        subst NoneOf (sym (ap₂ (λ (k : ℕ) (l : List (Atom Name)). take k l) r.count r.split ∙ take-append_seam r.front (r.at ∷ r.back))) (λ y j q. r.others y j (ap atom_sign q)),
      )

  -- no atom of a rule has the number where the sign does not stand
  not_in_rule : (f : Formula Name) (from end : ℕ) → part code from end ≡ postfix (map_form num f) → elem (atom_sign i) (part code from end) ≡ false → (y : Atom Name) → In y (atoms_of f) → num y ≡ i → ⊥
  not_in_rule f from end e q y j n =
      let k : In (atom_sign i) (atom_signs (part code from end)) = subst (λ (l : List ℕ). In (atom_sign i) l) (sym (signs_in f from end e)) (subst (λ (m : ℕ). In (atom_sign m) (map sign (atoms_of f))) n (map_intro sign j)) in
      clash (elem_intro (atom_sign i) (keep_elim (leb 7) (part code from end) k).0) q

  stands_in_rule : (f : Formula Name) (from end : ℕ) → part code from end ≡ postfix (map_form num f) → elem (atom_sign i) (part code from end) ≡ true → Split sign (atom_sign i) (atoms_of f) (signs_to (part code from end) (atom_sign i))
  unfolding signs_to
  stands_in_rule f from end e q =
      subst (λ (l : List ℕ). Split sign (atom_sign i) (atoms_of f) (position eqb l (atom_sign i))) (sym (signs_in f from end e))
      (split_first sign (atom_sign i) (atoms_of f) (subst (λ (l : List ℕ). In (atom_sign i) l) (signs_in f from end e) (keep_intro (leb 7) (elem_elim (atom_sign i) (part code from end) q) (le-leb 7 (atom_sign i) (omega arith)))))

  -- the place is that of the atom in a rule of these, the first of which has the number k
  record There (rules : List (Formula Name)) (k : ℕ) (r : Option AtomPlace) : Type 0 where
    place : ℕ
    atom : ℕ
    found : r ≡ Some (record { rule = k + place; atom = atom })
    few : place < length rules
    there : IsThere (get_or rules place Form.truth) atom
    earlier : NoneOf (all_atoms (take place rules))

  placed : (rules : List (Formula Name)) (ends : List ℕ) (from k : ℕ) (pre : List (Atom Name)) → CodedFrom many code from ends (map (map_form num) rules) → pre ++ all_atoms rules ≡ all
      → ((y : Atom Name) → In y pre → num y ≡ i → ⊥) → (x : Atom Name) → In x (all_atoms rules) → num x ≡ i → There rules k (place_from (atom_sign i) code from k ends)
  unfolding place_from
  placed [] ends from k pre c e h x j n = none_in j
  placed (f ∷ rules) [] from k pre c e h x j n = absurd c
  placed (f ∷ rules) (end ∷ ends) from k pre c e h x j n =
      go (elem (atom_sign i) (part code from end)) refl
      (λ none. placed rules ends end (suc k) (pre ++ atoms_of f) c.1 (append_assoc pre (atoms_of f) (all_atoms rules) ∙ e) (λ y m q. ⊎_elim (λ l. h y l q) (λ l. none y l q) (in_either pre (atoms_of f) m)) x
      (⊎_elim (λ l. absurd (none x l n)) (λ l. l) (in_either (atoms_of f) (all_atoms rules) j)) n)
    where
      go : (b : Bool) → elem (atom_sign i) (part code from end) ≡ b → (((y : Atom Name) → In y (atoms_of f) → num y ≡ i → ⊥) → There rules (suc k) (place_from (atom_sign i) code end (suc k) ends))
          → There (f ∷ rules) k (cond b (Some (record { rule = k; atom = signs_to (part code from end) (atom_sign i) })) (place_from (atom_sign i) code end (suc k) ends))
      go true q r =
          record {
            place = 0;
            atom = signs_to (part code from end) (atom_sign i);
            found = ap (place_at (signs_to (part code from end) (atom_sign i))) (omega arith);
            few = omega arith;
            there = in_rule pre (all_atoms rules) f e h (signs_to (part code from end) (atom_sign i)) (stands_in_rule f from end c.0.is_code q);
            earlier = λ y m. none_in m;
          }
      go false q r =
          let none = not_in_rule f from end c.0.is_code q in
          let m = r none in
          record {
            place = suc m.place;
            atom = m.atom;
            found = m.found ∙ ap (place_at m.atom) (omega arith);
            few = omega (arith, m.few);
            there = m.there;
            earlier = λ y l. ⊎_elim (none y) (m.earlier y) (in_either (atoms_of f) (all_atoms (take m.place rules)) l);
          }

-- some atom has each number
some_atom : (rules : List (Formula Name)) (i : ℕ) → i < length (different_atoms rules) → (x : Atom Name) × (i ≡ atom_number rules x) × In x (all_atoms rules)
some_atom rules i h =
    let r = map_elim (atom_number rules) (different_atoms rules)
    (subst (λ (l : List ℕ). In i l) (sym (distinct_places (same_atom name_discrete) (same_alike name_discrete) (all_atoms rules))) (below_intro (length (different_atoms rules)) i h)) in
    (r.0, r.1, from_distinct (same_atom name_discrete) (all_atoms rules) r.2)

-- the sign of each number stands in a part, and where it stands first is where the atom is written first
pub first_writing : (rules : List (Formula Name)) (many : ℕ) (code ends : List ℕ) → Coded many code ends (numbered_atoms rules) → (i : ℕ) → i < length (different_atoms rules)
    → (p : AtomPlace) × (place_from (atom_sign i) code 0 0 ends ≡ Some p) × Writing rules i p
first_writing rules many code ends c i h =
    let x = some_atom rules i h in
    let r = placed (all_atoms rules) i many code rules ends 0 0 [] c refl (λ y j. none_in j) x.0 x.2 (sym x.1) in
    let p : AtomPlace = record { rule = r.place; atom = r.atom } in (
      p,
      r.found ∙ ap (place_at r.atom) (let e : 0 + r.place ≡ r.place = omega arith in e),
      record {
        rule_there = r.few;
        atom_there = r.there.0;
        is_atom = r.there.1;
        none_before = λ y j. eq-false_of_not-eq-true
            (λ e. ⊎_elim (r.earlier y) (r.there.3 y) (in_either (all_atoms (take r.place rules)) (take r.atom (atoms_in rules r.place)) j)
            (position_alike (same_atom name_discrete) (same_alike name_discrete) (different_atoms rules) y (atom_at (different_atoms rules) i) e ∙ r.there.2));
      },
    )
