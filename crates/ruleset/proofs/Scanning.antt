-- A code is scanned sign by sign: what is left of it answers for the whole. Assumes nothing.
use mathlib.Core.Path.{◌≡◌, refl, ap, ap₂, subst, ◌∙◌}
use mathlib.Core.Bool.{Bool, true, false, ◌||◌, cond}
use mathlib.Core.List.{List, [], ◌∷◌}
use Prim.Native.Nat.{ℕ, suc, ◌+◌, ◌≤◌, ◌<◌}
use native.Mathlib.Omega.{arith}
use lib.Dec.{eqb}
use lib.ListN.{length, get_or, drop, drop_of_length-le}
use borrow.Author.Tests.{ne_eqb, eq-eqb, le-leb, lt-leb}
use Rattle.std.specs.Prelude.{Some, None}
use Rattle.std.specs.List.{list_any}
use Rattle.lists.specs.Search.{elem}
use Rattle.lists.proofs.Lists.{rest}
use Rattle.contact.specs.Numbering.{position}
use Rattle.solver.specs.Coded.{part, SafeFrom}
use Rattle.ruleset.specs.Places.{atom_signs, signs_to, place_from}

-- a sign stands in a part if it is the same as one of the part's
pub contained : (s : ℕ) (part : List ℕ) → list_any (λ x. eqb x s) part ≡ elem s part
contained s [] = refl
contained s (x ∷ part) = ap₂ ◌||◌ (grind arith) (contained s part)

module _ (code : List ℕ) (s at : ℕ) where
  -- none is left
  module _ (h : length code ≤ at) where
    pub signs_end : signs_to (drop at code) s ≡ 0
    unfolding signs_to
    signs_end = ap (λ (l : List ℕ). position eqb (atom_signs l) s) (drop_of_length-le code h)

  -- the next sign
  module _ (h : at < length code) where
    abbrev next : ℕ
    next = get_or code at 0

    abbrev later : List ℕ
    later = atom_signs (drop (at + 1) code)

    pub signs_no_atom : next < 7 → signs_to (drop at code) s ≡ signs_to (drop (at + 1) code) s
    unfolding signs_to
    signs_no_atom l =
        ap (λ (m : List ℕ). position eqb (atom_signs m) s) (rest code at 0 h) ∙ ap (λ (b : Bool). position eqb (cond b (next ∷ later) later) s) (lt-leb 7 next l)

    atom_next : 7 ≤ next → (b : Bool) → eqb next s ≡ b → signs_to (drop at code) s ≡ cond b 0 (suc (signs_to (drop (at + 1) code) s))
    unfolding signs_to
    atom_next l b e =
        ap (λ (m : List ℕ). position eqb (atom_signs m) s) (rest code at 0 h) ∙ ap (λ (b : Bool). position eqb (cond b (next ∷ later) later) s) (le-leb 7 next l)
        ∙ ap (λ (b : Bool). cond b 0 (suc (position eqb later s))) e

    pub signs_here : 7 ≤ next → next ≡ s → signs_to (drop at code) s ≡ 0
    signs_here l e = atom_next l true (eq-eqb next s e)

    pub signs_other : 7 ≤ next → (next ≡ s → ⊥) → signs_to (drop at code) s ≡ suc (signs_to (drop (at + 1) code) s)
    signs_other l e = atom_next l false (ne_eqb next s e)

-- ---- part by part

module _ (s : ℕ) (code ends : List ℕ) (from k : ℕ) where
  pub place_end : length ends ≤ k → place_from s code from k (drop k ends) ≡ None
  unfolding place_from
  place_end h = ap (place_from s code from k) (drop_of_length-le ends h)

  module _ (h : k < length ends) where
    abbrev end : ℕ
    end = get_or ends k 0

    pub safe_next : SafeFrom code from (drop k ends) → SafeFrom code from (end ∷ drop (k + 1) ends)
    safe_next g = subst (SafeFrom code from) (rest ends k 0 h) g

    place_next : (b : Bool) → elem s (part code from end) ≡ b
        → place_from s code from k (drop k ends) ≡ cond b (Some (record { rule = k; atom = signs_to (part code from end) s })) (place_from s code end (suc k) (drop (k + 1) ends))
    unfolding place_from
    place_next b e =
        ap (place_from s code from k) (rest ends k 0 h)
        ∙ ap (λ (c : Bool). cond c (Some (record { rule = k; atom = signs_to (part code from end) s })) (place_from s code end (suc k) (drop (k + 1) ends))) e

    pub place_here : elem s (part code from end) ≡ true → place_from s code from k (drop k ends) ≡ Some (record { rule = k; atom = signs_to (part code from end) s })
    place_here e = place_next true e

    pub place_later : elem s (part code from end) ≡ false → place_from s code from k (drop k ends) ≡ place_from s code end (k + 1) (drop (k + 1) ends)
    place_later e = let n : suc k ≡ k + 1 = omega arith in place_next false e ∙ ap (λ (i : ℕ). place_from s code end i (drop (k + 1) ends)) n
