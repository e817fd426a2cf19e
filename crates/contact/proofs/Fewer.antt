-- Marks that pass the check pass it where some are left out: no more is forbidden and no more is separated, so what was allowed,
-- every witness and every link stay. What passes for one building passes for the plain question. Assumes nothing.
use mathlib.Core.Bool.{Bool, true, not, ◌&&◌, and-eq-true_iff}
use mathlib.Core.Path.{◌≡◌, refl, ap}
use mathlib.Core.List.{List}
use mathlib.Mathlib.Data.Bool.Basic.{and_intro}
use Prim.Native.Nat.{ℕ}
use borrow.Author.Tests.{not-true}
use Rattle.formula.specs.Formula.{Term}
use Rattle.lists.specs.Search.{In, any, all}
use Rattle.lists.proofs.Search.{any_intro, any_elim, any_wider, none_intro, all_intro, all_elim}
use Rattle.lists.proofs.Truth.{clash}
use Rattle.contact.specs.Question.{Question, plain, building}
use Rattle.contact.specs.Plan.{at, Mark, touching, apart, vacant, inhabited, evaluations, parts, empties, separated, may, allowed, fills, partners, leads, Linked, start, onward, met}
use Rattle.contact.specs.Pieces.{whole_piece, piece_meets, check_pieces}
use Rattle.contact.specs.Check.{witnessed, check, passes}
use Rattle.contact.proofs.Realise.{fills_intro, partners_intro, leads_intro, check_intro}
use Rattle.contact.proofs.Pieces.{allowed_in, piece_elim, piece_intro, piece_allowed, meets_elim, meets_intro}

module _ (n : ℕ) (ms fewer : List Mark) (sub : (m : Mark) → In m fewer → In m ms) where
  none_fewer : (p : Mark → Bool) → not (any p ms) ≡ true → not (any p fewer) ≡ true
  none_fewer p h = ap not (none_intro p fewer (λ m i q. clash (any_intro p (sub m i) q) (not-true _ h)))

  unseparated : (e f : ℕ) → not (separated ms e f) ≡ true → not (separated fewer e f) ≡ true
  unfolding separated
  unseparated e f h = none_fewer (parts e f) h

  allowed_fewer : (e : ℕ) → allowed n ms e ≡ true → allowed n fewer e ≡ true
  unfolding allowed
  allowed_fewer e h =
      let w = (and-eq-true_iff (may n e) (not (any (empties e) ms) && not (separated ms e e))).0 h in
      let v = (and-eq-true_iff (not (any (empties e) ms)) (not (separated ms e e))).0 w.1 in
      and_intro w.0 (and_intro (none_fewer (empties e) v.0) (unseparated e e v.1))

  fills_fewer : (t : Term ℕ) (e : ℕ) → fills n ms t e ≡ true → fills n fewer t e ≡ true
  unfolding fills
  fills_fewer t e h =
      let w = (and-eq-true_iff (allowed n ms e) (at t e)).0 h in
      and_intro (allowed_fewer e w.0) w.1

  partners_fewer : (y : Term ℕ) (p q : ℕ) → partners n ms y p q ≡ true → partners n fewer y p q ≡ true
  unfolding partners
  partners_fewer y p q h =
      let w = (and-eq-true_iff (fills n ms y q) (not (separated ms p q))).0 h in
      and_intro (fills_fewer y q w.0) (unseparated p q w.1)

  leads_fewer : (x y : Term ℕ) (p : ℕ) → leads n ms x y p ≡ true → leads n fewer x y p ≡ true
  unfolding leads
  leads_fewer x y p h =
      let w = (and-eq-true_iff (fills n ms x p) (any (partners n ms y p) (evaluations n))).0 h in
      and_intro (fills_fewer x p w.0)
      (any_wider (partners n ms y p) (partners n fewer y p) (evaluations n) (partners_fewer y p) w.1)

  witnessed_fewer : (m : Mark) → witnessed n ms m ≡ true → witnessed n fewer m ≡ true
  witnessed_fewer (touching x y) h = any_wider (leads n ms x y) (leads n fewer x y) (evaluations n) (leads_fewer x y) h
  witnessed_fewer (apart x y) h = refl
  witnessed_fewer (vacant t) h = refl
  witnessed_fewer (inhabited t) h = any_wider (fills n ms t) (fills n fewer t) (evaluations n) (fills_fewer t) h

  pub check_fewer : check n ms ≡ true → check n fewer ≡ true
  unfolding check
  check_fewer h =
      let w = (and-eq-true_iff (any (allowed n ms) (evaluations n)) (all (witnessed n ms) ms)).0 h in
      and_intro
      (any_wider (allowed n ms) (allowed n fewer) (evaluations n) allowed_fewer w.0)
      (all_intro (witnessed n fewer) fewer (λ m i. witnessed_fewer m (all_elim (witnessed n ms) (sub m i) w.1)))

  -- the same of pieces, which only grow
  linked_fewer : {e f : ℕ} → Linked n ms e f → Linked n fewer e f
  linked_fewer start = start
  linked_fewer (onward {f} {g} l a s) =
      onward (linked_fewer l) (allowed_fewer g a) (not-true _ (unseparated f g (ap not s)))

  piece_fewer : (e : ℕ) → allowed n ms e ≡ true → (f : ℕ) → In f (whole_piece n ms e) → In f (whole_piece n fewer e)
  piece_fewer e h f i = piece_intro n fewer e (allowed_fewer e h) (linked_fewer (piece_elim n ms e f i))

  pub met_fewer : (set more : List ℕ) → ((e : ℕ) → In e set → In e more) → (m : Mark) → met ms set m ≡ true → met fewer more m ≡ true
  met_fewer set more wider (touching x y) h =
      let r = any_elim (λ e. at x e && any (λ f. at y f && not (separated ms e f)) set) set h in
      let e : ℕ = r.0 in
      let k = (and-eq-true_iff (at x e) (any (λ f. at y f && not (separated ms e f)) set)).0 r.2 in
      let s = any_elim (λ f. at y f && not (separated ms e f)) set k.1 in
      let l = (and-eq-true_iff (at y s.0) (not (separated ms e s.0))).0 s.2 in
      any_intro (λ g. at x g && any (λ f. at y f && not (separated fewer g f)) more) (wider e r.1)
      (and_intro k.0
      (any_intro (λ f. at y f && not (separated fewer e f)) (wider s.0 s.1) (and_intro l.0 (unseparated e s.0 l.1))))
  met_fewer set more wider (apart x y) h = refl
  met_fewer set more wider (vacant t) h = refl
  met_fewer set more wider (inhabited t) h =
      let r = any_elim (at t) set h in any_intro (at t) (wider r.0 r.1) r.2

  pieces_fewer : check_pieces n ms ≡ true → check_pieces n fewer ≡ true
  unfolding check_pieces
  pieces_fewer h =
      let r = any_elim (piece_meets n ms) (evaluations n) h in
      let e : ℕ = r.0 in
      let w = meets_elim n ms e r.2 in
      meets_intro n fewer e (allowed_fewer e w.0)
      (λ m i. met_fewer (whole_piece n ms e) (whole_piece n fewer e) (piece_fewer e w.0) m (all_elim (met ms (whole_piece n ms e)) (sub m i) w.1))

  -- so for each question
  pub passes_fewer : (q : Question) → passes q n ms ≡ true → passes q n fewer ≡ true
  passes_fewer plain h = check_fewer h
  passes_fewer building h = pieces_fewer h

-- ---- a building is a floor

module _ (n : ℕ) (ms : List Mark) where
  met_witnessed : (set : List ℕ) → ((e : ℕ) → In e set → allowed n ms e ≡ true) → (m : Mark) → met ms set m ≡ true
      → witnessed n ms m ≡ true
  met_witnessed set ok (touching x y) h =
      let r = any_elim (λ e. at x e && any (λ f. at y f && not (separated ms e f)) set) set h in
      let e : ℕ = r.0 in
      let k = (and-eq-true_iff (at x e) (any (λ f. at y f && not (separated ms e f)) set)).0 r.2 in
      let s = any_elim (λ f. at y f && not (separated ms e f)) set k.1 in
      let l = (and-eq-true_iff (at y s.0) (not (separated ms e s.0))).0 s.2 in
      any_intro (leads n ms x y) (allowed_in n ms e (ok e r.1))
      (leads_intro n ms x y e (fills_intro n ms x e (ok e r.1) k.0)
      (any_intro (partners n ms y e) (allowed_in n ms s.0 (ok s.0 s.1))
      (partners_intro n ms y e s.0 (fills_intro n ms y s.0 (ok s.0 s.1) l.0) (not-true _ l.1))))
  met_witnessed set ok (apart x y) h = refl
  met_witnessed set ok (vacant t) h = refl
  met_witnessed set ok (inhabited t) h =
      let r = any_elim (at t) set h in
      any_intro (fills n ms t) (allowed_in n ms r.0 (ok r.0 r.1)) (fills_intro n ms t r.0 (ok r.0 r.1) r.2)

  -- what passes for a building passes for the plain question
  pub building_plain : check_pieces n ms ≡ true → check n ms ≡ true
  unfolding check_pieces
  building_plain h =
      let r = any_elim (piece_meets n ms) (evaluations n) h in
      let e : ℕ = r.0 in
      let w = meets_elim n ms e r.2 in
      check_intro n ms (any_intro (allowed n ms) r.1 w.0)
      (all_intro (witnessed n ms) ms
      (λ m i. met_witnessed (whole_piece n ms e) (piece_allowed n ms e w.0) m (all_elim (met ms (whole_piece n ms e)) i w.1)))

  pub passes_plain : (q : Question) → passes q n ms ≡ true → check n ms ≡ true
  passes_plain plain h = h
  passes_plain building h = building_plain h
