-- Whether a set meets the marks, found on the sets of the chart: a search among the members below room is one in any list that has the same
-- members, as all of them are below 2 ^ names. Assumes nothing.
use mathlib.Core.Bool.{Bool, true, false, not, ◌&&◌, and_assoc, and-eq-true_iff}
use mathlib.Core.Path.{◌≡◌, sym, ap, ap₂, ◌∙◌, fun_ext}
use mathlib.Core.List.{List, [], ◌++◌}
use mathlib.Mathlib.Data.Bool.Basic.{and_intro, partial_order_laws}
use Prim.Native.Nat.{ℕ, ◌^◌, ◌≤◌, ◌<◌}
use native.Mathlib.Omega.{arith}
use Rattle.formula.specs.Formula.{Term, Atom}
use Rattle.lists.specs.Search.{In, here, any, first, collect, below, elem}
use Rattle.lists.proofs.Search.{any_intro, any_elim, first_some, first_none, below_elim, elem_intro, elem_elim}
use Rattle.lists.proofs.Below.{any_at, any_none}
use Rattle.lists.proofs.Truth.{cases}
use Rattle.evalset.specs.Sets.{room, meet_of, minus_of}
use Rattle.squares.specs.Square.{square_at}
use Rattle.evalset.specs.Most.{most}
use Rattle.evalset.proofs.Members.{names_room}
use Rattle.contact.specs.Meaning.{part_term}
use Rattle.contact.specs.Plan.{at, Means, Mark, touching, zero_mark, mark, separated, allowed, met}
use Rattle.search.specs.Tests.{starts_of, pair_from, pair_of}
use Rattle.search.specs.Compiled.{AtomIs}
use Rattle.search.specs.Building.{met_of, RowsAre}
use Rattle.search.proofs.Fitting.{allowed_low}

-- ---- a pair is found exactly if some p has a partner

pub pair_some : (f g : ℕ → Bool) (sep : ℕ → ℕ → Bool)
    → any (λ e. elem e (pair_of f g sep)) (below room) ≡ any (starts_of f g sep) (below room)
unfolding pair_of
pair_some f g sep = cases (any (starts_of f g sep) (below room)) some none
  where
    pair : List ℕ → List ℕ
    pair ps = collect (pair_from g sep) ps

    some : any (starts_of f g sep) (below room) ≡ true
        → any (λ e. elem e (pair (first (starts_of f g sep) (below room)))) (below room) ≡ any (starts_of f g sep) (below room)
    some h =
        let r = first_some (starts_of f g sep) (below room) h in
        any_at (λ e. elem e (pair (first (starts_of f g sep) (below room)))) room r.0 (below_elim room r.0 r.2)
        (ap (λ (ps : List ℕ). elem r.0 (pair ps)) r.1
        ∙ elem_intro r.0 (here {xs = first (minus_of g (sep r.0)) (below room) ++ []}))
        ∙ sym h

    none : any (starts_of f g sep) (below room) ≡ false
        → any (λ e. elem e (pair (first (starts_of f g sep) (below room)))) (below room) ≡ any (starts_of f g sep) (below room)
    none h =
        any_none (λ e. elem e (pair (first (starts_of f g sep) (below room)))) room
        (λ e l. ap (λ (ps : List ℕ). elem e (pair ps)) (first_none (starts_of f g sep) (below room) h))
        ∙ sym h

-- ---- a set, and a list with the same members

module _ (g : ℕ → Bool) (set : List ℕ) (same : (e : ℕ) → g e ≡ elem e set) (low : (e : ℕ) → In e set → e < room) where
  any_listed : (p q : ℕ → Bool) → ((e : ℕ) → In e set → p e ≡ q e) → any (meet_of g p) (below room) ≡ any q set
  any_listed p q agree =
      partial_order_laws.le_antisymm (any (meet_of g p) (below room)) (any q set)
      (λ h. let r = any_elim (meet_of g p) (below room) h in
      let w = (and-eq-true_iff (g r.0) (p r.0)).0 r.2 in
      let i = elem_elim r.0 set (sym (same r.0) ∙ w.0) in
      any_intro q i (sym (agree r.0 i) ∙ w.1))
      (λ h. let r = any_elim q set h in
      any_at (meet_of g p) room r.0 (low r.0 r.1)
      (and_intro (same r.0 ∙ elem_intro r.0 r.1) (agree r.0 r.1 ∙ r.2)))

  starts_listed : (x y u t : ℕ → Bool) (sep apart : ℕ → ℕ → Bool) → ((e : ℕ) → In e set → x e ≡ u e) → ((e : ℕ) → In e set → y e ≡ t e)
      → ((e f : ℕ) → In e set → In f set → sep e f ≡ apart e f)
      → any (starts_of (meet_of g x) (meet_of g y) sep) (below room) ≡ any (λ e. u e && any (λ f. t f && not (apart e f)) set) set
  unfolding starts_of
  starts_listed x y u t sep apart hx hy hs =
      ap (λ (p : ℕ → Bool). any p (below room)) (fun_ext (λ p. and_assoc (g p) (x p) (any (minus_of (meet_of g y) (sep p)) (below room))))
      ∙ any_listed (λ p. x p && any (minus_of (meet_of g y) (sep p)) (below room)) (λ e. u e && any (λ f. t f && not (apart e f)) set)
      (λ e i. ap₂ ◌&&◌ (hx e i)
      (ap (λ (q : ℕ → Bool). any q (below room)) (fun_ext (λ q. and_assoc (g q) (y q) (not (sep e q))))
      ∙ any_listed (λ q. y q && not (sep e q)) (λ f. t f && not (apart e f)) (λ f j. ap₂ (λ (a b : Bool). a && not b) (hy f j) (hs e f i j))))

-- ---- the set meets a mark

module _ (n : ℕ) (few : n ≤ most) (rows : List ℕ) (ms : List Mark) (are : RowsAre n rows ms) (g : ℕ → Bool) (set : List ℕ)
    (same : (e : ℕ) → g e ≡ elem e set) (ok : (e : ℕ) → In e set → allowed n ms e ≡ true) where
  named : (e : ℕ) → In e set → e < 2 ^ n
  named e i = allowed_low n ms e (ok e i)

  low : (e : ℕ) → In e set → e < room
  low e i = omega (arith, named e i, names_room n few)

  touching_met : (x y : ℕ → Bool) (u t : Term ℕ) → Means n x u → Means n y t
      → any (starts_of (meet_of g x) (meet_of g y) (square_at rows)) (below room) ≡ met ms set (touching u t)
  touching_met x y u t hx hy =
      starts_listed g set same low x y (at u) (at t) (square_at rows) (separated ms) (λ e i. hx e (named e i)) (λ e i. hy e (named e i))
      (λ e f i j. are e f (named e i) (named f j))

  zero_met : (contact value : Bool) (x y : ℕ → Bool) (t : Term ℕ) → contact ≡ false → Means n x t
      → met_of contact value g (square_at rows) x y ≡ met ms set (zero_mark value t)
  zero_met contact true x y t h k = ap (λ (b : Bool). met_of b true g (square_at rows) x y) h
  zero_met contact false x y t h k =
      ap (λ (b : Bool). met_of b false g (square_at rows) x y) h ∙ any_listed g set same low x (at t) (λ e i. k e (named e i))

  pub met_is : (contact value : Bool) (x y : ℕ → Bool) (a : Atom ℕ) → AtomIs n contact x y a
      → met_of contact value g (square_at rows) x y ≡ met ms set (mark a value)
  met_is contact true x y (Atom.contact u t) h =
      ap (λ (b : Bool). met_of b true g (square_at rows) x y) h.0 ∙ touching_met x y u t h.1 h.2
  met_is contact false x y (Atom.contact u t) h = ap (λ (b : Bool). met_of b false g (square_at rows) x y) h.0
  met_is contact value x y (Atom.part u t) h = zero_met contact value x y (part_term u t) h.0 h.1
  met_is contact value x y (Atom.empty t) h = zero_met contact value x y t h.0 h.1
