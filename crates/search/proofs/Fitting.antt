-- The state carries what the marks say. A mark more forbids and separates what its atom's sets say, so a step keeps the state that of
-- the marks; and the tests on the state are those on the marks, as nothing from 2 ^ names up is allowed. Assumes nothing.
use mathlib.Core.Bool.{Bool, true, false, not, ◌&&◌, ◌||◌, and_comm, and-true, and-eq-true_iff, or_self, or-false}
use mathlib.Core.Path.{◌≡◌, sym, ap, ap₂, ◌∙◌, fun_ext}
use mathlib.Core.Logic.{⊎_elim}
use mathlib.Core.List.{List, [], ◌∷◌, ◌++◌}
use mathlib.Mathlib.Data.Bool.Basic.{and_intro, eq-false_of_not-eq-true, partial_order_laws}
use mathlib.Mathlib.Logic.Function.Defs.{congr_fun}
use Prim.Native.Nat.{ℕ, ◌^◌, ◌≤◌, ◌<◌}
use native.Mathlib.Omega.{arith}
use lib.Dec.{eqb, ltb}
use borrow.Author.Tests.{not-true, lt-ltb, ltb-true, eqb-false, ne_eqb}
use Rattle.lists.proofs.Truth.{side, regroup, guarded}
use Rattle.formula.specs.Formula.{Term, Atom}
use Rattle.lists.specs.Search.{any, below}
use Rattle.evalset.specs.Sets.{room, mem, below_of, meet_of, minus_of, drop_of}
use Rattle.evalset.specs.Most.{most}
use Rattle.evalset.proofs.Members.{below_few, any_names}
use Rattle.contact.specs.Meaning.{part_term}
use Rattle.squares.specs.Square.{square_at, reach}
use Rattle.contact.specs.Plan.{at, Means, Mark, zero_mark, mark, parts, separated, empties, may, allowed, fills, partners, leads}
use Rattle.contact.proofs.Somewhere.{may_below, may_some, may_intro}
use Rattle.contact.proofs.Realise.{allowed_below, fills_elim, partners_elim, leads_elim}
use Rattle.search.specs.Tests.{crossed, less_of, part_of, starts_of}
use Rattle.search.specs.Compiled.{State, AtomIs, Fit, Follows}
use Rattle.lists.proofs.Search.{any_last}

-- ---- what is allowed, and all that is taken from it, is below 2 ^ n

module _ (n : ℕ) (ms : List Mark) where
  pub allowed_low : (e : ℕ) → allowed n ms e ≡ true → e < 2 ^ n
  allowed_low = allowed_below n ms

  pub fills_low : (t : Term ℕ) (e : ℕ) → fills n ms t e ≡ true → e < 2 ^ n
  fills_low t e h = allowed_low e (fills_elim n ms t e h).0

  pub partners_low : (t : Term ℕ) (p q : ℕ) → partners n ms t p q ≡ true → q < 2 ^ n
  partners_low t p q h = fills_low t q (partners_elim n ms t p q h).0

  pub leads_low : (u t : Term ℕ) (p : ℕ) → leads n ms u t p ≡ true → p < 2 ^ n
  leads_low u t p h = fills_low u p (leads_elim n ms u t p h).0

  allowed_out : (e : ℕ) → 2 ^ n ≤ e → allowed n ms e ≡ false
  allowed_out e l = eq-false_of_not-eq-true (λ h. omega (arith, allowed_low e h))

  fills_out : (t : Term ℕ) (e : ℕ) → 2 ^ n ≤ e → fills n ms t e ≡ false
  fills_out t e l = eq-false_of_not-eq-true (λ h. omega (arith, fills_low t e h))

-- ---- the evaluations that a point may have

-- all below 2 ^ n where there is no name
pub possible_all : (n : ℕ) (a : ℕ → Bool) → n ≡ 0 → a ≡ below_of n → n ≤ most → a ≡ may n
possible_all n a z h l =
    h ∙ fun_ext (λ e. below_few n l e
    ∙ partial_order_laws.le_antisymm (ltb e (2 ^ n)) (may n e) (λ k. may_intro n e (ltb-true e (2 ^ n) k) (λ p. absurd (omega arith)))
    (λ k. lt-ltb e (2 ^ n) (may_below n e k)))

-- and all but 0 where there is one
pub possible_less : (n : ℕ) (a b : ℕ → Bool) → 0 < n → a ≡ below_of n → b ≡ drop_of a 0 → n ≤ most → b ≡ may n
possible_less n a b some h g l =
    g ∙ ap (λ (x : ℕ → Bool). drop_of x 0) h
    ∙ fun_ext (λ e. ap (λ (c : Bool). c && not (eqb e 0)) (below_few n l e)
    ∙ partial_order_laws.le_antisymm (ltb e (2 ^ n) && not (eqb e 0)) (may n e)
    (λ k. let r = (and-eq-true_iff (ltb e (2 ^ n)) (not (eqb e 0))).0 k in
    let ne : e ≡ 0 → ⊥ = eqb-false e 0 (not-true _ r.1) in
    may_intro n e (ltb-true e (2 ^ n) r.0) (λ p. omega (arith, ne)))
    (λ k. let p : 0 < e = may_some n e some k in
    and_intro (lt-ltb e (2 ^ n) (may_below n e k)) (ap not (ne_eqb e 0 (omega arith)))))

-- ---- no marks

pub fit_start : (n : ℕ) (s : State) → (n ≤ most → mem s.allowed ≡ may n) → ((p q : ℕ) → square_at s.rows p q ≡ false) → n ≤ most → Fit n s []
unfolding allowed separated
fit_start n s h g l =
    record {
      allowed_is = h l ∙ fun_ext (λ e. sym (and-true (may n e)));
      rows_are = λ p q lp lq. g p q;
    }

-- ---- one mark more

-- what an atom with its value forbids and separates is what its mark does
module _ (n : ℕ) (contact : Bool) (x y : ℕ → Bool) where
  zero_less : (value : Bool) (t : Term ℕ) → contact ≡ false → Means n x t → (e : ℕ) → e < 2 ^ n
      → less_of contact value x y e ≡ (empties e (zero_mark value t) || parts e e (zero_mark value t))
  zero_less true t h g e l = ap (λ (b : Bool). less_of b true x y e) h ∙ g e l ∙ sym (or-false (at t e))
  zero_less false t h g e l = ap (λ (b : Bool). less_of b false x y e) h

  less_is : (value : Bool) (a : Atom ℕ) → AtomIs n contact x y a → (e : ℕ) → e < 2 ^ n
      → less_of contact value x y e ≡ (empties e (mark a value) || parts e e (mark a value))
  less_is true (Atom.contact s t) h e l = ap (λ (b : Bool). less_of b true x y e) h.0
  less_is false (Atom.contact s t) h e l =
      ap (λ (b : Bool). less_of b false x y e) h.0 ∙ ap₂ ◌&&◌ (h.1 e l) (h.2 e l) ∙ sym (or_self (at s e && at t e))
  less_is value (Atom.part s t) h e l = zero_less value (part_term s t) h.0 h.1 e l
  less_is value (Atom.empty t) h e l = zero_less value t h.0 h.1 e l

  zero_part : (value : Bool) (t : Term ℕ) → contact ≡ false → (p q : ℕ) → part_of contact value x y p q ≡ parts p q (zero_mark value t)
  zero_part true t h p q = ap (λ (b : Bool). part_of b true x y p q) h
  zero_part false t h p q = ap (λ (b : Bool). part_of b false x y p q) h

  part_is : (value : Bool) (a : Atom ℕ) → AtomIs n contact x y a → (p q : ℕ) → p < 2 ^ n → q < 2 ^ n
      → part_of contact value x y p q ≡ parts p q (mark a value)
  unfolding crossed
  part_is true (Atom.contact s t) h p q lp lq = ap (λ (b : Bool). part_of b true x y p q) h.0
  part_is false (Atom.contact s t) h p q lp lq =
      ap (λ (b : Bool). part_of b false x y p q) h.0
      ∙ ap₂ ◌||◌ (ap₂ ◌&&◌ (h.1 p lp) (h.2 q lq)) (ap₂ ◌&&◌ (h.2 p lp) (h.1 q lq) ∙ and_comm (at t p) (at s q))
  part_is value (Atom.part s t) h p q lp lq = zero_part value (part_term s t) h.0 p q
  part_is value (Atom.empty t) h p q lp lq = zero_part value t h.0 p q

module _ (n : ℕ) (l : n ≤ most) (contact value : Bool) (x y : ℕ → Bool) (a : Atom ℕ) (h : AtomIs n contact x y a) (ms : List Mark) where
  forbids : (e : ℕ) → minus_of (allowed n ms) (less_of contact value x y) e ≡ allowed n (ms ++ mark a value ∷ []) e
  unfolding allowed separated
  forbids e = ⊎_elim low high (side e (2 ^ n))
    where
      low : e < 2 ^ n → minus_of (allowed n ms) (less_of contact value x y) e ≡ allowed n (ms ++ mark a value ∷ []) e
      low b =
          ap (λ (c : Bool). allowed n ms e && not c) (less_is n contact x y value a h e b)
          ∙ regroup (may n e) (any (empties e) ms) (any (parts e e) ms) (empties e (mark a value)) (parts e e (mark a value))
          ∙ sym (ap₂ (λ (c d : Bool). may n e && (not c && not d)) (any_last (empties e) ms (mark a value))
          (any_last (parts e e) ms (mark a value)))

      high : 2 ^ n ≤ e → minus_of (allowed n ms) (less_of contact value x y) e ≡ allowed n (ms ++ mark a value ∷ []) e
      high b =
          ap (λ (c : Bool). c && not (less_of contact value x y e)) (allowed_out n ms e b) ∙ sym (allowed_out n (ms ++ mark a value ∷ []) e b)

  pub fit_step : (all : ℕ → Bool) → all ≡ below_of n → (s r : State) → 2 ^ n ≤ reach s.rows → Fit n s ms
      → Follows contact value all x y s r → Fit n r (ms ++ mark a value ∷ [])
  unfolding separated
  fit_step all are s r wide f g =
      record {
        allowed_is = g.less ∙ ap (λ (z : ℕ → Bool). minus_of z (less_of contact value x y)) f.allowed_is ∙ fun_ext forbids;
        rows_are = λ p q lp lq.
            g.more p q (congr_fun are p ∙ below_few n l p ∙ lt-ltb p (2 ^ n) lp) (omega (arith, lp, wide)) (omega (arith, lq, wide))
            ∙ ap₂ ◌||◌ (f.rows_are p q lp lq) (part_is n contact x y value a h p q lp lq) ∙ sym (any_last (parts p q) ms (mark a value));
      }

-- ---- the tests on the state

abbrev pub allowed_in : State → ℕ → Bool
allowed_in s = mem s.allowed

abbrev pub separated_in : State → ℕ → ℕ → Bool
separated_in s = square_at s.rows

module _ (n : ℕ) (few : n ≤ most) (s : State) (ms : List Mark) (f : Fit n s ms) where
  pub fills_is : (x : ℕ → Bool) (t : Term ℕ) → Means n x t → meet_of (allowed_in s) x ≡ fills n ms t
  unfolding fills
  fills_is x t h =
      fun_ext
      (λ e. ap (λ (b : Bool). b && x e) (congr_fun f.allowed_is e)
      ∙ guarded e (2 ^ n) (allowed n ms e) (x e) (at t e) (allowed_out n ms e) (h e))

  pub partners_is : (y : ℕ → Bool) (t : Term ℕ) → Means n y t → (p : ℕ) → p < 2 ^ n → minus_of (meet_of (allowed_in s) y) (separated_in s p) ≡ partners n ms t p
  unfolding partners
  partners_is y t h p lp =
      fun_ext
      (λ q. ap (λ (b : Bool). b && not (separated_in s p q)) (congr_fun (fills_is y t h) q)
      ∙ guarded q (2 ^ n) (fills n ms t q) _ _ (fills_out n ms t q) (λ l. ap not (f.rows_are p q lp l)))

  pub leads_is : (x y : ℕ → Bool) (u t : Term ℕ) → Means n x u → Means n y t
      → starts_of (meet_of (allowed_in s) x) (meet_of (allowed_in s) y) (separated_in s) ≡ leads n ms u t
  unfolding starts_of leads
  leads_is x y u t hx hy =
      fun_ext
      (λ p. ap (λ (b : Bool). b && any (minus_of (meet_of (allowed_in s) y) (separated_in s p)) (below room)) (congr_fun (fills_is x u hx) p)
      ∙ guarded p (2 ^ n) (fills n ms u p) _ _ (fills_out n ms u p)
      (λ l. ap (λ (r : ℕ → Bool). any r (below room)) (partners_is y t hy p l)
      ∙ any_names (partners n ms t p) n few (partners_low n ms t p)))
