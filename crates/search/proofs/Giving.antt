-- The evaluations that the code gathers are those that the marks give: each search on the state's sets is the one on the marks
-- (Fitting), and what is found is below 2 ^ names. Assumes nothing.
use mathlib.Core.Bool.{Bool, true, false}
use mathlib.Core.Path.{◌≡◌, refl, ap, ◌∙◌}
use mathlib.Core.List.{List, [], ◌∷◌}
use Prim.Native.Nat.{ℕ, ◌^◌, ◌≤◌, ◌<◌}
use Rattle.lists.proofs.Below.{any_at, any_none}
use Rattle.formula.specs.Formula.{Term, Atom}
use Rattle.lists.specs.Search.{here, any, first, or_else, collect, below, elem}
use Rattle.evalset.specs.Sets.{room, meet_of}
use Rattle.evalset.specs.Most.{most}
use Rattle.evalset.proofs.Members.{first_names}
use Rattle.lists.proofs.Search.{first_in, elem_intro, collect_same}
use Rattle.lists.proofs.Truth.{clash}
use Rattle.contact.specs.Meaning.{part_term}
use Rattle.contact.specs.Plan.{Means, evaluations, Mark, touching, zero_mark, mark, allowed, fills, partners, leads, with_partner, gives}
use Rattle.search.specs.Tests.{pair_from, pair_of, gives_of}
use Rattle.search.specs.Compiled.{State, AtomIs, Fit}
use Rattle.search.proofs.Fitting.{allowed_in, separated_in, allowed_low, fills_low, partners_low, leads_low, fills_is, partners_is, leads_is}

-- ---- what an atom with its value gives

module _ (n : ℕ) (few : n ≤ most) (s : State) (ms : List Mark) (f : Fit n s ms) where
  pub least_is : first (allowed_in s) (below room) ≡ first (allowed n ms) (evaluations n)
  least_is = ap (λ (p : ℕ → Bool). first p (below room)) f.allowed_is ∙ first_names (allowed n ms) n few (allowed_low n ms)

  partner_is : (y : ℕ → Bool) (t : Term ℕ) → Means n y t → (p : ℕ) → p < 2 ^ n
      → pair_from (meet_of (allowed_in s) y) (separated_in s) p ≡ with_partner n ms t p
  partner_is y t h p l =
      ap (λ (xs : List ℕ). p ∷ xs)
      (ap (λ (q : ℕ → Bool). first q (below room)) (partners_is n few s ms f y t h p l)
      ∙ first_names (partners n ms t p) n few (partners_low n ms t p))

  pair_is : (x y : ℕ → Bool) (u t : Term ℕ) → Means n x u → Means n y t
      → pair_of (meet_of (allowed_in s) x) (meet_of (allowed_in s) y) (separated_in s) ≡ gives n ms (touching u t)
  unfolding pair_of
  pair_is x y u t hx hy =
      ap (collect (pair_from (meet_of (allowed_in s) y) (separated_in s)))
      (ap (λ (p : ℕ → Bool). first p (below room)) (leads_is n few s ms f x y u t hx hy)
      ∙ first_names (leads n ms u t) n few (leads_low n ms u t))
      ∙ collect_same (pair_from (meet_of (allowed_in s) y) (separated_in s)) (with_partner n ms t) (first (leads n ms u t) (evaluations n))
      (λ p i. partner_is y t hy p (leads_low n ms u t p (first_in (leads n ms u t) (evaluations n) i).1))

  zero_gives : (contact value : Bool) (x y : ℕ → Bool) (t : Term ℕ) → contact ≡ false → Means n x t
      → gives_of contact value (allowed_in s) (separated_in s) x y ≡ gives n ms (zero_mark value t)
  zero_gives contact true x y t h g = ap (λ (b : Bool). gives_of b true (allowed_in s) (separated_in s) x y) h
  zero_gives contact false x y t h g =
      ap (λ (b : Bool). gives_of b false (allowed_in s) (separated_in s) x y) h ∙ ap (λ (p : ℕ → Bool). first p (below room)) (fills_is n few s ms f x t g)
      ∙ first_names (fills n ms t) n few (fills_low n ms t)

  pub gives_is : (contact value : Bool) (x y : ℕ → Bool) (a : Atom ℕ) → AtomIs n contact x y a
      → gives_of contact value (allowed_in s) (separated_in s) x y ≡ gives n ms (mark a value)
  gives_is contact true x y (Atom.contact u t) h = ap (λ (b : Bool). gives_of b true (allowed_in s) (separated_in s) x y) h.0 ∙ pair_is x y u t h.1 h.2
  gives_is contact false x y (Atom.contact u t) h = ap (λ (b : Bool). gives_of b false (allowed_in s) (separated_in s) x y) h.0
  gives_is contact value x y (Atom.part u t) h = zero_gives contact value x y (part_term u t) h.0 h.1
  gives_is contact value x y (Atom.empty t) h = zero_gives contact value x y t h.0 h.1

-- ---- the first set, or the second where it is empty

module _ (xs ys : List ℕ) (p : ℕ → Bool) (h : (e : ℕ) → p e ≡ elem e xs) where
  pub or_else_none : ((e : ℕ) → p e ≡ true → e < room) → any p (below room) ≡ false → or_else xs ys ≡ ys
  or_else_none low none = go xs h
    where
      go : (zs : List ℕ) → ((e : ℕ) → p e ≡ elem e zs) → or_else zs ys ≡ ys
      go [] g = refl
      go (z ∷ zs) g =
          let t : p z ≡ true = g z ∙ elem_intro z (here {xs = zs}) in
          clash (any_at p room z (low z t) t) none

  pub or_else_some : any p (below room) ≡ true → or_else xs ys ≡ xs
  or_else_some some = go xs h
    where
      go : (zs : List ℕ) → ((e : ℕ) → p e ≡ elem e zs) → or_else zs ys ≡ zs
      go [] g = clash some (any_none p room (λ e l. g e))
      go (z ∷ zs) g = refl
