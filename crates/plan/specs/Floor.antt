-- What is meant: a plan is a floor over its numbered names. Its points are its positions; two positions are in contact if
-- they are the same or a contact has both; a position lies in name i if bit i of its evaluation is set. A floor has proofs in
-- it, so the two laws that they need stand here too. Assumes nothing.
use Rattle.std.specs.Prelude.{◌≡◌, refl, Bool, true, ◌||◌, List, ℕ, ◌*◌, ◌+◌, eqb, length, get_or}
use Rattle.std.proofs.Common.{sym, ap, ap₂, ◌∙◌, eq-eqb, ne_eqb}
use Rattle.std.proofs.Math.Path.{fun_ext}
use Rattle.std.proofs.Math.Bool.{or_comm}
use mathlib.Mathlib.Data.Bool.Basic.{or_inl}
use Rattle.std.proofs.Math.Decide.{ℕ_discrete as dec_eq}
use Rattle.formula.specs.Formula.{Formula, Name}
use Rattle.lists.specs.Search.{any}
use Rattle.evalset.specs.Bit.{bit}
use Rattle.contact.specs.Meaning.{Floor, renamed}
use Rattle.contact.specs.Numbering.{number_of}
use Rattle.plan.specs.Words.{Plan, IsPlan}

-- the contact k is between the positions a and b
abbrev pub between : ℕ → ℕ → ℕ → Bool
between a b k = eqb k (a * 256 + b) || eqb k (b * 256 + a)

-- "a contact relation that is reflexive and symmetric"
unfoldable pub touching : Plan → ℕ → ℕ → Bool
touching p a b = eqb a b || any (between a b) p.contacts

-- the position lies in name i
unfoldable pub lies_in : Plan → ℕ → ℕ → Bool
lies_in p i a = bit (get_or p.points a 0) i

-- ---- contact is reflexive and symmetric
eqb_comm : (x y : ℕ) → eqb x y ≡ eqb y x
eqb_comm x y = go (dec_eq x y)
  where
    go : Dec (x ≡ y) → eqb x y ≡ eqb y x
    go (yes p) = eq-eqb x y p ∙ sym (eq-eqb y x (sym p))
    go (no p) = ne_eqb x y p ∙ sym (ne_eqb y x (λ z. p (sym z)))

between_comm : (a b : ℕ) (ks : List ℕ) → any (between a b) ks ≡ any (between b a) ks
between_comm a b ks =
    ap (λ (p : ℕ → Bool). any p ks) (fun_ext (λ k. or_comm (eqb k (a * 256 + b)) (eqb k (b * 256 + a))))

pub touching_self : (p : Plan) (a : ℕ) → touching p a a ≡ true
unfolding touching
touching_self p a = or_inl (eqb a a) (any (between a a) p.contacts) (eq-eqb a a refl)

pub touching_comm : (p : Plan) (a b : ℕ) → touching p a b ≡ touching p b a
unfolding touching
touching_comm p a b = ap₂ ◌||◌ (eqb_comm a b) (between_comm a b p.contacts)

-- ---- the floor
-- the floor of a plan; a floor has in it the proofs of what its contact relation is
unfoldable pub plan_floor : (p : Plan) → IsPlan p → Floor ℕ
plan_floor p h =
    record {
      points = length p.points;
      some = h.some;
      touch = touching p;
      reflexive = λ a l. touching_self p a;
      symmetric = λ a b l m e. sym (touching_comm p a b) ∙ e;
      lies = lies_in p;
    }

-- the same over the names of rules, each at its number
abbrev pub named_floor : List (Formula Name) → (p : Plan) → IsPlan p → Floor Name
named_floor rules p h = renamed (number_of rules) (plan_floor p h)
