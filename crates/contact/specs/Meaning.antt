-- What is meant: document 01, 'Meaning': floors, and what a rule says of one. Assumes nothing.
use Rattle.std.specs.Prelude.{Bool, true, false, not, ◌&&◌, ◌||◌, ◌≡◌, List, ℕ, ◌<◌}
use Rattle.std.specs.Bool.{beq}
use Rattle.formula.specs.Formula.{Term, Atom, Form, Formula}
use Rattle.lists.specs.Search.{any, all, below}

-- "A plan, and a finite floor is nothing else here, has a finite number of points, at least one, a contact relation that is
-- reflexive and symmetric, and for each name a set of points."
pub record Floor (N : Type 0) : Type 0 where
  pub points : ℕ
  pub some : 0 < points
  pub touch : ℕ → ℕ → Bool
  pub reflexive : (p : ℕ) → p < points → touch p p ≡ true
  pub symmetric : (p q : ℕ) → p < points → q < points → touch p q ≡ true → touch q p ≡ true
  pub lies : N → ℕ → Bool

module _ {N : Type 0} where
  -- "On terms, - is complement, * intersection, + union." A point that lies in the names x with v x lies in the term.
  abbrev pub holds : (N → Bool) → Term N → Bool
  holds v Term.zero = false
  holds v Term.one = true
  holds v (Term.name x) = v x
  holds v (Term.complement t) = not (holds v t)
  holds v (Term.intersection s t) = holds v s && holds v t
  holds v (Term.union s t) = holds v s || holds v t

  -- the point p of the floor lies in the term
  abbrev pub within : Floor N → Term N → ℕ → Bool
  within F t p = holds (λ x. F.lies x p) t

  -- "t=0 holds if t is empty."
  abbrev pub is_empty : Floor N → Term N → Bool
  is_empty F t = not (any (within F t) (below F.points))

  -- "C(x,y) holds if a point of x is in contact with a point of y."
  abbrev pub touches : Floor N → Term N → Term N → Bool
  touches F x y = any (λ p. within F x p && any (λ q. within F y q && F.touch p q) (below F.points)) (below F.points)

  -- "<=(x,y) means x*-y=0."
  abbrev pub part_term : Term N → Term N → Term N
  part_term x y = Term.intersection x (Term.complement y)

  -- the value of an atom on the floor
  abbrev pub atom_on : Floor N → Atom N → Bool
  atom_on F (Atom.contact x y) = touches F x y
  atom_on F (Atom.part x y) = is_empty F (part_term x y)
  atom_on F (Atom.empty t) = is_empty F t

-- "The connectives are the usual ones." The value of a formula whose atoms have the values v.
module _ {A : Type 0} where
  abbrev pub value : (A → Bool) → Form A → Bool
  value v Form.truth = true
  value v Form.falsity = false
  value v (Form.atom a) = v a
  value v (Form.negation f) = not (value v f)
  value v (Form.conjunction f g) = value v f && value v g
  value v (Form.disjunction f g) = value v f || value v g
  value v (Form.implication f g) = not (value v f) || value v g
  value v (Form.equivalence f g) = beq (value v f) (value v g)

module _ {N : Type 0} where
  -- the floor meets a rule
  abbrev pub meets : Floor N → Formula N → Bool
  meets F f = value (atom_on F) f

  -- "A plan meets a table if it meets every rule."
  abbrev pub meets_all : Floor N → List (Formula N) → Bool
  meets_all F rules = all (meets F) rules

module _ {N M : Type 0} (g : N → M) where
  -- the floor over the names N in which x is what g x is
  abbrev pub renamed : Floor M → Floor N
  renamed F =
      record {
        points = F.points;
        some = F.some;
        touch = F.touch;
        reflexive = F.reflexive;
        symmetric = F.symmetric;
        lies = λ x p. F.lies (g x) p;
      }
