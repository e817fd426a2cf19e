-- What is meant: document 01, 'The plan that is given': of the points that paper gives the rule itself, and `separated`, `allowed`, `gives` and
-- `given` are its sentences; and document 02's sentences on the points of one building, `Linked`, `IsPiece` and `IsThePiece`. `ArePoints` says
-- for each question what the points are. Rules and atoms have numbers for names. Facts hold for any number of names. Assumes nothing.
use Rattle.std.specs.Prelude.{Bool, true, false, not, ◌&&◌, ◌||◌, ◌≡◌, ◌↔◌, List, [], ◌∷◌, map, ℕ, suc, ◌^◌, ◌≤◌, ◌<◌, eqb, ltb}
use Rattle.formula.specs.Formula.{Term, Atom}
use Rattle.lists.specs.Search.{In, any, first, keep, or_else, collect, below, elem}
use Rattle.evalset.specs.Bit.{bit}
use Rattle.contact.specs.Meaning.{holds, part_term}
use Rattle.contact.specs.Question.{Question, plain, building}
use Rattle.contact.specs.Row.{Row, is, unknown, PartialRow}

-- "An evaluation is a number whose bit i is set if the point lies in name i." The term holds there.
abbrev pub at : Term ℕ → ℕ → Bool
at t e = holds (λ i. bit e i) t

-- the set holds the term's evaluations, of those over so many names
abbrev pub Means : ℕ → (ℕ → Bool) → Term ℕ → Type 0
Means names x t = (e : ℕ) → e < 2 ^ names → x e ≡ at t e

-- all evaluations, ascending
abbrev pub evaluations : ℕ → List ℕ
evaluations names = below (2 ^ names)

-- an atom with its value: a true or false contact, a true or false zero atom. "Zero atoms, true or false, are the =0 atoms
-- and the <= atoms, the term of <=(x,y) being x*-y."
pub data Mark : Type 0 where
  touching : Term ℕ → Term ℕ → Mark
  apart : Term ℕ → Term ℕ → Mark
  vacant : Term ℕ → Mark
  inhabited : Term ℕ → Mark

-- a zero atom of this term and value
abbrev pub zero_mark : Bool → Term ℕ → Mark
zero_mark true t = vacant t
zero_mark false t = inhabited t

-- an atom and its value
abbrev pub mark : Atom ℕ → Bool → Mark
mark (Atom.contact x y) true = touching x y
mark (Atom.contact x y) false = apart x y
mark (Atom.part x y) b = zero_mark b (part_term x y)
mark (Atom.empty t) b = zero_mark b t

-- the marks of the decided atoms
abbrev pub marks_of : List (Atom ℕ) → PartialRow → List Mark
marks_of [] part = []
marks_of (a ∷ atoms) [] = []
marks_of (a ∷ atoms) (is b ∷ part) = mark a b ∷ marks_of atoms part
marks_of (a ∷ atoms) (unknown ∷ part) = marks_of atoms part

-- the marks of a whole row
abbrev pub row_marks : List (Atom ℕ) → Row → List Mark
row_marks atoms row = marks_of atoms (map is row)

-- "Two evaluations are separated if a false contact has one in its first term and the other in its second, either way round."
abbrev pub parts : ℕ → ℕ → Mark → Bool
parts e f (touching x y) = false
parts e f (apart x y) = (at x e && at y f) || (at x f && at y e)
parts e f (vacant t) = false
parts e f (inhabited t) = false

-- some mark separates them
unfoldable pub separated : List Mark → ℕ → ℕ → Bool
separated ms e f = any (parts e f) ms

-- a true zero term has the evaluation in it
abbrev pub empties : ℕ → Mark → Bool
empties e (touching x y) = false
empties e (apart x y) = false
empties e (vacant t) = at t e
empties e (inhabited t) = false

-- the evaluations that a point may have: "below 2^names", and document 02's, T-07: "Where a name is used, evaluation 0 is not allowed."
unfoldable pub may : ℕ → ℕ → Bool
may names e = ltb e (2 ^ names) && (eqb names 0 || not (eqb e 0))

-- "An evaluation is allowed if it is below 2^names, in no true zero term and not separated from itself."
unfoldable pub allowed : ℕ → List Mark → ℕ → Bool
allowed names ms e = may names e && (not (any (empties e) ms) && not (separated ms e e))

-- allowed, and in the term
unfoldable pub fills : ℕ → List Mark → Term ℕ → ℕ → Bool
fills names ms t e = allowed names ms e && at t e

-- q is "an allowed, unseparated partner" of p in the term
unfoldable pub partners : ℕ → List Mark → Term ℕ → ℕ → ℕ → Bool
partners names ms y p q = fills names ms y q && not (separated ms p q)

-- p is an allowed evaluation in the first term with a partner in the second
unfoldable pub leads : ℕ → List Mark → Term ℕ → Term ℕ → ℕ → Bool
leads names ms x y p = fills names ms x p && any (partners names ms y p) (evaluations names)

-- p, "and then its least partner"
abbrev pub with_partner : ℕ → List Mark → Term ℕ → ℕ → List ℕ
with_partner names ms y p = p ∷ first (partners names ms y p) (evaluations names)

-- "Each false zero atom gives the least allowed evaluation in its term .. Each true contact gives p, the least allowed one in
-- its first term with an allowed, unseparated partner in the second, and then its least partner."
abbrev pub gives : ℕ → List Mark → Mark → List ℕ
gives names ms (touching x y) = collect (with_partner names ms y) (first (leads names ms x y) (evaluations names))
gives names ms (apart x y) = []
gives names ms (vacant t) = []
gives names ms (inhabited t) = first (fills names ms t) (evaluations names)

-- "The points are these evaluations ..; if there are none, the least allowed evaluation."
unfoldable pub given : ℕ → List Mark → List ℕ
given names ms = or_else (collect (gives names ms) ms) (first (allowed names ms) (evaluations names))

-- ---- one building

-- "unseparated contact" leads from e to f: through allowed evaluations, each unseparated from the one before it
pub data Linked (names : ℕ) (ms : List Mark) (e : ℕ) : ℕ → Type 0 where
  start : Linked names ms e e
  onward : {f g : ℕ} → Linked names ms e f → allowed names ms g ≡ true → separated ms f g ≡ false → Linked names ms e g

-- one of "the pieces into which the allowed evaluations fall under unseparated contact": the one that the allowed evaluation e lies in
pub record IsPiece (names : ℕ) (ms : List Mark) (e : ℕ) (piece : List ℕ) : Type 0 where
  pub ok : allowed names ms e ≡ true
  pub whole : (f : ℕ) → In f piece ↔ Linked names ms e f

-- the set meets the mark: a true contact by two of it that are unseparated, a false zero atom by one in its term
abbrev pub met : List Mark → List ℕ → Mark → Bool
met ms set (touching x y) = any (λ e. at x e && any (λ f. at y f && not (separated ms e f)) set) set
met ms set (apart x y) = true
met ms set (vacant t) = true
met ms set (inhabited t) = any (at t) set

-- it "meets the row's true contacts and false zero atoms"
abbrev pub MeetsMarks : List Mark → List ℕ → Type 0
MeetsMarks ms set = (m : Mark) → In m ms → met ms set m ≡ true

-- "the points are the whole piece that meets the row's true contacts and false zero atoms; of several, the one with the least evaluation":
-- the piece of an evaluation that is at most every evaluation of every piece that meets them
pub record IsThePiece (names : ℕ) (ms : List Mark) (points : List ℕ) : Type 0 where
  pub least : ℕ
  pub piece : IsPiece names ms least points
  pub meets : MeetsMarks ms points
  pub earliest : (d : ℕ) (others : List ℕ) → IsPiece names ms d others → MeetsMarks ms others → least ≤ d

-- ---- the points, for each question

-- they are the evaluations given, or the piece
abbrev pub AreGiven : Question → ℕ → List Mark → List ℕ → Type 0
AreGiven plain names ms points = (e : ℕ) → In e points ↔ In e (given names ms)
AreGiven building names ms points = IsThePiece names ms points

-- "The points are these evaluations, ascending, each once": the list is that of the evaluations, in their order, that are in it
pub record ArePoints (q : Question) (names : ℕ) (ms : List Mark) (points : List ℕ) : Type 0 where
  pub ascending : points ≡ keep (λ e. elem e points) (evaluations names)
  pub given : AreGiven q names ms points

-- "With c true contacts and z false zero atoms there are at most max(1, 2 times c + z) points."
abbrev pub true_contacts : List Mark → ℕ
true_contacts [] = 0
true_contacts (touching x y ∷ ms) = suc (true_contacts ms)
true_contacts (apart x y ∷ ms) = true_contacts ms
true_contacts (vacant t ∷ ms) = true_contacts ms
true_contacts (inhabited t ∷ ms) = true_contacts ms

abbrev pub false_zeros : List Mark → ℕ
false_zeros [] = 0
false_zeros (touching x y ∷ ms) = false_zeros ms
false_zeros (apart x y ∷ ms) = false_zeros ms
false_zeros (vacant t ∷ ms) = false_zeros ms
false_zeros (inhabited t ∷ ms) = suc (false_zeros ms)
