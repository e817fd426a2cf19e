-- What a floor meets, and for which questions it counts, depends on how many points it has, which of them are in contact and where they lie,
-- and on nothing else: every search in the meaning, and every way, runs over the points alone. Assumes nothing.
use mathlib.Core.Bool.{Bool, not, ◌&&◌}
use mathlib.Core.Path.{◌≡◌, sym, ap, ap₂, ◌∙◌, fun_ext}
use mathlib.Core.List.{List, map}
use Prim.Native.Nat.{ℕ, ◌<◌}
use native.Mathlib.Omega.{arith}
use Rattle.formula.specs.Formula.{Term, Atom, Formula}
use Rattle.lists.specs.Search.{any, all, below}
use Rattle.lists.proofs.Search.{any_same, below_elim}
use Rattle.contact.specs.Meaning.{Floor, holds, within, is_empty, touches, part_term, atom_on, value, meets_all}
use Rattle.contact.specs.Question.{Question, plain, building, Way, stay, step, Shaped, Counts}
use Rattle.contact.proofs.Somewhere.{somewhere_same}

-- two floors with the same points, contacts and regions
pub record SameFloor {N : Type 0} (F G : Floor N) : Type 0 where
  pub points : F.points ≡ G.points
  pub touch : (p q : ℕ) → p < F.points → q < F.points → F.touch p q ≡ G.touch p q
  pub lies : (x : N) (p : ℕ) → p < F.points → F.lies x p ≡ G.lies x p

-- either way round
pub same_back : {N : Type 0} (F G : Floor N) → SameFloor F G → SameFloor G F
same_back F G same =
    let e : F.points ≡ G.points = same.points in
    record {
      points = sym e;
      touch = λ p q hp hq. sym (same.touch p q (omega arith) (omega arith));
      lies = λ x p hp. sym (same.lies x p (omega arith));
    }

module _ {N : Type 0} (F G : Floor N) (same : SameFloor F G) where
  within_same : (t : Term N) (p : ℕ) → p < F.points → within F t p ≡ within G t p
  within_same t p h = ap (λ (v : N → Bool). holds v t) (fun_ext (λ x. same.lies x p h))

  empty_same : (t : Term N) → is_empty F t ≡ is_empty G t
  empty_same t =
      ap not
      (any_same (within F t) (within G t) (below F.points) (λ p i. within_same t p (below_elim F.points p i))
      ∙ ap (λ (k : ℕ). any (within G t) (below k)) same.points)

  touches_same : (x y : Term N) → touches F x y ≡ touches G x y
  touches_same x y =
      any_same (λ p. within F x p && any (λ q. within F y q && F.touch p q) (below F.points))
      (λ p. within G x p && any (λ q. within G y q && G.touch p q) (below F.points)) (below F.points)
      (λ p i. let hp : p < F.points = below_elim F.points p i in
      ap₂ ◌&&◌ (within_same x p hp)
      (any_same (λ q. within F y q && F.touch p q) (λ q. within G y q && G.touch p q) (below F.points)
      (λ q j. let hq : q < F.points = below_elim F.points q j in
      ap₂ ◌&&◌ (within_same y q hq) (same.touch p q hp hq))))
      ∙ ap (λ (k : ℕ). any (λ p. within G x p && any (λ q. within G y q && G.touch p q) (below k)) (below k)) same.points

  atom_same : (a : Atom N) → atom_on F a ≡ atom_on G a
  atom_same (Atom.contact x y) = touches_same x y
  atom_same (Atom.part x y) = empty_same (part_term x y)
  atom_same (Atom.empty t) = empty_same t

  pub row_same : (atoms : List (Atom N)) → map (atom_on F) atoms ≡ map (atom_on G) atoms
  row_same atoms = ap (λ (v : Atom N → Bool). map v atoms) (fun_ext atom_same)

  pub meets_same : (rules : List (Formula N)) → meets_all F rules ≡ meets_all G rules
  meets_same rules = ap (λ (v : Atom N → Bool). all (value v) rules) (fun_ext atom_same)

  way_same : {p q : ℕ} → Way F p q → p < F.points → Way G p q
  way_same stay hp = stay
  way_same (step {p} {q} {r} hq t w) hp =
      let e : F.points ≡ G.points = same.points in
      let hg : q < G.points = omega arith in
      step hg (sym (same.touch p q hp hq) ∙ t) (way_same w hq)

  shaped_same : (q : Question) → Shaped q F → Shaped q G
  shaped_same plain h = tt
  shaped_same building h =
      λ p r hp hr. let e : F.points ≡ G.points = same.points in
      way_same (h p r (omega arith) (omega arith)) (omega arith)

  pub counts_same : (q : Question) (names : List N) → Counts q names F → Counts q names G
  counts_same q names c =
      record { somewhere = somewhere_same names F G same.points same.lies c.somewhere; shaped = shaped_same q c.shaped }
