-- Terms and formulas as values of one kind: both trees and both relations by the ranks of the machine, so that what holds
-- of both is proved once. Each constructor of the two relations is said again by rank. Assumes nothing.
use Prim.Native.Nat.{ℕ, suc, ◌+◌, ◌-◌, ◌≤◌}
use native.Mathlib.Omega.{arith}
use mathlib.Core.Path.{◌≡◌, refl, subst}
use mathlib.Core.List.{List, [], ◌∷◌, ◌++◌}
use mathlib.Core.Bool.{Bool, true, false}
use Rattle.formula.specs.declared.Sign.{Sign}
use Rattle.formula.specs.declared.Sign.TheVariants.{Implies, Iff, Or, And, Plus, Times}
use Rattle.formula.specs.Sign.{joins_terms}
use Rattle.formula.specs.Formula.{Term, Atom, Form, Formula, Name}
use Rattle.syntax.specs.Symbol.{Leaf, Relation, leaf, opening, closing, comma, binary, constant, relation, contact, part}
use Rattle.syntax.specs.Grammar.{leaf_term, IsTerm, IsFormula, t_times, t_plus, t_parenthesis, t_looser, f_truth, f_falsity, f_contact, f_part, f_and, f_or, f_implies, f_iff, f_parenthesis, f_looser}
use Rattle.syntax.specs.Postfix.{term_after, formula_after}
use Rattle.syntax.specs.Machine.{Sym, rank_of, loosest}

-- the tree of a term (true), of a formula
abbrev pub Tree : Bool → Type 0
Tree true = Term Name
Tree false = Formula Name

-- the tightest rank of a term, of a formula
abbrev pub tightest_rank : Bool → ℕ
tightest_rank true = 6
tightest_rank false = 3

-- the tokens are the tree, at a rank
abbrev pub Reads : (s : Bool) → ℕ → List Sym → Tree s → Type 0
Reads true m ts t = IsTerm (m - 3) ts t
Reads false m ts f = IsFormula m ts f

-- a tree behind the symbols o
abbrev pub after : (s : Bool) → Tree s → List Sym → List Sym
after true t o = term_after t o
after false f o = formula_after f o

-- two trees under a binary sign
abbrev pub joined : (b : Sign) → Tree (joins_terms b) → Tree (joins_terms b) → Tree (joins_terms b)
joined Implies f g = Form.implication f g
joined Iff f g = Form.equivalence f g
joined Or f g = Form.disjunction f g
joined And f g = Form.conjunction f g
joined Plus t u = Term.union t u
joined Times t u = Term.intersection t u

-- T or F, and two terms under C or <=
abbrev pub constant_of : Bool → Formula Name
constant_of true = Form.truth
constant_of false = Form.falsity

abbrev pub related : Relation → Term Name → Term Name → Formula Name
related contact t u = Form.atom (Atom.contact t u)
related part t u = Form.atom (Atom.part t u)

-- ---- their postfix order
pub after_leaf : (x : Leaf Name) (o : List Sym) → term_after (leaf_term x) o ≡ o ++ leaf x ∷ []
unfolding term_after
after_leaf Leaf.zero o = refl
after_leaf Leaf.one o = refl
after_leaf (Leaf.name x) o = refl

pub after_constant : (c : Bool) (o : List Sym) → formula_after (constant_of c) o ≡ o ++ constant c ∷ []
unfolding formula_after
after_constant true o = refl
after_constant false o = refl

pub after_related : (c : Relation) (t u : Term Name) (o : List Sym) → formula_after (related c t u) o ≡ term_after u (term_after t o) ++ relation c ∷ []
unfolding formula_after
after_related contact t u o = refl
after_related part t u o = refl

pub after_joined : (b : Sign) (t u : Tree (joins_terms b)) (o : List Sym) → after (joins_terms b) (joined b t u) o ≡ after (joins_terms b) u (after (joins_terms b) t o) ++ binary b ∷ []
unfolding term_after formula_after
after_joined Implies f g o = refl
after_joined Iff f g o = refl
after_joined Or f g o = refl
after_joined And f g o = refl
after_joined Plus t u o = refl
after_joined Times t u o = refl

-- ---- the relations by rank
pub r_constant : (c : Bool) → Reads false 3 (constant c ∷ []) (constant_of c)
r_constant true = f_truth
r_constant false = f_falsity

pub r_related : (c : Relation) {ts us : List Sym} {t u : Term Name} → IsTerm 0 ts t → IsTerm 0 us u → Reads false 3 (relation c ∷ opening ∷ ts ++ (comma ∷ us ++ closing ∷ [])) (related c t u)
r_related contact g h = f_contact g h
r_related part g h = f_part g h

pub r_parenthesis : (s : Bool) (ts : List Sym) (t : Tree s) → Reads s (loosest s) ts t → Reads s (tightest_rank s) (opening ∷ ts ++ closing ∷ []) t
r_parenthesis true ts t g = t_parenthesis (t_looser g)
r_parenthesis false ts f g = f_parenthesis g

pub r_binary : (b : Sign) (ts us : List Sym) (t u : Tree (joins_terms b)) → Reads (joins_terms b) (rank_of b) ts t → Reads (joins_terms b) (suc (rank_of b)) us u → Reads (joins_terms b) (rank_of b) (ts ++ binary b ∷ us) (joined b t u)
r_binary Implies ts us f h x y = f_implies x y
r_binary Iff ts us f h x y = f_iff x y
r_binary Or ts us f h x y = f_or x y
r_binary And ts us f h x y = f_and x y
r_binary Plus ts us t u x y = t_plus x y
r_binary Times ts us t u x y = t_times x y

r_looser : (s : Bool) (l : ℕ) (ts : List Sym) (t : Tree s) → loosest s ≤ l → Reads s (suc l) ts t → Reads s l ts t
r_looser true l ts t h g = t_looser (subst (λ (n : ℕ). IsTerm n ts t) (let e : suc l - 3 ≡ suc (l - 3) = omega arith in e) g)
r_looser false l ts f h g = f_looser g

lower : (s : Bool) (l d : ℕ) (ts : List Sym) (t : Tree s) → loosest s ≤ l → Reads s (d + l) ts t → Reads s l ts t
lower s l ℕ.zero ts t a g = subst (λ (n : ℕ). Reads s n ts t) (omega arith) g
lower s l (suc d) ts t a g = lower s l d ts t a (r_looser s (d + l) ts t (omega arith) (subst (λ (n : ℕ). Reads s n ts t) (omega arith) g))

-- a value of a rank is one of each looser rank
pub to_rank : (s : Bool) (l m : ℕ) (ts : List Sym) (t : Tree s) → loosest s ≤ l → l ≤ m → Reads s m ts t → Reads s l ts t
to_rank s l m ts t a h g = lower s l (m - l) ts t a (subst (λ (n : ℕ). Reads s n ts t) (omega arith) g)
