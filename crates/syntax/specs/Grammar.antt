-- What is meant: the grammar of rule text: which tokens are which term, which formula, at which of the four binding levels. "Binding,
-- loosest first: "->" and "<->" on one level, then | and +, then & and *, then ~ and -. Binary signs group to the left, "->" too." What is
-- of one level is of each looser one. Assumes nothing.
use Rattle.std.specs.Prelude.{true, false, List, [], ◌∷◌, ◌++◌, ℕ, suc}
use Rattle.formula.specs.declared.Sign.TheVariants.{Implies, Iff, Or, And, Plus, Times}
use Rattle.formula.specs.Sign.{level_of, tightest}
use Rattle.formula.specs.Formula.{Term, Atom, Form, Formula}
use Rattle.syntax.specs.Symbol.{Leaf, Symbol, leaf, minus, tilde, opening, closing, comma, is_zero, binary, constant, relation, contact, part}

-- the term that is a leaf
abbrev pub leaf_term : {N : Type 0} → Leaf N → Term N
leaf_term Leaf.zero = Term.zero
leaf_term Leaf.one = Term.one
leaf_term (Leaf.name x) = Term.name x

-- "Terms: 0, 1, a name, -t, t*t, t+t, (t)."
pub data IsTerm {N : Type 0} : ℕ → List (Symbol N) → Term N → Type 0 where
  t_leaf : {x : Leaf N} → IsTerm tightest (leaf x ∷ []) (leaf_term x)
  t_minus : {ts : List (Symbol N)} {t : Term N} → IsTerm tightest ts t → IsTerm tightest (minus ∷ ts) (Term.complement t)
  t_times : {ts us : List (Symbol N)} {t u : Term N} → IsTerm (level_of Times) ts t → IsTerm (suc (level_of Times)) us u → IsTerm (level_of Times) (ts ++ binary Times ∷ us) (Term.intersection t u)
  t_plus : {ts us : List (Symbol N)} {t u : Term N} → IsTerm (level_of Plus) ts t → IsTerm (suc (level_of Plus)) us u → IsTerm (level_of Plus) (ts ++ binary Plus ∷ us) (Term.union t u)
  t_parenthesis : {ts : List (Symbol N)} {t : Term N} → IsTerm 0 ts t → IsTerm tightest (opening ∷ ts ++ closing ∷ []) t
  t_looser : {l : ℕ} {ts : List (Symbol N)} {t : Term N} → IsTerm (suc l) ts t → IsTerm l ts t

-- "Formulas: T, F, C(t,t), <=(t,t), t=0, ~f, f&f, f|f, f->f, f<->f, (f)." ""=0" takes the whole term before it."
pub data IsFormula {N : Type 0} : ℕ → List (Symbol N) → Formula N → Type 0 where
  f_truth : IsFormula tightest (constant true ∷ []) Form.truth
  f_falsity : IsFormula tightest (constant false ∷ []) Form.falsity
  f_contact : {ts us : List (Symbol N)} {t u : Term N} → IsTerm 0 ts t → IsTerm 0 us u → IsFormula tightest (relation contact ∷ opening ∷ ts ++ (comma ∷ us ++ closing ∷ [])) (Form.atom (Atom.contact t u))
  f_part : {ts us : List (Symbol N)} {t u : Term N} → IsTerm 0 ts t → IsTerm 0 us u → IsFormula tightest (relation part ∷ opening ∷ ts ++ (comma ∷ us ++ closing ∷ [])) (Form.atom (Atom.part t u))
  f_empty : {ts : List (Symbol N)} {t : Term N} → IsTerm 0 ts t → IsFormula tightest (ts ++ is_zero ∷ []) (Form.atom (Atom.empty t))
  f_tilde : {ts : List (Symbol N)} {f : Formula N} → IsFormula tightest ts f → IsFormula tightest (tilde ∷ ts) (Form.negation f)
  f_and : {ts us : List (Symbol N)} {f g : Formula N} → IsFormula (level_of And) ts f → IsFormula (suc (level_of And)) us g → IsFormula (level_of And) (ts ++ binary And ∷ us) (Form.conjunction f g)
  f_or : {ts us : List (Symbol N)} {f g : Formula N} → IsFormula (level_of Or) ts f → IsFormula (suc (level_of Or)) us g → IsFormula (level_of Or) (ts ++ binary Or ∷ us) (Form.disjunction f g)
  f_implies : {ts us : List (Symbol N)} {f g : Formula N} → IsFormula (level_of Implies) ts f → IsFormula (suc (level_of Implies)) us g → IsFormula (level_of Implies) (ts ++ binary Implies ∷ us) (Form.implication f g)
  f_iff : {ts us : List (Symbol N)} {f g : Formula N} → IsFormula (level_of Iff) ts f → IsFormula (suc (level_of Iff)) us g → IsFormula (level_of Iff) (ts ++ binary Iff ∷ us) (Form.equivalence f g)
  f_parenthesis : {ts : List (Symbol N)} {f : Formula N} → IsFormula 0 ts f → IsFormula tightest (opening ∷ ts ++ closing ∷ []) f
  f_looser : {l : ℕ} {ts : List (Symbol N)} {f : Formula N} → IsFormula (suc l) ts f → IsFormula l ts f

-- the tokens are the formula; "the reading is unique": they are one at most (`one_reading` of proofs/Claims.antt)
abbrev pub Derives : {N : Type 0} → List (Symbol N) → Formula N → Type 0
Derives ts f = IsFormula 0 ts f

-- the tokens begin a formula: some tokens after them make one
abbrev pub Begins : {N : Type 0} → List (Symbol N) → Type 0
Begins {N} ts = (rest : List (Symbol N)) × (f : Formula N) × Derives (ts ++ rest) f
