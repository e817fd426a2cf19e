-- What is computed: Kleene's strong three values on two rails, surely true and surely false; a value that is on neither is undecided. The
-- value of a formula, and the stack machine that finds it from postfix code. Assumes nothing.
use Rattle.std.specs.Prelude.{Bool, true, false, not, ◌&&◌, ◌||◌, List, [], ◌∷◌, ℕ, zero, suc, get_or}
use Rattle.formula.specs.Formula.{Form}
use Rattle.evalset.specs.Bit.{bit}
use Rattle.contact.specs.Row.{Three, is, unknown}
use Rattle.kleene.specs.Code.{Class, turns, joins, pushes, class_of}

-- surely true, and surely false
pub data Duo : Type 0 where
  duo : Bool → Bool → Duo

abbrev pub yes_of : Duo → Bool
yes_of (duo y n) = y

abbrev pub no_of : Duo → Bool
no_of (duo y n) = n

abbrev pub sure : Bool → Duo
sure b = duo b (not b)

-- a value of the search's tables on two rails
abbrev pub duo_of : Three → Duo
duo_of (is b) = sure b
duo_of unknown = duo false false

-- ---- the connectives

abbrev pub not_d : Duo → Duo
not_d (duo y n) = duo n y

abbrev pub and_d : Duo → Duo → Duo
and_d (duo y n) (duo z m) = duo (y && z) (n || m)

abbrev pub or_d : Duo → Duo → Duo
or_d (duo y n) (duo z m) = duo (y || z) (n && m)

abbrev pub implies_d : Duo → Duo → Duo
implies_d (duo y n) (duo z m) = duo (n || z) (y && m)

abbrev pub iff_d : Duo → Duo → Duo
iff_d (duo y n) (duo z m) = duo ((y && z) || (n && m)) ((y && m) || (n && z))

-- the value of a formula whose atoms have the values v
unfoldable pub value_d : (ℕ → Duo) → Form ℕ → Duo
value_d v Form.truth = sure true
value_d v Form.falsity = sure false
value_d v (Form.atom i) = v i
value_d v (Form.negation f) = not_d (value_d v f)
value_d v (Form.conjunction f g) = and_d (value_d v f) (value_d v g)
value_d v (Form.disjunction f g) = or_d (value_d v f) (value_d v g)
value_d v (Form.implication f g) = implies_d (value_d v f) (value_d v g)
value_d v (Form.equivalence f g) = iff_d (value_d v f) (value_d v g)

-- ---- the machine

-- the table of the sign c, one of 1 to 4
abbrev pub table_of : ℕ → Duo → Duo → Duo
table_of zero a b = duo false false
table_of (suc zero) a b = and_d a b
table_of (suc (suc zero)) a b = or_d a b
table_of (suc (suc (suc zero))) a b = implies_d a b
table_of (suc (suc (suc (suc c)))) a b = iff_d a b

-- what the sign c, from 5 up, pushes: a constant, or an atom's value
abbrev pub push_of : (ℕ → Duo) → ℕ → Duo
push_of v zero = duo false false
push_of v (suc zero) = duo false false
push_of v (suc (suc zero)) = duo false false
push_of v (suc (suc (suc zero))) = duo false false
push_of v (suc (suc (suc (suc zero)))) = duo false false
push_of v (suc (suc (suc (suc (suc zero))))) = sure false
push_of v (suc (suc (suc (suc (suc (suc zero)))))) = sure true
push_of v (suc (suc (suc (suc (suc (suc (suc i))))))) = v i

abbrev pub turned : List Duo → List Duo
turned [] = []
turned (a ∷ st) = not_d a ∷ st

abbrev pub joined : (Duo → Duo → Duo) → List Duo → List Duo
joined f [] = []
joined f (b ∷ []) = []
joined f (b ∷ (a ∷ st)) = f a b ∷ st

abbrev pub step_by : Class → (ℕ → Duo) → ℕ → List Duo → List Duo
step_by turns v c st = turned st
step_by joins v c st = joined (table_of c) st
step_by pushes v c st = push_of v c ∷ st

-- one sign on a stack whose top is its head
abbrev pub step : (ℕ → Duo) → ℕ → List Duo → List Duo
step v c st = step_by (class_of c) v c st

-- the whole code
unfoldable pub exec : (ℕ → Duo) → List ℕ → List Duo → List Duo
exec v [] st = st
exec v (c ∷ cs) st = exec v cs (step v c st)

-- ---- machine words on one rail: a value for each row, where every atom is decided

-- so many rows a word has a value for
abbrev pub word_rows : ℕ
word_rows = 64

-- the atoms' values in row e: bit e of their words
abbrev pub whole_at : List ℕ → ℕ → ℕ → Duo
whole_at leaves e i = sure (bit (get_or leaves i 0) e)

-- ---- machine words on two rails: a value for each partial row

-- the atoms' values in row e: bit e of their two words
abbrev pub rails_at : List ℕ → List ℕ → ℕ → ℕ → Duo
rails_at ts fs e i = duo (bit (get_or ts i 0) e) (bit (get_or fs i 0) e)
