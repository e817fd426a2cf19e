-- What is meant: "Terms: 0, 1, a name, -t, t*t, t+t, (t). Formulas: T, F, C(t,t), <=(t,t), t=0, ~f, f&f, f|f, f->f, f<->f, (f)." Trees over
-- the type of names; a parenthesis leaves no trace in them. Assumes nothing.
use Rattle.std.specs.Prelude.{List, ℕ}

pub data Term (N : Type 0) : Type 0 where
  zero : Term N
  one : Term N
  name : N → Term N
  complement : Term N → Term N
  intersection : Term N → Term N → Term N
  union : Term N → Term N → Term N
  deriving Discrete as Term-discrete

-- "An atom is a C, <= or =0 place in a rule; every place counts."
pub data Atom (N : Type 0) : Type 0 where
  contact : Term N → Term N → Atom N
  part : Term N → Term N → Atom N
  empty : Term N → Atom N
  deriving Discrete as Atom-discrete

-- over the atoms as written, or over their numbers
pub data Form (A : Type 0) : Type 0 where
  truth : Form A
  falsity : Form A
  atom : A → Form A
  negation : Form A → Form A
  conjunction : Form A → Form A → Form A
  disjunction : Form A → Form A → Form A
  implication : Form A → Form A → Form A
  equivalence : Form A → Form A → Form A

-- a formula as read: its atoms are over names
abbrev pub Formula : Type 0 → Type 0
Formula N = Form (Atom N)

-- as read, a name is its bytes
abbrev pub Name : Type 0
Name = List ℕ
