-- What is meant: the alphabet of the grammar: tokens as what they say, a name by itself, with no place in a text. Only the reader needs
-- `kind_of`. Assumes nothing.
use Rattle.std.specs.Prelude.{Bool, true, false, List, [], ◌∷◌}
use Rattle.formula.specs.declared.Sign.{Sign}
use Rattle.formula.specs.declared.Sign.TheVariants.{Implies, Iff, Or, And, Plus, Times}
use Rattle.formula.specs.Formula.{Name}
use Rattle.lexer.specs.declared.Kind.{Kind}

-- 0, 1 or a name
pub data Leaf (N : Type 0) : Type 0 where
  zero : Leaf N
  one : Leaf N
  name : N → Leaf N

-- C or <=
pub data Relation : Type 0 where
  contact : Relation
  part : Relation

-- constant true is T, constant false is F; is_zero is =0; tilde is ~
pub data Symbol (N : Type 0) : Type 0 where
  leaf : Leaf N → Symbol N
  minus : Symbol N
  tilde : Symbol N
  opening : Symbol N
  closing : Symbol N
  comma : Symbol N
  is_zero : Symbol N
  binary : Sign → Symbol N
  constant : Bool → Symbol N
  relation : Relation → Symbol N

-- a token of a kind whose bytes are w
abbrev pub symbol_of : Kind → Name → Symbol Name
symbol_of Kind.Implies w = binary Implies
symbol_of Kind.Iff w = binary Iff
symbol_of Kind.Or w = binary Or
symbol_of Kind.And w = binary And
symbol_of Kind.Plus w = binary Plus
symbol_of Kind.Times w = binary Times
symbol_of Kind.Minus w = minus
symbol_of Kind.Not w = tilde
symbol_of Kind.Open w = opening
symbol_of Kind.Close w = closing
symbol_of Kind.IsZero w = is_zero
symbol_of Kind.Comma w = comma
symbol_of Kind.Truth w = constant true
symbol_of Kind.Falsity w = constant false
symbol_of Kind.Contact w = relation contact
symbol_of Kind.Part w = relation part
symbol_of Kind.Zero w = leaf zero
symbol_of Kind.One w = leaf one
symbol_of Kind.Name w = leaf (name w)

-- the kind of token that a symbol is
abbrev pub kind_of : {N : Type 0} → Symbol N → Kind
kind_of (leaf zero) = Kind.Zero
kind_of (leaf one) = Kind.One
kind_of (leaf (name x)) = Kind.Name
kind_of minus = Kind.Minus
kind_of tilde = Kind.Not
kind_of opening = Kind.Open
kind_of closing = Kind.Close
kind_of comma = Kind.Comma
kind_of is_zero = Kind.IsZero
kind_of (binary Implies) = Kind.Implies
kind_of (binary Iff) = Kind.Iff
kind_of (binary Or) = Kind.Or
kind_of (binary And) = Kind.And
kind_of (binary Plus) = Kind.Plus
kind_of (binary Times) = Kind.Times
kind_of (constant true) = Kind.Truth
kind_of (constant false) = Kind.Falsity
kind_of (relation contact) = Kind.Contact
kind_of (relation part) = Kind.Part

-- the name that a symbol is; none of another symbol
module _ {N : Type 0} where
  abbrev pub leaf_names : Leaf N → List N
  leaf_names Leaf.zero = []
  leaf_names Leaf.one = []
  leaf_names (Leaf.name x) = x ∷ []

  abbrev pub symbol_names : Symbol N → List N
  symbol_names (leaf x) = leaf_names x
  symbol_names minus = []
  symbol_names tilde = []
  symbol_names opening = []
  symbol_names closing = []
  symbol_names comma = []
  symbol_names is_zero = []
  symbol_names (binary b) = []
  symbol_names (constant b) = []
  symbol_names (relation c) = []
