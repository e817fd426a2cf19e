-- The names of a rule's text are those of its formula, in their order, and the names of the rules are found by going through the rules:
-- a token that is a name is a symbol that is one, and the names of the atoms are the names of the formula. Assumes nothing.
use mathlib.Core.Path.{◌≡◌, refl, ap, ap₂, ◌∙◌}
use mathlib.Core.List.{List, [], ◌∷◌, ◌++◌, map, map-append, append-nil}
use mathlib.Mathlib.Data.List.Basic.Function
use Prim.Native.Nat.{ℕ}
use Rattle.formula.specs.Formula.{Form, Formula, Name}
use Rattle.formula.specs.Atoms.{atoms_of}
use Rattle.formula.specs.Names.{atom_names, formula_names}
use Rattle.lexer.specs.Token.{Token, bytes_of}
use Rattle.syntax.specs.Symbol.{symbol_of}
use Rattle.syntax.specs.Postfix.{symbol_names, names_among}
use Rattle.syntax.specs.RuleText.{symbols_of, IsRule}
use Rattle.syntax.proofs.Claims.{token_names}
use Rattle.lists.specs.Search.{collect}
use Rattle.lists.proofs.Search.{collect_append}
use Rattle.contact.specs.Numbering.{all_atoms}
use Rattle.names.specs.Gather.{rule_tokens}
use Rattle.names.specs.Ninth.{names_at, NameAt, name_at, places_of}
use Rattle.names.proofs.Tokens.{tokens_of_rule}

-- ---- the names of a text

names_of_places : (s : List ℕ) (ts : List Token) → names_at (places_of s ts) ≡ names_among (symbols_of s ts)
unfolding places_of names_among
names_of_places s [] = refl
names_of_places s (t ∷ ts) =
    map-append (λ (x : NameAt). x.name) (map (name_at t.start) (symbol_names (symbol_of t.kind (bytes_of s t)))) (places_of s ts)
    ∙ ap₂ ◌++◌ (Function.LeftInverse-list-map (λ (x : NameAt). x.name) (name_at t.start) (λ w. refl) (symbol_names (symbol_of t.kind (bytes_of s t)))) (names_of_places s ts)

pub names_of_rule : (s : List ℕ) (f : Formula Name) → IsRule s f → names_at (places_of s (rule_tokens s)) ≡ formula_names f
names_of_rule s f h =
    ap (λ (ts : List Token). names_at (places_of s ts)) (tokens_of_rule s f h)
    ∙ names_of_places s h.cut_tokens
    ∙ token_names (symbols_of s h.cut_tokens) f h.derived

-- ---- the names of the rules

module _ {N : Type 0} where
  -- the two sides of a binary sign
  sides : (f g : Formula N) → collect atom_names (atoms_of f) ≡ formula_names f → collect atom_names (atoms_of g) ≡ formula_names g
      → collect atom_names (atoms_of f ++ atoms_of g) ≡ formula_names f ++ formula_names g
  sides f g p q = collect_append atom_names (atoms_of f) (atoms_of g) ∙ ap₂ ◌++◌ p q

  pub atoms_names : (f : Formula N) → collect atom_names (atoms_of f) ≡ formula_names f
  atoms_names Form.truth = refl
  atoms_names Form.falsity = refl
  atoms_names (Form.atom a) = append-nil (atom_names a)
  atoms_names (Form.negation f) = atoms_names f
  atoms_names (Form.conjunction f g) = sides f g (atoms_names f) (atoms_names g)
  atoms_names (Form.disjunction f g) = sides f g (atoms_names f) (atoms_names g)
  atoms_names (Form.implication f g) = sides f g (atoms_names f) (atoms_names g)
  atoms_names (Form.equivalence f g) = sides f g (atoms_names f) (atoms_names g)

-- the names of the rules, every place
abbrev pub every_name : List (Formula Name) → List Name
every_name rules = collect atom_names (all_atoms rules)

pub every_name_append : (rules more : List (Formula Name)) → every_name (rules ++ more) ≡ every_name rules ++ every_name more
every_name_append rules more = ap (collect atom_names) (collect_append atoms_of rules more) ∙ collect_append atom_names (all_atoms rules) (all_atoms more)

pub every_name_last : (rules : List (Formula Name)) (f : Formula Name) → every_name (rules ++ f ∷ []) ≡ every_name rules ++ formula_names f
every_name_last rules f =
    every_name_append rules (f ∷ [])
    ∙ ap (λ (l : List Name). every_name rules ++ l) (ap (collect atom_names) (append-nil (atoms_of f)) ∙ atoms_names f)
