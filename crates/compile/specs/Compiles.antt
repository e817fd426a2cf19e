-- For proofs: the contract of `compile_rule`, which only our own crates call: what the compiler is asked and answers, over every formula,
-- numbering of its names, and list of atoms before it. Assumes nothing.
use Rattle.std.specs.Prelude.{Option, IfSome, is_some, ◌≡◌, ℕ, ◌+◌, ◌≤◌, ◌<◌, leb, length}
use mathlib.Core.List.{List, map, foldl}
use Rattle.std.proofs.lemmas.List.Edits.{sets}
use Rattle.lists.specs.Search.{In}
use Rattle.formula.specs.Formula.{Atom, Form, Formula, Name}
use Rattle.formula.specs.Atoms.{atoms_of}
use Rattle.formula.specs.Names.{formula_names}
use Rattle.syntax.specs.Postfix.{postfix}
use Rattle.syntax.specs.Reader.{codes}
use Rattle.evalset.specs.Most.{most}
use Rattle.contact.specs.Numbering.{map_form, map_atom}
use Rattle.search.specs.declared.Chart.{Chart}
use Rattle.spelling.specs.Kept.{Keeps}
use Rattle.kleene.specs.Code.{postfix as postfixCode}
use Rattle.compile.specs.declared.Atoms.{Atoms}
use Rattle.compile.specs.declared.CompiledRule.{CompiledRule}
use Rattle.compile.specs.Chart.{CompiledFrom}
use Rattle.compile.specs.Machine.{with_put, place_in}

-- what is handed on as one value
abbrev pub atoms_with : Chart → List ℕ → Atoms
atoms_with chart lens = record { chart = chart; lens = lens }

abbrev pub rule_with : Chart → List ℕ → ℕ → CompiledRule
rule_with chart lens end = record { atoms = atoms_with chart lens; end = end }

-- the atoms once those of the formula, its names numbered by g, are put behind them: "atoms that are the same count as one"
abbrev pub atoms_after : (Name → ℕ) → Formula Name → List (Atom ℕ) → List (Atom ℕ)
atoms_after g f atoms = foldl with_put atoms (atoms_of (map_form (map_atom g) f))

-- the formula with the number of each atom among them
abbrev pub numbers_after : (Name → ℕ) → Formula Name → List (Atom ℕ) → Form ℕ
numbers_after g f atoms = map_form (place_in (atoms_after g f atoms)) (map_form (map_atom g) f)

-- its code
abbrev pub code_after : (Name → ℕ) → Formula Name → List (Atom ℕ) → List ℕ
code_after g f atoms = postfixCode (numbers_after g f atoms)

-- the order and the numbers are those of the formula, and the arrays those of the atoms
pub record Given (order numbers : List ℕ) (a : Atoms) (kept : List ℕ) (f : Formula Name) (g : Name → ℕ) (atoms : List (Atom ℕ)) : Type 0 where
  pub order_is : order ≡ codes (postfix f)
  pub numbers_are : numbers ≡ map g (formula_names f)
  pub small : (x : Name) → In x (formula_names f) → g x < most
  pub compiled : CompiledFrom a.chart atoms
  pub keeps : Keeps kept a.lens a.chart.contact atoms

-- there are such a formula, numbering and atoms, and the code has room
pub record Asked (order numbers : List ℕ) (a : Atoms) (kept buf : List ℕ) (from : ℕ) : Type 0 where
  pub formula : Formula Name
  pub numbering : Name → ℕ
  pub atoms : List (Atom ℕ)
  pub given : Given order numbers a kept formula numbering atoms
  pub short : length order ≤ 256
  pub fits : from + length order ≤ length buf

-- the formula's atoms and code stand behind those before, and all else is as it was
pub record Result (f : Formula Name) (g : Name → ℕ) (atoms : List (Atom ℕ)) (a : Atoms) (buf : List ℕ) (from : ℕ) (r : CompiledRule) (keptOut out : List ℕ) : Type 0 where
  pub names_kept : r.atoms.chart.names ≡ a.chart.names
  pub compiled : CompiledFrom r.atoms.chart (atoms_after g f atoms)
  pub keeps : Keeps keptOut r.atoms.lens r.atoms.chart.contact (atoms_after g f atoms)
  pub ends : r.end ≡ from + length (code_after g f atoms)
  pub wrote : out ≡ sets buf from (code_after g f atoms)

-- for each formula, numbering and atoms that were given, there is an answer exactly if sixteen atoms are enough, and it is right
unfoldable pub Compiles : List ℕ → List ℕ → Atoms → List ℕ → List ℕ → ℕ → Option CompiledRule → List ℕ → List ℕ → Type 0
Compiles order numbers a kept buf from r keptOut out =
    (f : Formula Name) (g : Name → ℕ) (atoms : List (Atom ℕ)) → Given order numbers a kept f g atoms
    → (is_some r ≡ leb (length (atoms_after g f atoms)) 16) × IfSome r (λ c. Result f g atoms a buf from c keptOut out)
