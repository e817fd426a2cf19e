-- What is proved of compiling: the pass over a formula's order puts its atoms behind those before and makes its code, no longer than the
-- order; a compiled chart has at each evaluation what the terms say; and what was read can be compiled. Assumes nothing.
use mathlib.Core.Bool.{Bool, ◌&&◌}
use mathlib.Core.Path.{◌≡◌, sym, ap, subst, ◌∙◌}
use mathlib.Core.List.{List, [], foldl}
use mathlib.Mathlib.Logic.Function.Defs.{congr_fun}
use Prim.Native.Nat.{ℕ, ◌≤◌, ◌<◌}
use native.Mathlib.Omega.{arith}
use lib.ListN.{length, take}
use borrow.Author.Tests.{lt-ltb}
use Rattle.lists.specs.Padded.{pad}
use Rattle.lists.proofs.Padded.{pad_taken, pad_within}
use Rattle.formula.specs.Formula.{Term, Atom, Formula, Name}
use Rattle.formula.specs.Atoms.{atoms_of}
use Rattle.syntax.specs.Postfix.{postfix}
use Rattle.syntax.specs.RuleText.{IsRule}
use Rattle.syntax.specs.Reader.{codes}
use Rattle.syntax.specs.Rule.{rule_of}
use Rattle.syntax.specs.declared.Rule.{Rule}
use Rattle.syntax.proofs.Claims.{length_codes, text_read}
use Rattle.evalset.specs.Sets.{room, mem_at}
use Rattle.contact.specs.Numbering.{map_atom, map_form}
use Rattle.contact.specs.Plan.{at}
use Rattle.search.specs.declared.Chart.{Chart}
use Rattle.search.specs.Compiled.{atom_at}
use Rattle.kleene.specs.Code.{postfix as postfixCode}
use Rattle.compile.specs.Chart.{set_of, first_term, second_set, CompiledFrom}
use Rattle.compile.specs.Machine.{State, with_put, place_in, start, run}
use Rattle.compile.specs.Compiles.{code_after}
use Rattle.compile.proofs.Orders.{formula_run, run_bounds}

-- ---- the pass over the order

-- for names of any type, behind any atoms: the formula's atoms with numbers for names, those that are the same once, and its code with
-- their numbers
pub order_compiled : {N : Type 0} (g : N → ℕ) (f : Formula N) (atoms : List (Atom ℕ))
    → run g (postfix f) (start atoms)
    ≡ (let F : Formula ℕ = map_form (map_atom g) f in
    let all : List (Atom ℕ) = foldl with_put atoms (atoms_of F) in
    record { terms = []; atoms = all; code = postfixCode (map_form (place_in all) F) })
unfolding run
order_compiled g f atoms = formula_run g f [] (start atoms)

-- the code is no longer than the order
pub code_short : (g : Name → ℕ) (f : Formula Name) (atoms : List (Atom ℕ)) → length (code_after g f atoms) ≤ length (postfix f)
code_short g f atoms =
    subst (λ (s : State). length s.code ≤ length (postfix f)) (order_compiled g f atoms)
    (omega (arith, (run_bounds g (postfix f) (start atoms)).long))

-- ---- a compiled chart

-- a set has of the evaluations below room those in which its term holds
pub set_members : (t : Term ℕ) (e : ℕ) → e < room → set_of t e ≡ at t e
unfolding set_of
set_members t e l = ap (λ (b : Bool). b && at t e) (lt-ltb e room l)

module _ {chart : Chart} {atoms : List (Atom ℕ)} (c : CompiledFrom chart atoms) (i e : ℕ) (l : e < room) where
  -- the first set of an atom, the zero term's of a zero atom
  pub first_members : mem_at chart.xs i e ≡ at (first_term (atom_at atoms i)) e
  first_members = congr_fun (c.firsts i) e ∙ set_members (first_term (atom_at atoms i)) e l

  -- the second set of a contact
  pub second_members : (x y : Term ℕ) → atom_at atoms i ≡ Atom.contact x y → mem_at chart.ys i e ≡ at y e
  second_members x y h = congr_fun (c.seconds i ∙ ap second_set h) e ∙ set_members y e l

-- ---- what was read

module _ (s : List ℕ) (f : Formula Name) (h : IsRule s f) where
  -- the order that a reader hands back, up to its length, is one that can be compiled
  pub order_read : take (rule_of s).len (rule_of s).order ≡ codes (postfix f)
  order_read =
      ap (λ (r : Rule). take r.len r.order) (text_read s f h)
      ∙ pad_taken 256 (codes (postfix f)) (length (postfix f)) (length_codes (postfix f))

  -- and short enough, since it has a place in the array
  pub order_short : length (rule_of s).order ≡ 256 → length (codes (postfix f)) ≤ 256
  order_short l =
      let e : length (pad 256 (codes (postfix f))) ≡ 256 = sym (ap (λ (r : Rule). length r.order) (text_read s f h)) ∙ l in
      omega (arith, pad_within 256 (codes (postfix f)))
