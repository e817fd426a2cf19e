-- What is proved of the text that is printed for a rule (document 02, T-02), for every text and every formula. Assumes nothing.
use mathlib.Core.Path.{◌≡◌, sym, ap, subst, ◌∙◌}
use mathlib.Core.Bool.{false}
use mathlib.Core.List.{List}
use Prim.Native.Nat.{ℕ, ◌≤◌}
use native.Mathlib.Omega.{arith}
use lib.ListN.{length, get_or}
use Rattle.lists.specs.Search.{In}
use Rattle.formula.specs.Formula.{Term, Atom, Form, Formula, Name}
use Rattle.formula.specs.Atoms.{atoms_of}
use Rattle.syntax.specs.Symbol.{Symbol}
use Rattle.syntax.specs.Grammar.{Derives}
use Rattle.syntax.specs.RuleText.{IsRule}
use Rattle.syntax.proofs.Claims as syntax
use Rattle.printing.specs.Tokens.{formula_tokens}
use Rattle.printing.specs.Text.{text_of}
use Rattle.printing.specs.Prints.{printed_text, atom_text}
use Rattle.printing.proofs.Named.{AreNames}
use Rattle.printing.proofs.Lengths.{rule_names, text_shorter}
use Rattle.printing.proofs.AtomEnds.{atom_text_shorter}
use Rattle.printing.proofs.Derived.{derives}
use Rattle.printing.proofs.Apart.{formula_apart}
use Rattle.printing.proofs.Cuts.{tokens_from, cut_written, symbols_again}

-- "The text that comes out, read again, gives the same formula": it is a rule, so of at most 256 bytes, and means that formula
pub read_again : (s : List ℕ) (f : Formula Name) → IsRule s f → IsRule (text_of f) f
unfolding text_of
read_again s f h =
    record {
      short = omega (arith, text_shorter s f h, h.short);
      cut_tokens = tokens_from 0 (formula_tokens f);
      cut = cut_written (formula_tokens f) false 0 (formula_apart (derives f)) (subst AreNames (sym (syntax.token_names (formula_tokens f) f (derives f))) (rule_names s f h));
      derived = subst (λ (xs : List (Symbol Name)). Derives xs f) (sym (symbols_again (formula_tokens f))) (derives f);
    }

-- what `print` gives for a rule text is the text of its formula
pub gives_text : (s : List ℕ) (f : Formula Name) → IsRule s f → printed_text s ≡ text_of f
unfolding printed_text
gives_text s f h = ap text_of (syntax.text_means s f h)

-- "two rules with the same formula give the same bytes"
pub same_bytes : (s t : List ℕ) (f : Formula Name) → IsRule s f → IsRule t f → printed_text s ≡ printed_text t
same_bytes s t f h k = gives_text s f h ∙ sym (gives_text t f k)

-- "A written rule is never longer than the one that was read."
pub never_longer : (s : List ℕ) (f : Formula Name) → IsRule s f → length (text_of f) ≤ length s
never_longer s f h = text_shorter s f h

-- what `print_atom` gives is the text of the formula that is the atom alone
pub gives_atom : (s : List ℕ) (f : Formula Name) → IsRule s f → (i : ℕ) → atom_text s i ≡ text_of (Form.atom (get_or (atoms_of f) i (Atom.empty Term.zero)))
unfolding atom_text
gives_atom s f h i = ap (λ (g : Formula Name). text_of (Form.atom (get_or (atoms_of g) i (Atom.empty Term.zero)))) (syntax.text_means s f h)

-- it is never longer than the rule
pub atom_never_longer : (s : List ℕ) (f : Formula Name) → IsRule s f → (a : Atom Name) → In a (atoms_of f) → length (text_of (Form.atom a)) ≤ length s
atom_never_longer s f h a i = omega (arith, atom_text_shorter f a i, text_shorter s f h)
