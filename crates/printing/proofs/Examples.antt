-- Rule texts and what is printed for them and for their atoms, by computation: a claim over a table each. Assumes nothing.
use mathlib.Core.Path.{◌≡◌, refl}
use mathlib.Core.List.{List, [], ◌∷◌, map}
use Prim.Native.String.{String}
use Prim.Native.Nat.{ℕ}
use lib.ListN.{length}
use Rattle.lists.specs.Search.{below}
use Rattle.formula.specs.Atoms.{atoms_of}
use Rattle.lexer.specs.Text.{bytes}
use Rattle.lexer.specs.Class.{class_of, is_blank, is_alphanumeric, is_sign}
use Rattle.lexer.specs.Spelling.{signs, starts, constant_kind}
use Rattle.lexer.specs.Cutter.{longest, sign_piece, run_length, run_piece, piece_of, cut_from}
use Rattle.syntax.specs.Machine.{run, reading}
use Rattle.syntax.specs.Postfix.{puts}
use Rattle.syntax.specs.Rule.{meaning_of}
use Rattle.printing.specs.Tokens.{term_tokens, atom_tokens, formula_tokens}
use Rattle.printing.specs.Text.{written, text_of}
use Rattle.printing.specs.Prints.{printed_text, atom_text}

-- a rule text, and what is printed for it
pub record Example : Type 0 where
  pub text : String
  pub gives : String

abbrev prints : String → String → Example
prints s t = record { text = s; gives = t }

abbrev pub printed_texts : List Example
printed_texts =
    prints "~(a+b=0)" "~a+b=0"
    ∷ prints "(a+b=0)&T" "a+b=0&T"
    ∷ prints "T->(F<->T)" "T->(F<->T)"
    ∷ prints "(T->F)<->T" "T->F<->T"
    ∷ prints "a*(b*c)=0" "a*(b*c)=0"
    ∷ prints "(a*b)*c=0" "a*b*c=0"
    ∷ prints "(a+b)*c=0" "(a+b)*c=0"
    ∷ prints "a+(b*c)=0" "a+b*c=0"
    ∷ prints "-(-(a))=0" "--a=0"
    ∷ prints "~(~(T))" "~~T"
    ∷ prints "-(a*b)=0" "-(a*b)=0"
    ∷ prints "((a))=0" "a=0"
    ∷ prints "a = 0" "a=0"
    ∷ prints "( C ( (a+b) , (0) ) )" "C(a+b,0)"
    ∷ prints "<= ( m , 1 )" "<=(m,1)"
    ∷ []

pub examples : map (λ (e : Example). printed_text (bytes e.text)) printed_texts ≡ map (λ (e : Example). bytes e.gives) printed_texts
unfolding class_of is_blank is_alphanumeric is_sign signs starts constant_kind longest sign_piece run_length run_piece piece_of cut_from run reading puts meaning_of term_tokens atom_tokens formula_tokens written text_of printed_text
examples = refl

-- a rule text, and what is printed for its atoms, in written order
pub record AtomsExample : Type 0 where
  pub text : String
  pub give : List String

abbrev have : String → List String → AtomsExample
have s ts = record { text = s; give = ts }

abbrev pub printed_atoms : List AtomsExample
printed_atoms =
    have "~(a+b=0) -> C((a),-b) & <=( m ,1)" ("a+b=0" ∷ "C(a,-b)" ∷ "<=(m,1)" ∷ [])
    ∷ have "(C(a,b*(c*d)) <-> (~(C( (a*b)*c , 0 )))) | (a=0)" ("C(a,b*(c*d))" ∷ "C(a*b*c,0)" ∷ "a=0" ∷ [])
    ∷ have "a=0&a=0" ("a=0" ∷ "a=0" ∷ [])
    ∷ have "T->F" []
    ∷ []

-- the texts of all atoms of a rule text
abbrev all_atoms : List ℕ → List (List ℕ)
all_atoms s = map (atom_text s) (below (length (atoms_of (meaning_of s))))

pub atom_examples : map (λ (e : AtomsExample). all_atoms (bytes e.text)) printed_atoms ≡ map (λ (e : AtomsExample). map bytes e.give) printed_atoms
unfolding class_of is_blank is_alphanumeric is_sign signs starts constant_kind longest sign_piece run_length run_piece piece_of cut_from run reading puts meaning_of term_tokens atom_tokens formula_tokens written text_of atom_text
atom_examples = refl
