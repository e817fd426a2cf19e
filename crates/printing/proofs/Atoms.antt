-- In the order of a formula each atom ends with its sign, and before the sign of the atom with the number i there are the signs of i
-- others: behind any symbols, by induction on the tree. Assumes nothing.
use mathlib.Core.Path.{◌≡◌, refl, sym, ap, subst, ◌∙◌}
use mathlib.Core.Bool.{Bool, true, false, cond}
use mathlib.Core.List.{List, [], ◌∷◌, ◌++◌, map, append-nil, append_assoc, map-append}
use Prim.Native.Nat.{ℕ, suc, ◌+◌, ◌-◌, ◌≤◌, ◌<◌}
use native.Mathlib.Omega.{arith}
use lib.Dec.{ltb}
use lib.ListN.{length, get_or, length-append, get_or-append}
use lib.Seq.{get_or-append-add}
use borrow.Author.Tests.{ltb-true, ltb-false}
use Rattle.lists.proofs.Truth.{cases}
use Rattle.formula.specs.declared.Sign.TheVariants.{Implies, Iff, Or, And, Plus, Times}
use Rattle.formula.specs.Formula.{Term, Atom, Form, Formula, Name}
use Rattle.formula.specs.Atoms.{atoms_of}
use Rattle.syntax.specs.Symbol.{Leaf, leaf, minus, tilde, is_zero, binary, constant, relation, contact, part}
use Rattle.syntax.specs.Postfix.{term_after, formula_after}
use Rattle.syntax.specs.Machine.{Sym}
use Rattle.syntax.specs.Reader.{code}
use Rattle.printing.specs.Places.{makes_atom, counted}
use Rattle.printing.proofs.Counting.{counted_append, counted_one}

-- how many atoms end among symbols
abbrev pub signs_in : List Sym → ℕ
signs_in xs = counted makes_atom (map code xs)

pub signs_last : (xs : List Sym) (x : Sym) → signs_in (xs ++ x ∷ []) ≡ signs_in xs + cond (makes_atom (code x)) 1 0
signs_last xs x =
    ap (counted makes_atom) (map-append code xs (x ∷ [])) ∙ counted_append makes_atom (map code xs) (code x ∷ [])
    ∙ ap (λ (n : ℕ). signs_in xs + n) (counted_one makes_atom (code x))

-- the atom a ends in the order, n atoms before it
pub record Found (order : List Sym) (a : Atom Name) (n : ℕ) : Type 0 where
  pub before : List Sym
  pub lead : List Sym
  pub sign : Sym
  pub rest : List Sym
  pub split : order ≡ lead ++ sign ∷ rest
  pub ends : lead ++ sign ∷ [] ≡ formula_after (Form.atom a) before
  pub passed : signs_in lead ≡ n
  pub one : makes_atom (code sign) ≡ true

found_more : (order more : List Sym) (a : Atom Name) (n : ℕ) → Found order a n → Found (order ++ more) a n
found_more order more a n g =
    record {
      before = g.before;
      lead = g.lead;
      sign = g.sign;
      rest = g.rest ++ more;
      split = ap (λ (l : List Sym). l ++ more) g.split ∙ append_assoc g.lead (g.sign ∷ g.rest) more;
      ends = g.ends;
      passed = g.passed;
      one = g.one;
    }

abbrev pub nth : List (Atom Name) → ℕ → Atom Name
nth xs i = get_or xs i (Atom.empty Term.zero)

-- the order is the symbols o with more behind them, in which these atoms end
pub record Grown (o order : List Sym) (xs : List (Atom Name)) : Type 0 where
  pub more : List Sym
  pub begins : order ≡ o ++ more
  pub counts : signs_in order ≡ signs_in o + length xs
  pub each : (i : ℕ) → i < length xs → Found order (nth xs i) (signs_in o + i)

grown_on : {o p q : List Sym} {xs ys : List (Atom Name)} → Grown o p xs → Grown p q ys → Grown o q (xs ++ ys)
grown_on {o} {p} {q} {xs} {ys} g h =
    record {
      more = g.more ++ h.more;
      begins = h.begins ∙ ap (λ (l : List Sym). l ++ h.more) g.begins ∙ append_assoc o g.more h.more;
      counts = omega (arith, g.counts, h.counts, length-append xs ys);
      each = λ i l. cases (ltb i (length xs)) (λ e. left i (ltb-true i (length xs) e)) (λ e. right i (ltb-false i (length xs) e) l);
    }
  where
    left : (i : ℕ) → i < length xs → Found q (nth (xs ++ ys) i) (signs_in o + i)
    left i l =
        subst (λ (a : Atom Name). Found q a (signs_in o + i)) (sym (get_or-append xs ys (Atom.empty Term.zero) i l))
        (subst (λ (r : List Sym). Found r (nth xs i) (signs_in o + i)) (sym h.begins) (found_more p h.more (nth xs i) (signs_in o + i) (g.each i l)))

    right : (i : ℕ) → length xs ≤ i → i < length (xs ++ ys) → Found q (nth (xs ++ ys) i) (signs_in o + i)
    right i m l =
        let d : i ≡ length xs + (i - length xs) = omega arith in
        let n : signs_in p + (i - length xs) ≡ signs_in o + i = omega (arith, g.counts) in
        subst (λ (a : Atom Name). Found q a (signs_in o + i)) (sym (ap (nth (xs ++ ys)) d ∙ get_or-append-add xs ys (i - length xs) (Atom.empty Term.zero)))
        (subst (Found q (nth ys (i - length xs))) n (h.each (i - length xs) (omega (arith, length-append xs ys))))

-- a sign that makes no atom
plain : (o : List Sym) (x : Sym) → makes_atom (code x) ≡ false → Grown o (o ++ x ∷ []) []
plain o x e =
    record {
      more = x ∷ [];
      begins = refl;
      counts = signs_last o x ∙ ap (λ (b : Bool). signs_in o + cond b 1 0) e;
      each = λ i l. absurd (omega arith);
    }

grown_last : {o p : List Sym} {xs : List (Atom Name)} → Grown o p xs → (x : Sym) → makes_atom (code x) ≡ false → Grown o (p ++ x ∷ []) xs
grown_last {o} {p} {xs} g x e = subst (Grown o (p ++ x ∷ [])) (append-nil xs) (grown_on g (plain p x e))

-- one that makes an atom of the terms before it
grown_atom : (o p : List Sym) → Grown o p [] → (x : Sym) → makes_atom (code x) ≡ true → (a : Atom Name) → p ++ x ∷ [] ≡ formula_after (Form.atom a) o → Grown o (p ++ x ∷ []) (a ∷ [])
grown_atom o p g x e a f =
    record {
      more = g.more ++ x ∷ [];
      begins = ap (λ (l : List Sym). l ++ x ∷ []) g.begins ∙ append_assoc o g.more (x ∷ []);
      counts = signs_last p x ∙ ap (λ (b : Bool). signs_in p + cond b 1 0) e ∙ ap (λ (n : ℕ). n + 1) (g.counts ∙ none);
      each = found;
    }
  where
    none : signs_in o + 0 ≡ signs_in o
    none = omega arith

    found : (i : ℕ) → i < 1 → Found (p ++ x ∷ []) (nth (a ∷ []) i) (signs_in o + i)
    found ℕ.zero l = record { before = o; lead = p; sign = x; rest = []; split = refl; ends = f; passed = g.counts; one = e }
    found (suc i) l = absurd (omega arith)

in_term : (t : Term Name) (o : List Sym) → Grown o (term_after t o) []
unfolding term_after makes_atom
in_term Term.zero o = plain o (leaf Leaf.zero) refl
in_term Term.one o = plain o (leaf Leaf.one) refl
in_term (Term.name w) o = plain o (leaf (Leaf.name w)) refl
in_term (Term.complement t) o = grown_last (in_term t o) minus refl
in_term (Term.intersection t u) o = grown_last (grown_on (in_term t o) (in_term u (term_after t o))) (binary Times) refl
in_term (Term.union t u) o = grown_last (grown_on (in_term t o) (in_term u (term_after t o))) (binary Plus) refl

pub in_formula : (f : Formula Name) (o : List Sym) → Grown o (formula_after f o) (atoms_of f)
unfolding formula_after makes_atom
in_formula Form.truth o = plain o (constant true) refl
in_formula Form.falsity o = plain o (constant false) refl
in_formula (Form.atom (Atom.contact t u)) o = grown_atom o _ (grown_on (in_term t o) (in_term u (term_after t o))) (relation contact) refl (Atom.contact t u) refl
in_formula (Form.atom (Atom.part t u)) o = grown_atom o _ (grown_on (in_term t o) (in_term u (term_after t o))) (relation part) refl (Atom.part t u) refl
in_formula (Form.atom (Atom.empty t)) o = grown_atom o _ (in_term t o) is_zero refl (Atom.empty t) refl
in_formula (Form.negation f) o = grown_last (in_formula f o) tilde refl
in_formula (Form.conjunction f g) o = grown_last (grown_on (in_formula f o) (in_formula g (formula_after f o))) (binary And) refl
in_formula (Form.disjunction f g) o = grown_last (grown_on (in_formula f o) (in_formula g (formula_after f o))) (binary Or) refl
in_formula (Form.implication f g) o = grown_last (grown_on (in_formula f o) (in_formula g (formula_after f o))) (binary Implies) refl
in_formula (Form.equivalence f g) o = grown_last (grown_on (in_formula f o) (in_formula g (formula_after f o))) (binary Iff) refl
