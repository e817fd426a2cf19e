-- The symbols of terms determine the terms. A stack of terms reads them back: 0, 1 and a name are put on it, and the other signs take the
-- terms that they stand behind; so the symbols of a term, read from any stack, put that term on it. Assumes nothing.
use mathlib.Core.Path.{◌≡◌, refl, sym, ap, ◌∙◌}
use mathlib.Core.List.{List, [], ◌∷◌, ◌++◌, append_assoc, reverse, reverse_aux, reverse-reverse}
use Prim.Native.Nat.{ℕ, zero, suc, ◌+◌}
use native.Mathlib.Omega.{arith}
use Rattle.formula.specs.Formula.{Term}
use Rattle.lists.specs.Search.{collect}
use Rattle.spelling.specs.Symbols.{spelled}

-- ---- the stack

abbrev complemented : List (Term ℕ) → List (Term ℕ)
complemented [] = []
complemented (t ∷ ts) = Term.complement t ∷ ts

abbrev joined : (Term ℕ → Term ℕ → Term ℕ) → List (Term ℕ) → List (Term ℕ)
joined f [] = []
joined f (t ∷ []) = []
joined f (t ∷ s ∷ ts) = f s t ∷ ts

abbrev read : ℕ → List (Term ℕ) → List (Term ℕ)
read zero ts = Term.zero ∷ ts
read (suc zero) ts = Term.one ∷ ts
read (suc (suc zero)) ts = complemented ts
read (suc (suc (suc zero))) ts = joined Term.intersection ts
read (suc (suc (suc (suc zero)))) ts = joined Term.union ts
read (suc (suc (suc (suc (suc i))))) ts = Term.name i ∷ ts

abbrev read_all : List ℕ → List (Term ℕ) → List (Term ℕ)
read_all [] ts = ts
read_all (x ∷ xs) ts = read_all xs (read x ts)

-- ---- what is read back

-- a sign behind two terms
behind_two : (xs ys : List ℕ) (x : ℕ) (rest : List ℕ) → (xs ++ (ys ++ x ∷ [])) ++ rest ≡ xs ++ (ys ++ x ∷ rest)
behind_two xs ys x rest = append_assoc xs (ys ++ x ∷ []) rest ∙ ap (λ (l : List ℕ). xs ++ l) (append_assoc ys (x ∷ []) rest)

read_term : (t : Term ℕ) (rest : List ℕ) (ts : List (Term ℕ)) → read_all (spelled t ++ rest) ts ≡ read_all rest (t ∷ ts)
read_term Term.zero rest ts = refl
read_term Term.one rest ts = refl
read_term (Term.name i) rest ts = let e : 5 + i ≡ suc (suc (suc (suc (suc i)))) = omega arith in ap (λ (x : ℕ). read_all rest (read x ts)) e
read_term (Term.complement t) rest ts =
    ap (λ (l : List ℕ). read_all l ts) (append_assoc (spelled t) (2 ∷ []) rest) ∙ read_term t (2 ∷ rest) ts
read_term (Term.intersection s t) rest ts =
    ap (λ (l : List ℕ). read_all l ts) (behind_two (spelled s) (spelled t) 3 rest) ∙ read_term s (spelled t ++ 3 ∷ rest) ts ∙ read_term t (3 ∷ rest) (s ∷ ts)
read_term (Term.union s t) rest ts =
    ap (λ (l : List ℕ). read_all l ts) (behind_two (spelled s) (spelled t) 4 rest) ∙ read_term s (spelled t ++ 4 ∷ rest) ts ∙ read_term t (4 ∷ rest) (s ∷ ts)

read_terms : (us ts : List (Term ℕ)) → read_all (collect spelled us) ts ≡ reverse_aux us ts
read_terms [] ts = refl
read_terms (u ∷ us) ts = read_term u (collect spelled us) ts ∙ read_terms us (u ∷ ts)

pub reverse_same : {A : Type 0} (xs ys : List A) → reverse xs ≡ reverse ys → xs ≡ ys
reverse_same xs ys e = sym (reverse-reverse xs) ∙ ap reverse e ∙ reverse-reverse ys

-- terms with the same symbols are the same
pub terms_determined : (ts us : List (Term ℕ)) → collect spelled ts ≡ collect spelled us → ts ≡ us
terms_determined ts us e = reverse_same ts us (sym (read_terms ts []) ∙ ap (λ (l : List ℕ). read_all l []) e ∙ read_terms us [])
