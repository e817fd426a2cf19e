-- The order of a term leaves the term on the stack, that of a formula its atoms and its code, whatever stood before: each sign
-- stands behind what it is put on. The number of an atom does not change when others are put behind it, so the code is written with
-- the numbers that the atoms have in the end. Assumes nothing.
use mathlib.Core.Bool.{Bool, true, false}
use mathlib.Core.Path.{◌≡◌, refl, sym, ap, ◌∙◌}
use mathlib.Core.List.{List, [], ◌∷◌, ◌++◌, foldl, foldl-append, append_assoc, append-nil, tail, head-eq_of_cons-eq}
use mathlib.Core.Logic.{⊎_elim}
use Prim.Native.Nat.{ℕ, ◌+◌, ◌*◌, ◌≤◌}
use native.Mathlib.Decide.{ℕ_discrete}
use native.Mathlib.Omega.{arith}
use lib.ListN.{length, length-append}
use Rattle.lists.specs.Search.{In}
use Rattle.lists.proofs.Search.{none_in, uncons}
use Rattle.formula.specs.declared.Sign.TheVariants.{Implies, Iff, Or, And, Plus, Times}
use Rattle.formula.specs.Formula.{Term, Atom, Form, Formula}
use Rattle.formula.specs.Atoms.{atoms_of}
use Rattle.formula.specs.Same.{same_atom}
use Rattle.syntax.specs.Symbol.{Symbol, leaf, minus, tilde, opening, closing, comma, is_zero, binary, constant, relation, contact, part}
use Rattle.syntax.specs.Postfix.{term_after, formula_after}
use Rattle.contact.specs.Numbering.{position, map_term, map_atom, map_form}
use Rattle.contact.specs.Putting.{put}
use Rattle.contact.proofs.Distinct.{Alike, put_all_position, put_all_longer}
use Rattle.contact.proofs.Renaming.{forms_same}
use Rattle.contact.proofs.Same.{same_alike}
use Rattle.kleene.specs.Code.{atom_sign, postfix as postfixCode}
use Rattle.compile.specs.Machine.{State, with_put, place_in, with_terms, with_atom, with_sign, step, run}

-- ---- numbers

module _ {A : Type 0} (same : A → A → Bool) (is : Alike same) where
  -- what was put has its place, whatever is put behind it
  place_stays : (ks ws more : List A) {w : A} → In w ws → position same (foldl (put same) ks (ws ++ more)) w ≡ position same (foldl (put same) ks ws) w
  place_stays ks [] more i = none_in i
  place_stays ks (v ∷ ws) more i =
      ⊎_elim
      (λ e.
      ap (position same (foldl (put same) ks (v ∷ (ws ++ more)))) e ∙ put_all_position same is ks (ws ++ more) v
      ∙ sym (ap (position same (foldl (put same) ks (v ∷ ws))) e ∙ put_all_position same is ks ws v))
      (λ j. place_stays (put same ks v) ws more j) (uncons i)

-- the formula with numbers for its atoms, among the atoms
abbrev numbered : List (Atom ℕ) → Formula ℕ → Form ℕ
numbered atoms f = map_form (place_in atoms) f

-- its atoms put behind the atoms
abbrev grown : List (Atom ℕ) → Formula ℕ → List (Atom ℕ)
grown atoms f = foldl with_put atoms (atoms_of f)

numbers_stay : (atoms more : List (Atom ℕ)) (f : Formula ℕ) → numbered (foldl with_put atoms (atoms_of f ++ more)) f ≡ numbered (grown atoms f) f
numbers_stay atoms more f =
    head-eq_of_cons-eq
    (forms_same (place_in (foldl with_put atoms (atoms_of f ++ more))) (place_in (grown atoms f)) (f ∷ [])
    (λ a i. place_stays (same_atom ℕ_discrete) (same_alike ℕ_discrete) atoms (atoms_of f) more (rw (append-nil (atoms_of f)) at i)))

-- ---- orders

module _ {N : Type 0} (g : N → ℕ) where
  pub run_append : (a b : List (Symbol N)) (s : State) → run g (a ++ b) s ≡ run g b (run g a s)
  unfolding run
  run_append [] b s = refl
  run_append (x ∷ a) b s = run_append a b (step g x s)

  -- one symbol more
  pub run_last : (o : List (Symbol N)) (x : Symbol N) (s : State) → run g (o ++ x ∷ []) s ≡ step g x (run g o s)
  unfolding run
  run_last o x s = run_append o (x ∷ []) s

  -- a term more
  abbrev pushed : Term N → State → State
  pushed t s = with_terms (map_term g t ∷ s.terms) s

  -- a formula more
  abbrev pub compiled : Formula N → State → State
  compiled f s =
      record {
        terms = s.terms;
        atoms = grown s.atoms (map_form (map_atom g) f);
        code = s.code ++ postfixCode (numbered (grown s.atoms (map_form (map_atom g) f)) (map_form (map_atom g) f));
      }

  -- ---- terms

  pub term_run : (t : Term N) (o : List (Symbol N)) (s : State) → run g (term_after t o) s ≡ pushed t (run g o s)
  unfolding term_after
  term_run Term.zero o s = run_last o _ s
  term_run Term.one o s = run_last o _ s
  term_run (Term.name x) o s = run_last o _ s
  term_run (Term.complement t) o s = run_last (term_after t o) _ s ∙ ap (step g minus) (term_run t o s)
  term_run (Term.intersection t u) o s = run_last (term_after u (term_after t o)) _ s ∙ ap (step g (binary Times)) (term_run u (term_after t o) s ∙ ap (pushed u) (term_run t o s))
  term_run (Term.union t u) o s = run_last (term_after u (term_after t o)) _ s ∙ ap (step g (binary Plus)) (term_run u (term_after t o) s ∙ ap (pushed u) (term_run t o s))

  pub terms_run : (t u : Term N) (o : List (Symbol N)) (s : State) → run g (term_after u (term_after t o)) s ≡ pushed u (pushed t (run g o s))
  terms_run t u o s = term_run u (term_after t o) s ∙ ap (pushed u) (term_run t o s)

  -- ---- formulas

  -- an atom; a sign behind one formula; a sign behind two
  atom_more : (a : Atom ℕ) (ts : List (Term ℕ)) (s : State) → with_atom a ts s
      ≡ record { terms = ts; atoms = with_put s.atoms a; code = s.code ++ atom_sign (place_in (with_put s.atoms a) a) ∷ [] }
  atom_more a ts s =
      ap (λ (i : ℕ). record { terms = ts; atoms = with_put s.atoms a; code = s.code ++ atom_sign i ∷ [] })
      (sym (put_all_position (same_atom ℕ_discrete) (same_alike ℕ_discrete) s.atoms [] a))

  tilde_more : (f : Formula N) (s : State) → with_sign 0 (compiled f s) ≡ compiled (Form.negation f) s
  unfolding postfixCode
  tilde_more f s =
      let F : Formula ℕ = map_form (map_atom g) f in
      ap (λ (c : List ℕ). record { terms = s.terms; atoms = grown s.atoms F; code = c })
      (append_assoc s.code (postfixCode (numbered (grown s.atoms F) F)) (0 ∷ []))

  sign_more : (f h : Formula N) (c : ℕ) (s : State) → with_sign c (compiled h (compiled f s))
      ≡ (let F : Formula ℕ = map_form (map_atom g) f in
      let H : Formula ℕ = map_form (map_atom g) h in
      let all : List (Atom ℕ) = foldl with_put s.atoms (atoms_of F ++ atoms_of H) in
      record { terms = s.terms; atoms = all; code = s.code ++ (postfixCode (numbered all F) ++ (postfixCode (numbered all H) ++ c ∷ [])) })
  sign_more f h c s =
      let F : Formula ℕ = map_form (map_atom g) f in
      let H : Formula ℕ = map_form (map_atom g) h in
      let left : List (Atom ℕ) = grown s.atoms F in
      let both : List (Atom ℕ) = grown left H in
      let all : List (Atom ℕ) = foldl with_put s.atoms (atoms_of F ++ atoms_of H) in
      ap (λ (k : List ℕ). record { terms = s.terms; atoms = both; code = k })
      (append_assoc (s.code ++ postfixCode (numbered left F)) (postfixCode (numbered both H)) (c ∷ [])
      ∙ append_assoc s.code (postfixCode (numbered left F)) (postfixCode (numbered both H) ++ c ∷ []))
      ∙ ap (λ (x : Form ℕ). record { terms = s.terms; atoms = both; code = s.code ++ (postfixCode x ++ (postfixCode (numbered both H) ++ c ∷ [])) })
      (sym (numbers_stay s.atoms (atoms_of H) F))
      ∙ ap (λ (k : List (Atom ℕ)). record { terms = s.terms; atoms = k; code = s.code ++ (postfixCode (numbered all F) ++ (postfixCode (numbered k H) ++ c ∷ [])) })
      (sym (foldl-append with_put s.atoms (atoms_of F) (atoms_of H)))

  pub formula_run : (f : Formula N) (o : List (Symbol N)) (s : State) → run g (formula_after f o) s ≡ compiled f (run g o s)
  unfolding formula_after postfixCode
  formula_run Form.truth o s = run_last o _ s
  formula_run Form.falsity o s = run_last o _ s
  formula_run (Form.atom (Atom.contact t u)) o s = run_last (term_after u (term_after t o)) _ s ∙ ap (step g (relation contact)) (terms_run t u o s) ∙ atom_more _ _ (run g o s)
  formula_run (Form.atom (Atom.part t u)) o s = run_last (term_after u (term_after t o)) _ s ∙ ap (step g (relation part)) (terms_run t u o s) ∙ atom_more _ _ (run g o s)
  formula_run (Form.atom (Atom.empty t)) o s = run_last (term_after t o) _ s ∙ ap (step g is_zero) (term_run t o s) ∙ atom_more _ _ (run g o s)
  formula_run (Form.negation f) o s = run_last (formula_after f o) _ s ∙ ap (step g tilde) (formula_run f o s) ∙ tilde_more f (run g o s)
  formula_run (Form.conjunction f h) o s =
      run_last (formula_after h (formula_after f o)) _ s ∙ ap (step g (binary And)) (formula_run h (formula_after f o) s ∙ ap (compiled h) (formula_run f o s)) ∙ sign_more f h 1 (run g o s)
  formula_run (Form.disjunction f h) o s =
      run_last (formula_after h (formula_after f o)) _ s ∙ ap (step g (binary Or)) (formula_run h (formula_after f o) s ∙ ap (compiled h) (formula_run f o s)) ∙ sign_more f h 2 (run g o s)
  formula_run (Form.implication f h) o s =
      run_last (formula_after h (formula_after f o)) _ s ∙ ap (step g (binary Implies)) (formula_run h (formula_after f o) s ∙ ap (compiled h) (formula_run f o s)) ∙ sign_more f h 3 (run g o s)
  formula_run (Form.equivalence f h) o s =
      run_last (formula_after h (formula_after f o)) _ s ∙ ap (step g (binary Iff)) (formula_run h (formula_after f o) s ∙ ap (compiled h) (formula_run f o s)) ∙ sign_more f h 4 (run g o s)

  -- ---- bounds

  -- of n symbols: each puts at most one term on the stack, takes at most two away and puts one number into the code, and no atom is
  -- taken away
  pub record Bounds (n : ℕ) (s r : State) : Type 0 where
    pub high : length r.terms ≤ length s.terms + n
    pub low : length s.terms ≤ length r.terms + 2 * n
    pub long : length r.code ≤ length s.code + n
    pub more : length s.atoms ≤ length r.atoms

  by_terms : (ts : List (Term ℕ)) (s : State) → length ts ≤ length s.terms + 1 → length s.terms ≤ length ts + 1 → Bounds 1 s (with_terms ts s)
  by_terms ts s l k = record { high = l; low = omega arith; long = omega arith; more = omega arith }

  by_atom : (a : Atom ℕ) (ts : List (Term ℕ)) (s : State) → length ts ≤ length s.terms → length s.terms ≤ length ts + 2 → Bounds 1 s (with_atom a ts s)
  by_atom a ts s l k =
      record {
        high = omega arith;
        low = omega arith;
        long = omega (arith, length-append s.code (atom_sign (place_in s.atoms a) ∷ []));
        more = put_all_longer (same_atom ℕ_discrete) s.atoms (a ∷ []);
      }

  by_sign : (c : ℕ) (s : State) → Bounds 1 s (with_sign c s)
  by_sign c s = record { high = omega arith; low = omega arith; long = omega (arith, length-append s.code (c ∷ [])); more = omega arith }

  by_none : (s : State) → Bounds 1 s s
  by_none s = record { high = omega arith; low = omega arith; long = omega arith; more = omega arith }

  fewer : (ts : List (Term ℕ)) → (length (tail ts) ≤ length ts) × (length ts ≤ length (tail ts) + 1)
  fewer [] = (omega arith, omega arith)
  fewer (t ∷ ts) = (omega arith, omega arith)

  fewer_two : (ts : List (Term ℕ)) → (length (tail (tail ts)) ≤ length ts) × (length ts ≤ length (tail (tail ts)) + 2)
  fewer_two ts = (omega (arith, fewer ts, fewer (tail ts)), omega (arith, fewer ts, fewer (tail ts)))

  step_bounds : (x : Symbol N) (s : State) → Bounds 1 s (step g x s)
  step_bounds (leaf x) s = by_terms _ s (omega arith) (omega arith)
  step_bounds minus s = by_terms _ s (omega (arith, fewer s.terms)) (omega (arith, fewer s.terms))
  step_bounds (binary Times) s = by_terms _ s (omega (arith, fewer_two s.terms)) (omega (arith, fewer_two s.terms))
  step_bounds (binary Plus) s = by_terms _ s (omega (arith, fewer_two s.terms)) (omega (arith, fewer_two s.terms))
  step_bounds is_zero s = by_atom _ _ s (fewer s.terms).0 (omega (arith, fewer s.terms))
  step_bounds (relation contact) s = by_atom _ _ s (fewer_two s.terms).0 (fewer_two s.terms).1
  step_bounds (relation part) s = by_atom _ _ s (fewer_two s.terms).0 (fewer_two s.terms).1
  step_bounds tilde s = by_sign 0 s
  step_bounds (binary And) s = by_sign 1 s
  step_bounds (binary Or) s = by_sign 2 s
  step_bounds (binary Implies) s = by_sign 3 s
  step_bounds (binary Iff) s = by_sign 4 s
  step_bounds (constant false) s = by_sign 5 s
  step_bounds (constant true) s = by_sign 6 s
  step_bounds opening s = by_none s
  step_bounds closing s = by_none s
  step_bounds comma s = by_none s

  pub run_bounds : (xs : List (Symbol N)) (s : State) → Bounds (length xs) s (run g xs s)
  unfolding run
  run_bounds [] s = record { high = omega arith; low = omega arith; long = omega arith; more = omega arith }
  run_bounds (x ∷ xs) s =
      let a = step_bounds x s in
      let b = run_bounds xs (step g x s) in
      record {
        high = omega (arith, a.high, b.high);
        low = omega (arith, a.low, b.low);
        long = omega (arith, a.long, b.long);
        more = omega (arith, a.more, b.more);
      }
