-- Every formula of the grammar is read: on any stack that waits for it, and before any token that does not go on it, the
-- machine reads a value and comes back with it. By induction on how it is derived. Assumes nothing.
use Prim.Native.Nat.{ℕ, suc, ◌+◌, ◌≤◌}
use native.Mathlib.Omega.{arith}
use mathlib.Core.Path.{◌≡◌, refl, sym, ap, ◌∙◌}
use mathlib.Core.List.{List, [], ◌∷◌, ◌++◌, append_assoc, append-nil}
use mathlib.Core.Bool.{Bool, true, false, not, true≢false, beq}
use Rattle.lists.proofs.Truth.{beq_self}
use Rattle.formula.specs.declared.Sign.{Sign}
use Rattle.formula.specs.declared.Sign.TheVariants.{Implies, Iff, Or, And, Plus, Times}
use Rattle.formula.specs.Sign.{joins_terms}
use Rattle.formula.specs.Formula.{Term, Atom, Form, Formula, Name}
use Rattle.syntax.specs.Symbol.{Leaf, Relation, leaf, minus, tilde, opening, closing, comma, is_zero, binary, constant, relation, contact, part}
use Rattle.syntax.specs.Grammar.{leaf_term, IsTerm, IsFormula, t_leaf, t_minus, t_times, t_plus, t_parenthesis, t_looser, f_truth, f_falsity, f_contact, f_part, f_empty, f_tilde, f_and, f_or, f_implies, f_iff, f_parenthesis, f_looser, Derives}
use Rattle.syntax.specs.Postfix.{term_after, formula_after, postfix}
use Rattle.syntax.specs.Machine.{Sym, pick_rank, rank_of, loosest, Frame, in_parenthesis, after_minus, after_tilde, after_binary, first_of, second_of, allow, want, have, call, Popped, guard, close, zeroed, join, accepted, run, reading}
use Rattle.syntax.specs.Reader.{top, goes, goes_on}
use Rattle.syntax.proofs.MachineLaws.{pop_keep, feed, goes_formula, goes_term}
use Rattle.syntax.proofs.Ranks.{Tree, tightest_rank, after, joined, constant_of, related, after_leaf, after_constant, after_related, after_joined}

-- the place after some tokens
past : ℕ → List Sym → ℕ
past i [] = i
past i (x ∷ l) = past (i + 1) l

past_append : (i : ℕ) (l m : List Sym) → past i (l ++ m) ≡ past (past i l) m
unfolding past
past_append i [] m = refl
past_append i (x ∷ l) m = past_append (i + 1) l m

goes_self : (b : Sign) → goes (joins_terms b) (binary b) ≤ suc (rank_of b)
goes_self Implies = omega arith
goes_self Iff = omega arith
goes_self Or = omega arith
goes_self And = omega arith
goes_self Plus = omega arith
goes_self Times = omega arith

goes_on_term : (l : List Sym) → goes_on true l ≤ 6
goes_on_term [] = omega arith
goes_on_term (x ∷ l) = goes_term x

goes_on_formula : (l : List Sym) → goes_on false l ≤ 3
goes_on_formula [] = omega arith
goes_on_formula (x ∷ l) = goes_formula x

-- a value of a rank comes back in the state that waits for it
abbrev Comes : (s : Bool) → ℕ → List Sym → Tree s → Type 0
Comes s l ts t = (K : List Frame) (o rest : List Sym) (i : ℕ) → (s ≡ false → allow K ≡ true) → top K ≤ l → goes_on s rest ≤ suc l → run (ts ++ rest) i (want K o) ≡ run rest (past i ts) (have s K (after s t o))

comes_looser : (s : Bool) (l m : ℕ) (ts : List Sym) (t : Tree s) → l ≤ m → Comes s m ts t → Comes s l ts t
comes_looser s l m ts t h g K o rest i a b c = g K o rest i a (omega arith) (omega arith)

comes_leaf : (x : Leaf Name) → Comes true 6 (leaf x ∷ []) (leaf_term x)
unfolding run past
comes_leaf x K o rest i a b c = ap (λ (q : List Sym). run rest (i + 1) (have true K q)) (sym (after_leaf x o))

comes_constant : (c : Bool) → Comes false 3 (constant c ∷ []) (constant_of c)
unfolding run past
comes_constant c K o rest i a b d =
    ap (λ (w : Bool). run rest (i + 1) (guard w (have false K (o ++ constant c ∷ [])) i)) (a refl)
    ∙ ap (λ (q : List Sym). run rest (i + 1) (have false K q)) (sym (after_constant c o))

comes_minus : (ts : List Sym) (t : Term Name) → Comes true 6 ts t → Comes true 6 (minus ∷ ts) (Term.complement t)
unfolding run past term_after
comes_minus ts t g K o rest i a b c =
    g (after_minus ∷ K) o rest (i + 1) (λ e. absurd (true≢false e)) (omega arith) c
    ∙ feed rest (past (i + 1) ts) true after_minus K (term_after t o) refl (goes_on_term rest)

comes_tilde : (ts : List Sym) (f : Formula Name) → Comes false 3 ts f → Comes false 3 (tilde ∷ ts) (Form.negation f)
unfolding run past formula_after
comes_tilde ts f g K o rest i a b c =
    ap (λ (w : Bool). run (ts ++ rest) (i + 1) (guard w (want (after_tilde ∷ K) o) i)) (a refl)
    ∙ g (after_tilde ∷ K) o rest (i + 1) (λ e. refl) (omega arith) c
    ∙ feed rest (past (i + 1) ts) false after_tilde K (formula_after f o) refl (goes_on_formula rest)

comes_parenthesis : (s : Bool) (ts : List Sym) (t : Tree s) → Comes s (pick_rank s 0) ts t → Comes s (tightest_rank s) (opening ∷ ts ++ closing ∷ []) t
unfolding run past
comes_parenthesis s ts t g K o rest i a b c =
    ap (λ (l : List Sym). run l (i + 1) (want (in_parenthesis ∷ K) o)) (append_assoc ts (closing ∷ []) rest)
    ∙ g (in_parenthesis ∷ K) o (closing ∷ rest) (i + 1) a (omega arith) (omega arith)
    ∙ ap (λ (q : Popped). run rest (past (i + 1) ts + 1) (close s q (past (i + 1) ts))) (pop_keep (loosest s) (in_parenthesis ∷ K) (after s t o) (omega arith))
    ∙ ap (λ (n : ℕ). run rest n (have s K (after s t o))) (sym (past_append (i + 1) ts (closing ∷ [])))

comes_zero : (ts : List Sym) (t : Term Name) → Comes true 3 ts t → Comes false 3 (ts ++ is_zero ∷ []) (Form.atom (Atom.empty t))
unfolding run past formula_after
comes_zero ts t g K o rest i a b c =
    ap (λ (l : List Sym). run l i (want K o)) (append_assoc ts (is_zero ∷ []) rest)
    ∙ g K o (is_zero ∷ rest) i (λ e. absurd (true≢false e)) b (omega arith)
    ∙ ap (λ (q : Popped). run rest (past i ts + 1) (zeroed q (past i ts))) (pop_keep 4 K (term_after t o) (omega arith))
    ∙ ap (λ (w : Bool). run rest (past i ts + 1) (guard w (have false K (term_after t o ++ is_zero ∷ [])) (past i ts))) (a refl)
    ∙ ap (λ (n : ℕ). run rest n (have false K (term_after t o ++ is_zero ∷ []))) (sym (past_append i ts (is_zero ∷ [])))

comes_binary : (b : Sign) (ts us : List Sym) (t u : Tree (joins_terms b)) → Comes (joins_terms b) (rank_of b) ts t → Comes (joins_terms b) (suc (rank_of b)) us u → Comes (joins_terms b) (rank_of b) (ts ++ binary b ∷ us) (joined b t u)
unfolding run past
comes_binary b ts us t u g h K o rest i a d c =
    ap (λ (l : List Sym). run l i (want K o)) (append_assoc ts (binary b ∷ us) rest)
    ∙ g K o (binary b ∷ us ++ rest) i a d (goes_self b)
    ∙ ap (λ (q : Popped). run (us ++ rest) (past i ts + 1) (guard (beq (joins_terms b) (joins_terms b)) (join b q) (past i ts))) (pop_keep (rank_of b) K (after (joins_terms b) t o) d)
    ∙ ap (λ (w : Bool). run (us ++ rest) (past i ts + 1) (guard w (want (after_binary b ∷ K) (after (joins_terms b) t o)) (past i ts))) (beq_self (joins_terms b))
    ∙ h (after_binary b ∷ K) (after (joins_terms b) t o) rest (past i ts + 1) (λ e. ap not e) (omega arith) (omega (arith, c))
    ∙ feed rest (past (past i ts + 1) us) (joins_terms b) (after_binary b) K (after (joins_terms b) u (after (joins_terms b) t o)) refl c
    ∙ ap (λ (q : List Sym). run rest (past (past i ts + 1) us) (have (joins_terms b) K q)) (sym (after_joined b t u o))
    ∙ ap (λ (n : ℕ). run rest n (have (joins_terms b) K (after (joins_terms b) (joined b t u) o))) (sym (past_append i ts (binary b ∷ us)))

comes_related : (d : Relation) (ts us : List Sym) (t u : Term Name) → Comes true 3 ts t → Comes true 3 us u → Comes false 3 (relation d ∷ opening ∷ ts ++ (comma ∷ us ++ closing ∷ [])) (related d t u)
unfolding run past
comes_related d ts us t u g h K o rest i a b c =
    ap (λ (w : Bool). run (opening ∷ (ts ++ (comma ∷ us ++ closing ∷ [])) ++ rest) (i + 1) (guard w (call d K o) i)) (a refl)
    ∙ ap (λ (l : List Sym). run l (i + 1 + 1) (want (first_of d ∷ K) o)) (append_assoc ts (comma ∷ us ++ closing ∷ []) rest ∙ ap (λ (l : List Sym). ts ++ (comma ∷ l)) (append_assoc us (closing ∷ []) rest))
    ∙ g (first_of d ∷ K) o (comma ∷ us ++ (closing ∷ rest)) (i + 1 + 1) (λ e. absurd (true≢false e)) (omega arith) (omega arith)
    ∙ h (second_of d ∷ K) (term_after t o) (closing ∷ rest) (past (i + 1 + 1) ts + 1) (λ e. absurd (true≢false e)) (omega arith) (omega arith)
    ∙ ap (λ (q : List Sym). run rest (past (past (i + 1 + 1) ts + 1) us + 1) (have false K q)) (sym (after_related d t u o))
    ∙ ap (λ (n : ℕ). run rest n (have false K (formula_after (related d t u) o))) (sym (past_append (i + 1 + 1) ts (comma ∷ us ++ closing ∷ []) ∙ past_append (past (i + 1 + 1) ts + 1) us (closing ∷ [])))

-- a term of a level has the rank 3 + the level
comes_term : {l : ℕ} {ts : List Sym} {t : Term Name} → IsTerm l ts t → Comes true (3 + l) ts t
comes_term (t_leaf {x = x}) = comes_leaf x
comes_term (t_minus {ts = ts} {t = t} g) = comes_minus ts t (comes_term g)
comes_term (t_times {ts = ts} {us = us} {t = t} {u = u} g h) = comes_binary Times ts us t u (comes_term g) (comes_term h)
comes_term (t_plus {ts = ts} {us = us} {t = t} {u = u} g h) = comes_binary Plus ts us t u (comes_term g) (comes_term h)
comes_term (t_parenthesis {ts = ts} {t = t} g) = comes_parenthesis true ts t (comes_term g)
comes_term (t_looser {l = l} {ts = ts} {t = t} g) = comes_looser true (3 + l) (3 + suc l) ts t (omega arith) (comes_term g)

comes_formula : {l : ℕ} {ts : List Sym} {f : Formula Name} → IsFormula l ts f → Comes false l ts f
comes_formula f_truth = comes_constant true
comes_formula f_falsity = comes_constant false
comes_formula (f_contact {ts = ts} {us = us} {t = t} {u = u} g h) = comes_related contact ts us t u (comes_term g) (comes_term h)
comes_formula (f_part {ts = ts} {us = us} {t = t} {u = u} g h) = comes_related part ts us t u (comes_term g) (comes_term h)
comes_formula (f_empty {ts = ts} {t = t} g) = comes_zero ts t (comes_term g)
comes_formula (f_tilde {ts = ts} {f = f} g) = comes_tilde ts f (comes_formula g)
comes_formula (f_and {ts = ts} {us = us} {f = f} {g = h} x y) = comes_binary And ts us f h (comes_formula x) (comes_formula y)
comes_formula (f_or {ts = ts} {us = us} {f = f} {g = h} x y) = comes_binary Or ts us f h (comes_formula x) (comes_formula y)
comes_formula (f_implies {ts = ts} {us = us} {f = f} {g = h} x y) = comes_binary Implies ts us f h (comes_formula x) (comes_formula y)
comes_formula (f_iff {ts = ts} {us = us} {f = f} {g = h} x y) = comes_binary Iff ts us f h (comes_formula x) (comes_formula y)
comes_formula (f_parenthesis {ts = ts} {f = f} g) = comes_parenthesis false ts f (comes_formula g)
comes_formula (f_looser {l = l} {ts = ts} {f = f} g) = comes_looser false l (suc l) ts f (omega arith) (comes_formula g)

-- a formula is accepted, with its order
pub complete : (xs : List Sym) (f : Formula Name) → Derives xs f → reading xs ≡ accepted (postfix f)
unfolding reading run
complete xs f g = ap (λ (l : List Sym). run l 0 (want [] [])) (sym (append-nil xs)) ∙ comes_formula g [] [] [] 0 (λ e. refl) (omega arith) (omega arith)
