-- The place of a refusal is exact: a state that is not dead can always be brought to an end, so the tokens before the place
-- begin a formula; a dead one stays dead, so with the token at the place they begin none, as every formula is read. Two
-- places would contradict each other. Assumes nothing.
use Prim.Native.Nat.{ℕ, ◌+◌, ◌≤◌, ◌<◌}
use native.Mathlib.Omega.{arith}
use mathlib.Core.Path.{◌≡◌, refl, sym, ap, subst, ◌∙◌}
use mathlib.Core.List.{List, [], ◌∷◌, ◌++◌, append_assoc, append-nil}
use mathlib.Core.Bool.{Bool, true, false, true≢false, beq}
use lib.ListN.{length}
use borrow.Author.Tests.{not-true}
use Rattle.lists.proofs.Lists.{prefix}
use Rattle.formula.specs.declared.Sign.{Sign}
use Rattle.formula.specs.declared.Sign.TheVariants.{Implies, Iff, Or, And, Plus, Times}
use Rattle.formula.specs.Sign.{joins_terms}
use Rattle.formula.specs.Formula.{Formula, Name}
use Rattle.syntax.specs.Symbol.{Leaf, Relation, leaf, minus, tilde, opening, closing, comma, is_zero, binary, constant, relation}
use Rattle.syntax.specs.Grammar.{Derives, Begins}
use Rattle.syntax.specs.Postfix.{postfix}
use Rattle.syntax.specs.Machine.{Sym, rank_of, loosest, Frame, in_parenthesis, after_minus, after_tilde, after_binary, first_of, second_of, sign_of, allow, State, want, have, call, dead, Popped, pop, guard, shut, zeroed, parted, part_at, join, step, Result, accepted, refused, done, finish, run, reading}
use Rattle.syntax.specs.Reader.{top, goes_on}
use Rattle.syntax.specs.Refusal.{Stops, Refusal}
use Rattle.syntax.proofs.MachineLaws.{run_dead, pop_keep, feed}
use Rattle.syntax.proofs.Sound.{Begun, b_none, b_parenthesis, b_minus, b_tilde, b_binary, b_first, b_second, Stands, step_stands, refused≢accepted, sound}
use Rattle.syntax.proofs.Complete.{complete}

-- ---- every state that is not dead can be brought to an end
-- the leaf that stands where a value is wanted
abbrev filler : Leaf Name
filler = Leaf.zero

-- the tokens that end the text after a formula, after a term
end_formula : List Frame → List Sym
end_formula [] = []
end_formula (in_parenthesis ∷ K) = closing ∷ end_formula K
end_formula (after_minus ∷ K) = end_formula K
end_formula (after_tilde ∷ K) = end_formula K
end_formula (after_binary b ∷ K) = end_formula K
end_formula (first_of c ∷ K) = end_formula K
end_formula (second_of c ∷ K) = end_formula K

end_term : List Frame → List Sym
end_term [] = is_zero ∷ []
end_term (in_parenthesis ∷ K) = closing ∷ end_term K
end_term (after_minus ∷ K) = end_term K
end_term (after_tilde ∷ K) = is_zero ∷ end_formula K
end_term (after_binary Implies ∷ K) = is_zero ∷ end_formula K
end_term (after_binary Iff ∷ K) = is_zero ∷ end_formula K
end_term (after_binary Or ∷ K) = is_zero ∷ end_formula K
end_term (after_binary And ∷ K) = is_zero ∷ end_formula K
end_term (after_binary Plus ∷ K) = end_term K
end_term (after_binary Times ∷ K) = end_term K
end_term (first_of c ∷ K) = comma ∷ leaf filler ∷ closing ∷ end_formula K
end_term (second_of c ∷ K) = closing ∷ end_formula K

-- no sign goes on the formula, none but =0 on the term
goes_formula_end : (K : List Frame) → goes_on false (end_formula K) ≤ 0
unfolding end_formula
goes_formula_end [] = omega arith
goes_formula_end (in_parenthesis ∷ K) = omega arith
goes_formula_end (after_minus ∷ K) = goes_formula_end K
goes_formula_end (after_tilde ∷ K) = goes_formula_end K
goes_formula_end (after_binary b ∷ K) = goes_formula_end K
goes_formula_end (first_of c ∷ K) = goes_formula_end K
goes_formula_end (second_of c ∷ K) = goes_formula_end K

goes_term_end : (K : List Frame) → goes_on true (end_term K) ≤ 4
unfolding end_term
goes_term_end [] = omega arith
goes_term_end (in_parenthesis ∷ K) = omega arith
goes_term_end (after_minus ∷ K) = goes_term_end K
goes_term_end (after_tilde ∷ K) = omega arith
goes_term_end (after_binary Implies ∷ K) = omega arith
goes_term_end (after_binary Iff ∷ K) = omega arith
goes_term_end (after_binary Or ∷ K) = omega arith
goes_term_end (after_binary And ∷ K) = omega arith
goes_term_end (after_binary Plus ∷ K) = goes_term_end K
goes_term_end (after_binary Times ∷ K) = goes_term_end K
goes_term_end (first_of c ∷ K) = omega arith
goes_term_end (second_of c ∷ K) = omega arith

-- some order is accepted
abbrev Ends : List Sym → ℕ → State → Type 0
Ends l i s = (d : List Sym) × (run l i s ≡ accepted d)

along : (l m : List Sym) (i j : ℕ) (s t : State) → run l i s ≡ run m j t → Ends m j t → Ends l i s
along l m i j s t e d = (d.0, e ∙ d.1)

-- after a formula
abbrev EndsFormula : List Frame → Type 0
EndsFormula K = (i : ℕ) (o : List Sym) → allow K ≡ true → Ends (end_formula K) i (have false K o)

formula_none : EndsFormula []
unfolding end_formula run
formula_none i o a = (o, refl)

formula_parenthesis : (K : List Frame) → EndsFormula K → EndsFormula (in_parenthesis ∷ K)
unfolding end_formula run
formula_parenthesis K r i o a = r (i + 1) o a

formula_tilde : (K : List Frame) → allow K ≡ true → EndsFormula K → EndsFormula (after_tilde ∷ K)
unfolding end_formula
formula_tilde K f r i o a = along (end_formula K) (end_formula K) i i (have false (after_tilde ∷ K) o) (have false K (o ++ tilde ∷ [])) (feed (end_formula K) i false after_tilde K o refl (omega (arith, goes_formula_end K))) (r i (o ++ tilde ∷ []) f)

formula_binary : (b : Sign) (K : List Frame) → (joins_terms b ≡ false → allow K ≡ true) → EndsFormula K → EndsFormula (after_binary b ∷ K)
unfolding end_formula
formula_binary b K f r i o a =
    let j : joins_terms b ≡ false = not-true (joins_terms b) a in
    along (end_formula K) (end_formula K) i i (have false (after_binary b ∷ K) o) (have false K (o ++ binary b ∷ []))
    (feed (end_formula K) i false (after_binary b) K o (sym j) (omega (arith, goes_formula_end K))) (r i (o ++ binary b ∷ []) (f j))

ends_formula : {K : List Frame} {ts c : List Sym} → Begun K ts c → EndsFormula K
ends_formula b_none = formula_none
ends_formula (b_parenthesis {K = K} g) = formula_parenthesis K (ends_formula g)
ends_formula (b_minus g) = λ i o a. absurd (true≢false (sym a))
ends_formula (b_tilde {K = K} f g) = formula_tilde K f (ends_formula g)
ends_formula (b_binary {b = b} {K = K} us t f d g e) = formula_binary b K f (ends_formula g)
ends_formula (b_first f g) = λ i o a. absurd (true≢false (sym a))
ends_formula (b_second f g r) = λ i o a. absurd (true≢false (sym a))

-- after a term
abbrev EndsTerm : List Frame → Type 0
EndsTerm K = (i : ℕ) (o : List Sym) → Ends (end_term K) i (have true K o)

-- =0 makes a formula of it
by_zero : (K : List Frame) → allow K ≡ true → top K ≤ 4 → EndsFormula K → (i : ℕ) (o : List Sym) → Ends (is_zero ∷ end_formula K) i (have true K o)
unfolding run
by_zero K a h r i o = along (is_zero ∷ end_formula K) (end_formula K) i (i + 1) (have true K o) (have false K (o ++ is_zero ∷ []))
    (ap (λ (q : Popped). run (end_formula K) (i + 1) (zeroed q i)) (pop_keep 4 K o h) ∙ ap (λ (b : Bool). run (end_formula K) (i + 1) (guard b (have false K (o ++ is_zero ∷ [])) i)) a)
    (r (i + 1) (o ++ is_zero ∷ []) a)

-- a sign on terms takes it
by_feed : (f : Frame) (K : List Frame) (i : ℕ) (o : List Sym) → run (end_term K) i (have true (f ∷ K) o) ≡ run (end_term K) i (have true K (o ++ sign_of f ∷ [])) → EndsTerm K → Ends (end_term K) i (have true (f ∷ K) o)
by_feed f K i o e r = along (end_term K) (end_term K) i i (have true (f ∷ K) o) (have true K (o ++ sign_of f ∷ [])) e (r i (o ++ sign_of f ∷ []))

term_none : EndsTerm []
unfolding end_term run
term_none i o = (o ++ is_zero ∷ [], refl)

term_parenthesis : (K : List Frame) → EndsTerm K → EndsTerm (in_parenthesis ∷ K)
unfolding end_term run
term_parenthesis K r i o = r (i + 1) o

term_minus : (K : List Frame) → EndsTerm K → EndsTerm (after_minus ∷ K)
unfolding end_term
term_minus K r i o = by_feed after_minus K i o (feed (end_term K) i true after_minus K o refl (omega (arith, goes_term_end K))) r

term_tilde : (K : List Frame) → EndsFormula (after_tilde ∷ K) → EndsTerm (after_tilde ∷ K)
unfolding end_term end_formula
term_tilde K r i o = by_zero (after_tilde ∷ K) refl (omega arith) r i o

term_binary : (b : Sign) (K : List Frame) → EndsFormula (after_binary b ∷ K) → EndsTerm K → EndsTerm (after_binary b ∷ K)
unfolding end_term end_formula
term_binary Implies K f r i o = by_zero (after_binary Implies ∷ K) refl (omega arith) f i o
term_binary Iff K f r i o = by_zero (after_binary Iff ∷ K) refl (omega arith) f i o
term_binary Or K f r i o = by_zero (after_binary Or ∷ K) refl (omega arith) f i o
term_binary And K f r i o = by_zero (after_binary And ∷ K) refl (omega arith) f i o
term_binary Plus K f r i o = by_feed (after_binary Plus) K i o (feed (end_term K) i true (after_binary Plus) K o refl (omega (arith, goes_term_end K))) r
term_binary Times K f r i o = by_feed (after_binary Times) K i o (feed (end_term K) i true (after_binary Times) K o refl (omega (arith, goes_term_end K))) r

term_first : (c : Relation) (K : List Frame) → allow K ≡ true → EndsFormula K → EndsTerm (first_of c ∷ K)
unfolding end_term run
term_first c K a r i o = r (i + 1 + 1 + 1) ((o ++ leaf filler ∷ []) ++ relation c ∷ []) a

term_second : (c : Relation) (K : List Frame) → allow K ≡ true → EndsFormula K → EndsTerm (second_of c ∷ K)
unfolding end_term run
term_second c K a r i o = r (i + 1) (o ++ relation c ∷ []) a

ends_term : {K : List Frame} {ts c : List Sym} → Begun K ts c → EndsTerm K
ends_term b_none = term_none
ends_term (b_parenthesis {K = K} g) = term_parenthesis K (ends_term g)
ends_term (b_minus {K = K} g) = term_minus K (ends_term g)
ends_term (b_tilde {K = K} f g) = term_tilde K (ends_formula (b_tilde f g))
ends_term (b_binary {b = b} {K = K} us t f d g e) = term_binary b K (ends_formula (b_binary us t f d g e)) (ends_term g)
ends_term (b_first {c = c} {K = K} f g) = term_first c K f (ends_formula g)
ends_term (b_second {c = c} {K = K} f g r) = term_second c K f (ends_formula g)

-- the state is not dead
abbrev Going : State → Type 0
Going (want K o) = Unit {0}
Going (have s K o) = Unit {0}
Going (call c K o) = Unit {0}
Going (dead j) = ⊥

ends : (s : State) (i : ℕ) (all : List Sym) → Stands s all → Going s → (l : List Sym) × Ends l i s
unfolding run
ends (want K o) i all k a = (leaf filler ∷ end_term K, ends_term k (i + 1) (o ++ leaf filler ∷ []))
ends (call c K o) i all k a = (opening ∷ leaf filler ∷ comma ∷ leaf filler ∷ closing ∷ end_formula K, ends_formula k.2 (i + 1 + 1 + 1 + 1 + 1) (((o ++ leaf filler ∷ []) ++ leaf filler ∷ []) ++ relation c ∷ []) k.3)
ends (have true K o) i all k a = (end_term K, ends_term k.begun i o)
ends (have false K o) i all k a = (end_formula K, ends_formula k.begun i o (k.value.allowed refl))
ends (dead j) i all k a = absurd a

-- ---- a token is refused at its place
-- a dead state was refused at i
abbrev DeadAt : ℕ → State → Type 0
DeadAt i (want K o) = Unit {0}
DeadAt i (have s K o) = Unit {0}
DeadAt i (call c K o) = Unit {0}
DeadAt i (dead j) = j ≡ i

guard_at : (b : Bool) (s : State) (i : ℕ) → DeadAt i s → DeadAt i (guard b s i)
guard_at true s i h = h
guard_at false s i h = refl

shut_at : (t : Bool) (K : List Frame) (o : List Sym) (i : ℕ) → DeadAt i (shut t K o i)
shut_at t [] o i = refl
shut_at t (in_parenthesis ∷ K) o i = tt
shut_at t (after_minus ∷ K) o i = refl
shut_at t (after_tilde ∷ K) o i = refl
shut_at t (after_binary b ∷ K) o i = refl
shut_at t (first_of c ∷ K) o i = refl
shut_at t (second_of c ∷ K) o i = guard_at t (have false K (o ++ relation c ∷ [])) i tt

parted_at : (K : List Frame) (o : List Sym) (i : ℕ) → DeadAt i (parted K o i)
parted_at [] o i = refl
parted_at (in_parenthesis ∷ K) o i = refl
parted_at (after_minus ∷ K) o i = refl
parted_at (after_tilde ∷ K) o i = refl
parted_at (after_binary b ∷ K) o i = refl
parted_at (first_of c ∷ K) o i = tt
parted_at (second_of c ∷ K) o i = refl

step_at : (s : State) (x : Sym) (i : ℕ) → Going s → DeadAt i (step s x i)
step_at (dead j) x i a = absurd a
step_at (want K o) (leaf x) i a = tt
step_at (want K o) minus i a = tt
step_at (want K o) tilde i a = guard_at (allow K) (want (after_tilde ∷ K) o) i tt
step_at (want K o) opening i a = tt
step_at (want K o) closing i a = refl
step_at (want K o) comma i a = refl
step_at (want K o) is_zero i a = refl
step_at (want K o) (binary b) i a = refl
step_at (want K o) (constant c) i a = guard_at (allow K) (have false K (o ++ constant c ∷ [])) i tt
step_at (want K o) (relation c) i a = guard_at (allow K) (call c K o) i tt
step_at (call d K o) (leaf x) i a = refl
step_at (call d K o) minus i a = refl
step_at (call d K o) tilde i a = refl
step_at (call d K o) opening i a = tt
step_at (call d K o) closing i a = refl
step_at (call d K o) comma i a = refl
step_at (call d K o) is_zero i a = refl
step_at (call d K o) (binary b) i a = refl
step_at (call d K o) (constant c) i a = refl
step_at (call d K o) (relation c) i a = refl
step_at (have s K o) (leaf x) i a = refl
step_at (have s K o) minus i a = refl
step_at (have s K o) tilde i a = refl
step_at (have s K o) opening i a = refl
step_at (have s K o) closing i a = shut_at s (pop (loosest s) K o).stack (pop (loosest s) K o).order i
step_at (have s K o) comma i a = guard_at s (part_at (pop 4 K o) i) i (parted_at (pop 4 K o).stack (pop 4 K o).order i)
step_at (have s K o) is_zero i a = guard_at s (zeroed (pop 4 K o) i) i (guard_at (allow (pop 4 K o).stack) (have false (pop 4 K o).stack ((pop 4 K o).order ++ is_zero ∷ [])) i tt)
step_at (have s K o) (binary b) i a = guard_at (beq s (joins_terms b)) (join b (pop (rank_of b) K o)) i tt
step_at (have s K o) (constant c) i a = refl
step_at (have s K o) (relation c) i a = refl

refused_place : (i j : ℕ) → refused i ≡ refused j → j ≡ i
refused_place i j e = cc

done_place : (K : List Frame) (o : List Sym) (i j : ℕ) → done K o i ≡ refused j → j ≡ i
done_place [] o i j e = absurd (refused≢accepted j o (sym e))
done_place (f ∷ K) o i j e = refused_place i j e

finish_place : (s : State) (i j : ℕ) → Going s → finish s i ≡ refused j → j ≡ i
finish_place (dead k) i j a e = absurd a
finish_place (want K o) i j a e = refused_place i j e
finish_place (call c K o) i j a e = refused_place i j e
finish_place (have true K o) i j a e = refused_place i j e
finish_place (have false K o) i j a e = done_place (pop 0 K o).stack (pop 0 K o).order i j e

-- ---- where a run is refused
-- after pre the run is refused at j, whatever stands after the next token, if there is one
abbrev Refuses : List Sym → List Sym → ℕ → State → ℕ → Type 0
Refuses pre [] i s j = run pre i s ≡ refused j
Refuses pre (x ∷ post) i s j = (rest : List Sym) → run (pre ++ x ∷ rest) i s ≡ refused j

-- the run can be brought to an end after pre, and is refused there
record Stopped (xs : List Sym) (i : ℕ) (s : State) (j : ℕ) : Type 0 where
  pre : List Sym
  post : List Sym
  parts : pre ++ post ≡ xs
  place : j ≡ i + length pre
  begins : (rest : List Sym) × Ends (pre ++ rest) i s
  refuses : Refuses pre post i s j

stopped_end : (i : ℕ) (s : State) (all : List Sym) (j : ℕ) → Stands s all → Going s → run [] i s ≡ refused j → Stopped [] i s j
unfolding run
stopped_end i s all j k a e = record { pre = []; post = []; parts = refl; place = omega (arith, finish_place s i j a e); begins = ends s i all k a; refuses = e }

stopped_here : (x : Sym) (xs : List Sym) (i : ℕ) (s : State) (all : List Sym) (j d : ℕ) → Stands s all → Going s → step s x i ≡ dead d → run (x ∷ xs) i s ≡ refused j → Stopped (x ∷ xs) i s j
unfolding run
stopped_here x xs i s all j d k a h e =
    let q : DeadAt i (dead d) = subst (DeadAt i) h (step_at s x i a) in
    let r : j ≡ d = refused_place d j (sym (run_dead xs (i + 1) d) ∙ ap (run xs (i + 1)) (sym h) ∙ e) in
    record {
      pre = [];
      post = x ∷ xs;
      parts = refl;
      place = omega arith;
      begins = ends s i all k a;
      refuses = λ rest. ap (run rest (i + 1)) h ∙ run_dead rest (i + 1) d ∙ ap refused (sym r);
    }

refuses_later : (x : Sym) (pre post : List Sym) (i : ℕ) (s : State) (j : ℕ) → Refuses pre post (i + 1) (step s x i) j → Refuses (x ∷ pre) post i s j
unfolding run
refuses_later x pre [] i s j h = h
refuses_later x pre (y ∷ post) i s j h = h

stopped_later : (x : Sym) (xs : List Sym) (i : ℕ) (s : State) (j : ℕ) → Stopped xs (i + 1) (step s x i) j → Stopped (x ∷ xs) i s j
unfolding run
stopped_later x xs i s j r = record {
  pre = x ∷ r.pre;
  post = r.post;
  parts = ap (λ (l : List Sym). x ∷ l) r.parts;
  place = omega (arith, r.place);
  begins = r.begins;
  refuses = refuses_later x r.pre r.post i s j r.refuses;
}

data GoingOrDead : State → Type 0 where
  is_going : {s : State} → Going s → GoingOrDead s
  is_dead : {s : State} (d : ℕ) → s ≡ dead d → GoingOrDead s

going_or_dead : (s : State) → GoingOrDead s
going_or_dead (want K o) = is_going tt
going_or_dead (call c K o) = is_going tt
going_or_dead (have s K o) = is_going tt
going_or_dead (dead j) = is_dead j refl

stopped_next : (x : Sym) (xs : List Sym) (i : ℕ) (s : State) (all : List Sym) (j : ℕ) → Stands s all → Going s → run (x ∷ xs) i s ≡ refused j → (Going (step s x i) → Stopped xs (i + 1) (step s x i) j) → GoingOrDead (step s x i) → Stopped (x ∷ xs) i s j
stopped_next x xs i s all j k a e r (is_going y) = stopped_later x xs i s j (r y)
stopped_next x xs i s all j k a e r (is_dead d h) = stopped_here x xs i s all j d k a h e

stopped : (xs : List Sym) (i : ℕ) (s : State) (all : List Sym) (j : ℕ) → Stands s all → Going s → run xs i s ≡ refused j → Stopped xs i s j
unfolding run
stopped [] i s all j k a e = stopped_end i s all j k a e
stopped (x ∷ xs) i s all j k a e = stopped_next x xs i s all j k a e (λ y. stopped xs (i + 1) (step s x i) (all ++ x ∷ []) j (step_stands s x i all k) y e) (going_or_dead (step s x i))

-- ---- the claims
refuses_stops : (pre post : List Sym) (j : ℕ) → Refuses pre post 0 (want [] []) j → Stops pre post
unfolding reading
refuses_stops pre [] j h = λ f g. refused≢accepted j (postfix f) (sym h ∙ complete pre f g)
refuses_stops pre (x ∷ post) j h = λ b. refused≢accepted j (postfix b.1)
    (sym (h b.0) ∙ ap (λ (l : List Sym). run l 0 (want [] [])) (sym (append_assoc pre (x ∷ []) b.0)) ∙ complete ((pre ++ x ∷ []) ++ b.0) b.1 b.2)

-- a refusal is at a place where the grammar refuses
pub exact : (xs : List Sym) (j : ℕ) → reading xs ≡ refused j → Refusal xs j
unfolding reading
exact xs j e =
    let r : Stopped xs 0 (want [] []) j = stopped xs 0 (want [] []) [] j b_none tt e in
    let b : (rest : List Sym) × Ends (r.pre ++ rest) 0 (want [] []) = r.begins in
    let f : (f : Formula Name) × Derives (r.pre ++ b.0) f × (postfix f ≡ b.1.0) = sound (r.pre ++ b.0) b.1.0 b.1.1 in
    record { pre = r.pre; post = r.post; parts = r.parts; place = omega (arith, r.place); begins = (b.0, f.0, f.1); stops = refuses_stops r.pre r.post j r.refuses }

-- what is refused is no formula
stops_underived : (pre post : List Sym) → Stops pre post → (f : Formula Name) → Derives (pre ++ post) f → ⊥
stops_underived pre [] h f g = h f (subst (λ (l : List Sym). Derives l f) (append-nil pre) g)
stops_underived pre (x ∷ post) h f g = h (post, f, subst (λ (l : List Sym). Derives l f) (sym (append_assoc pre (x ∷ []) post)) g)

refusal_underived : (xs : List Sym) (j : ℕ) → Refusal xs j → (f : Formula Name) → Derives xs f → ⊥
refusal_underived xs j r f g = stops_underived r.pre r.post r.stops f (subst (λ (l : List Sym). Derives l f) (sym r.parts) g)

-- no place of refusal stands before another: what stands there would begin a formula after all
not_before : (xs : List Sym) (j k : ℕ) → Refusal xs j → Refusal xs k → j < k → ⊥
not_before xs j k r t h = go l.0 l.1 l.2
  where
    b : Begins t.pre
    b = t.begins

    l : (m : List Sym) × (r.pre ++ m ≡ t.pre) × (r.post ≡ m ++ t.post)
    l = prefix r.pre r.post t.pre t.post (r.parts ∙ sym t.parts) (omega (arith, r.place, t.place))

    go : (m : List Sym) → r.pre ++ m ≡ t.pre → r.post ≡ m ++ t.post → ⊥
    go [] e f = omega (arith, r.place, t.place, ap length (append-nil r.pre), ap length e)
    go (x ∷ m) e f =
        let n : Begins (r.pre ++ x ∷ []) → ⊥ = subst (λ (q : List Sym). Stops r.pre q) f r.stops in
        n (m ++ b.0, b.1, subst (λ (q : List Sym). Derives q b.1) (ap (λ (q : List Sym). q ++ b.0) (sym e) ∙ simp append_assoc) b.2)

one_place : (xs : List Sym) (j k : ℕ) → Refusal xs j → Refusal xs k → j ≡ k
one_place xs j k r t = omega (arith, not_before xs j k r t, not_before xs k j t r)

-- a place where the grammar refuses is the place of the refusal
pub exact_only : (xs : List Sym) (j : ℕ) → Refusal xs j → reading xs ≡ refused j
exact_only xs j r = by (reading xs) refl
  where
    by : (s : Result) → reading xs ≡ s → reading xs ≡ refused j
    by (accepted o) e = let f : (f : Formula Name) × Derives xs f × (postfix f ≡ o) = sound xs o e in absurd (refusal_underived xs j r f.0 f.1)
    by (refused k) e = e ∙ ap refused (one_place xs k j (exact xs k e) r)
