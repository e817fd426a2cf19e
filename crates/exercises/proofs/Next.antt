-- A token that may not come behind a string leads nowhere: the reader's state says whether a value is wanted or had, and no formula ends
-- with it. Assumes nothing.
use mathlib.Core.Path.{◌≡◌, refl, sym, ap, ◌∙◌, subst}
use mathlib.Core.Logic.{◌⊎◌, inl, inr, ⊎_elim}
use mathlib.Core.Bool.{Bool, true, false, true≢false, not, ◌&&◌, ◌||◌, beq, cond}
use mathlib.Core.List.{List, [], ◌∷◌, ◌++◌}
use Prim.Native.Nat.{ℕ, ◌+◌, ◌-◌}
use native.Mathlib.Omega.{arith}
use lib.Dec.{eqb}
use lib.ListN.{length, get_or, take}
use lib.Seq.{take_all}
use borrow.Author.Tests.{eqb-true}
use Rattle.lists.specs.Search.{collect, keep, below}
use Rattle.lists.proofs.Lists.{take_next}
use Rattle.lists.proofs.Truth.{beq_true, beq_false}
use Rattle.syntax.specs.Symbol.{Relation, leaf, minus, tilde, opening, closing, comma, is_zero, binary, constant, relation}
use Rattle.syntax.specs.Machine.{Sym, Frame, in_parenthesis, after_minus, after_tilde, after_binary, first_of, second_of, State, want, have, call, dead, allow, pop, loosest, rank_of, guard, shut, parted, part_at, zeroed, join, step, finish}
use Rattle.formula.specs.Sign.{joins_terms}
use Rattle.exercises.specs.Tokens.{table, entry, token_at}
use Rattle.exercises.specs.Lines.{line}
use Rattle.exercises.specs.Book.{is_accepted, walk}
use Rattle.exercises.specs.Next.{begins, awaits, ends, awaiting, may, nexts}
use Rattle.exercises.proofs.States.{Leads, after, leads_next, leads_after, whole_by, dead_none}
use Rattle.exercises.proofs.Branches.{branch}

-- a value is wanted (true) or had, or nothing can come
abbrev Sorted : Bool → State → Type 0
Sorted b (dead j) = Unit {0}
Sorted b (want K o) = b ≡ true
Sorted b (call c K o) = b ≡ true
Sorted b (have t K o) = b ≡ false

sorted_guard : (b c : Bool) (s : State) (i : ℕ) → Sorted b s → Sorted b (guard c s i)
sorted_guard b true s i h = h
sorted_guard b false s i h = tt

sorted_shut : (t : Bool) (K : List Frame) (o : List Sym) (i : ℕ) → Sorted false (shut t K o i)
sorted_shut t [] o i = tt
sorted_shut t (in_parenthesis ∷ K) o i = refl
sorted_shut t (after_minus ∷ K) o i = tt
sorted_shut t (after_tilde ∷ K) o i = tt
sorted_shut t (after_binary b ∷ K) o i = tt
sorted_shut t (first_of c ∷ K) o i = tt
sorted_shut t (second_of c ∷ K) o i = sorted_guard false t (have false K (o ++ relation c ∷ [])) i refl

sorted_parted : (K : List Frame) (o : List Sym) (i : ℕ) → Sorted true (parted K o i)
sorted_parted [] o i = tt
sorted_parted (in_parenthesis ∷ K) o i = tt
sorted_parted (after_minus ∷ K) o i = tt
sorted_parted (after_tilde ∷ K) o i = tt
sorted_parted (after_binary b ∷ K) o i = tt
sorted_parted (first_of c ∷ K) o i = refl
sorted_parted (second_of c ∷ K) o i = tt

-- the last token says which
sorted_step : (s : State) (x : Sym) (i : ℕ) → Sorted (awaits x) (step s x i)
sorted_step (dead j) x i = tt
sorted_step (want K o) (leaf x) i = refl
sorted_step (want K o) minus i = refl
sorted_step (want K o) tilde i = sorted_guard true (allow K) (want (after_tilde ∷ K) o) i refl
sorted_step (want K o) opening i = refl
sorted_step (want K o) closing i = tt
sorted_step (want K o) comma i = tt
sorted_step (want K o) is_zero i = tt
sorted_step (want K o) (binary b) i = tt
sorted_step (want K o) (constant c) i = sorted_guard false (allow K) (have false K (o ++ constant c ∷ [])) i refl
sorted_step (want K o) (relation c) i = sorted_guard true (allow K) (call c K o) i refl
sorted_step (call d K o) (leaf x) i = tt
sorted_step (call d K o) minus i = tt
sorted_step (call d K o) tilde i = tt
sorted_step (call d K o) opening i = refl
sorted_step (call d K o) closing i = tt
sorted_step (call d K o) comma i = tt
sorted_step (call d K o) is_zero i = tt
sorted_step (call d K o) (binary b) i = tt
sorted_step (call d K o) (constant c) i = tt
sorted_step (call d K o) (relation c) i = tt
sorted_step (have t K o) (leaf x) i = tt
sorted_step (have t K o) minus i = tt
sorted_step (have t K o) tilde i = tt
sorted_step (have t K o) opening i = tt
sorted_step (have t K o) closing i = let p = pop (loosest t) K o in sorted_shut t p.stack p.order i
sorted_step (have t K o) comma i = let p = pop 4 K o in sorted_guard true t (part_at p i) i (sorted_parted p.stack p.order i)
sorted_step (have t K o) is_zero i =
    let p = pop 4 K o in
    sorted_guard false t (zeroed p i) i (sorted_guard false (allow p.stack) (have false p.stack (p.order ++ is_zero ∷ [])) i refl)
sorted_step (have t K o) (binary b) i = sorted_guard true (beq t (joins_terms b)) (join b (pop (rank_of b) K o)) i refl
sorted_step (have t K o) (constant c) i = tt
sorted_step (have t K o) (relation c) i = tt

sorted_after : (b : Bool) (ks : List ℕ) (i : ℕ) (s : State) → Sorted b s → Sorted (awaiting b ks) (after ks i s)
sorted_after b [] i s h = h
sorted_after b (k ∷ ks) i s h = sorted_after (awaits (token_at k)) ks (i + 1) (step s (token_at k) i) (sorted_step s (token_at k) i)

-- a token of the other sort is refused
want_dies : (K : List Frame) (o : List Sym) (x : Sym) (i : ℕ) → begins x ≡ false → step (want K o) x i ≡ dead i
want_dies K o (leaf x) i h = absurd (true≢false h)
want_dies K o minus i h = absurd (true≢false h)
want_dies K o tilde i h = absurd (true≢false h)
want_dies K o opening i h = absurd (true≢false h)
want_dies K o closing i h = refl
want_dies K o comma i h = refl
want_dies K o is_zero i h = refl
want_dies K o (binary b) i h = refl
want_dies K o (constant c) i h = absurd (true≢false h)
want_dies K o (relation c) i h = absurd (true≢false h)

call_dies : (d : Relation) (K : List Frame) (o : List Sym) (x : Sym) (i : ℕ) → begins x ≡ false → step (call d K o) x i ≡ dead i
call_dies d K o (leaf x) i h = refl
call_dies d K o minus i h = refl
call_dies d K o tilde i h = refl
call_dies d K o opening i h = absurd (true≢false h)
call_dies d K o closing i h = refl
call_dies d K o comma i h = refl
call_dies d K o is_zero i h = refl
call_dies d K o (binary b) i h = refl
call_dies d K o (constant c) i h = refl
call_dies d K o (relation c) i h = refl

have_dies : (t : Bool) (K : List Frame) (o : List Sym) (x : Sym) (i : ℕ) → begins x ≡ true → step (have t K o) x i ≡ dead i
have_dies t K o (leaf x) i h = refl
have_dies t K o minus i h = refl
have_dies t K o tilde i h = refl
have_dies t K o opening i h = refl
have_dies t K o closing i h = absurd (true≢false (sym h))
have_dies t K o comma i h = absurd (true≢false (sym h))
have_dies t K o is_zero i h = absurd (true≢false (sym h))
have_dies t K o (binary b) i h = absurd (true≢false (sym h))
have_dies t K o (constant c) i h = refl
have_dies t K o (relation c) i h = refl

not_false : (c : Bool) → not c ≡ false → c ≡ true
not_false true h = refl
not_false false h = sym h

dies : (b : Bool) (s : State) (x : Sym) (i : ℕ) → Sorted b s → beq b (begins x) ≡ false → (j : ℕ) × (step s x i ≡ dead j)
dies b (dead j) x i w h = (j, refl)
dies b (want K o) x i w h = (i, want_dies K o x i (sym (beq_true (begins x)) ∙ ap (λ (c : Bool). beq c (begins x)) (sym w) ∙ h))
dies b (call d K o) x i w h = (i, call_dies d K o x i (sym (beq_true (begins x)) ∙ ap (λ (c : Bool). beq c (begins x)) (sym w) ∙ h))
dies b (have t K o) x i w h =
    (i, have_dies t K o x i (not_false (begins x) (sym (beq_false (begins x)) ∙ ap (λ (c : Bool). beq c (begins x)) (sym w) ∙ h)))

-- where a value is wanted, or a term is had, no formula ends
wanted_unended : (s : State) (n : ℕ) → Sorted true s → is_accepted (finish s n) ≡ false
wanted_unended (dead j) n h = refl
wanted_unended (want K o) n h = refl
wanted_unended (call c K o) n h = refl
wanted_unended (have t K o) n h = absurd (true≢false h)

unended : (s : State) (x : Sym) (i n : ℕ) → ends x ≡ false → is_accepted (finish (step s x i) n) ≡ false
unended (dead j) (leaf x) i n h = refl
unended (want K o) (leaf x) i n h = refl
unended (call d K o) (leaf x) i n h = refl
unended (have t K o) (leaf x) i n h = refl
unended s minus i n h = wanted_unended (step s minus i) n (sorted_step s minus i)
unended s tilde i n h = wanted_unended (step s tilde i) n (sorted_step s tilde i)
unended s opening i n h = wanted_unended (step s opening i) n (sorted_step s opening i)
unended s closing i n h = absurd (true≢false h)
unended s comma i n h = wanted_unended (step s comma i) n (sorted_step s comma i)
unended s is_zero i n h = absurd (true≢false h)
unended s (binary b) i n h = wanted_unended (step s (binary b) i) n (sorted_step s (binary b) i)
unended s (constant c) i n h = absurd (true≢false h)
unended s (relation c) i n h = wanted_unended (step s (relation c) i) n (sorted_step s (relation c) i)

-- ---- the walk

-- where f gives nothing at the others, those that are kept give all
collect_kept : (f : ℕ → List ℕ) (p : ℕ → Bool) → ((k : ℕ) → p k ≡ false → f k ≡ []) → (xs : List ℕ) → collect f xs ≡ collect f (keep p xs)
collect_kept f p h [] = refl
collect_kept f p h (x ∷ xs) = go (collect_kept f p h xs) (p x) refl
  where
    go : collect f xs ≡ collect f (keep p xs) → (b : Bool) → p x ≡ b → f x ++ collect f xs ≡ collect f (cond b (x ∷ keep p xs) (keep p xs))
    go r true e = ap (λ (l : List ℕ). f x ++ l) r
    go r false e = ap (λ (l : List ℕ). l ++ collect f xs) (h x e) ∙ r

refuted : (p l e : Bool) → (p && (not l || e)) ≡ false → (p ≡ false) ⊎ ((l ≡ true) × (e ≡ false))
refuted false l e h = inl refl
refuted true true e h = inr (refl, h)
refuted true false e h = absurd (true≢false h)

module _ (ks : List ℕ) (k : ℕ) where
  state : State
  state = after ks 0 (want [] [])

  onward : Leads (ks ++ k ∷ []) (step state (token_at k) (length ks))
  unfolding state
  onward = leads_next ks (after ks 0 (want [] [])) k (leads_after ks)

  other_sort : (m : ℕ) → beq (awaiting true ks) (begins (token_at k)) ≡ false → walk m (ks ++ k ∷ []) ≡ []
  unfolding state
  other_sort m h =
      let d = dies (awaiting true ks) state (token_at k) (length ks) (sorted_after true ks 0 (want [] []) refl) h in
      dead_none m (ks ++ k ∷ []) d.0 (subst (λ (s : State). Leads (ks ++ k ∷ []) s) d.1 onward)

  no_end : ends (token_at k) ≡ false → walk 0 (ks ++ k ∷ []) ≡ []
  unfolding walk
  no_end h =
      ap (λ (b : Bool). cond b ((ks ++ k ∷ []) ∷ []) [])
      (whole_by (ks ++ k ∷ []) (step state (token_at k) (length ks)) onward ∙ unended state (token_at k) (length ks) (length (ks ++ k ∷ [])) h)

  -- a token that may not come has no line
  unmay : (left : ℕ) → may (awaiting true ks) (eqb left 1) (token_at k) ≡ false → walk (left - 1) (ks ++ k ∷ []) ≡ []
  unmay left h =
      ⊎_elim (λ e. other_sort (left - 1) e)
      (λ q. let z : left ≡ 1 = eqb-true left 1 q.0 in
      let n : left - 1 ≡ 0 = omega arith in
      ap (λ (m : ℕ). walk m (ks ++ k ∷ [])) n ∙ no_end q.1)
      (refuted (beq (awaiting true ks) (begins (token_at k))) (eqb left 1) (ends (token_at k)) h)

pub skipped : (left : ℕ) (ks : List ℕ) (k : ℕ) → may (awaiting true ks) (eqb left 1) (token_at k) ≡ false → branch left ks k ≡ []
skipped left ks k h = ap (collect line) (unmay ks k left h)

-- those that may come have all lines
pub kept_lines : (left : ℕ) (ks ts : List ℕ) → ts ≡ nexts (awaiting true ks) (eqb left 1) → collect (branch left ks) (below 20) ≡ collect (branch left ks) ts
unfolding nexts
kept_lines left ks ts e =
    collect_kept (branch left ks) (λ k. may (awaiting true ks) (eqb left 1) (token_at k)) (skipped left ks) (below 20)
    ∙ ap (collect (branch left ks)) (sym e)

-- ---- the last token

last_awaits : (b : Bool) (ks : List ℕ) (k : ℕ) → awaiting b (ks ++ k ∷ []) ≡ awaits (token_at k)
last_awaits b [] k = refl
last_awaits b (x ∷ ks) k = last_awaits (awaits (token_at x)) ks k

pub awaits_first : (ks : List ℕ) → length ks ≡ 0 → true ≡ awaiting true ks
awaits_first [] e = refl
awaits_first (k ∷ ks) e = absurd (omega arith)

pub awaits_behind : (ks : List ℕ) → (length ks ≡ 0 → ⊥) → awaits (token_at (get_or ks (length ks - 1) 0)) ≡ awaiting true ks
awaits_behind ks z =
    let n : ℕ = length ks in
    let e : n - 1 + 1 ≡ n = omega (arith, z) in
    let all : take (n - 1) ks ++ get_or ks (n - 1) 0 ∷ [] ≡ ks = sym (take_next ks (n - 1) 0 (omega (arith, z))) ∙ ap (λ (m : ℕ). take m ks) e ∙ take_all n ks (omega arith) in
    sym (last_awaits true (take (n - 1) ks) (get_or ks (n - 1) 0)) ∙ ap (awaiting true) all

-- ---- the code's tables

pub values : (0 ∷ 1 ∷ 2 ∷ 3 ∷ 4 ∷ 5 ∷ 6 ∷ 7 ∷ 12 ∷ 15 ∷ 16 ∷ []) ≡ nexts true false
unfolding nexts entry table
values = refl

pub last_values : (0 ∷ 1 ∷ []) ≡ nexts true true
unfolding nexts entry table
last_values = refl

pub signs : (8 ∷ 9 ∷ 10 ∷ 11 ∷ 13 ∷ 14 ∷ 17 ∷ 18 ∷ 19 ∷ []) ≡ nexts false false
unfolding nexts entry table
signs = refl

pub last_signs : (8 ∷ 17 ∷ []) ≡ nexts false true
unfolding nexts entry table
last_signs = refl
