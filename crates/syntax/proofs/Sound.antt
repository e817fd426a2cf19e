-- What the machine accepts is a formula of the grammar, with its postfix order: every state stands for the tokens read so
-- far, its stack for what is begun and its last value for a tree, and each token keeps that so. Assumes nothing.
use Prim.Native.Nat.{ℕ, suc, ◌+◌, ◌≤◌, ◌<◌}
use native.Mathlib.Nat.{le_refl}
use native.Mathlib.Omega.{arith}
use mathlib.Core.Path.{◌≡◌, refl, sym, ap, subst, ◌∙◌}
use mathlib.Core.List.{List, [], ◌∷◌, ◌++◌, append_assoc, append-nil}
use mathlib.Core.Bool.{Bool, true, false, true≢false, beq}
use lib.Dec.{ltb}
use borrow.Author.Tests.{ltb-true, ltb-false}
use Rattle.lists.proofs.Truth.{beq_same}
use Rattle.formula.specs.declared.Sign.{Sign}
use Rattle.formula.specs.declared.Sign.TheVariants.{Implies, Iff, Or, And, Plus, Times}
use Rattle.formula.specs.Sign.{joins_terms}
use Rattle.formula.specs.Formula.{Term, Atom, Form, Formula, Name}
use Rattle.syntax.specs.Symbol.{Leaf, Relation, leaf, minus, tilde, opening, closing, comma, is_zero, binary, constant, relation}
use Rattle.syntax.specs.Grammar.{leaf_term, IsTerm, t_leaf, t_minus, t_looser, f_empty, f_tilde, Derives}
use Rattle.syntax.specs.Postfix.{term_after, formula_after, postfix}
use Rattle.syntax.specs.Machine.{Sym, rank_of, loosest, Frame, in_parenthesis, after_minus, after_tilde, after_binary, first_of, second_of, need, sign_of, allow, State, want, have, call, dead, Popped, pop, guard, shut, zeroed, parted, join, step, accepted, refused, done, finish, run, reading}
use Rattle.syntax.specs.Reader.{top}
use Rattle.syntax.proofs.MachineLaws.{pop_feed, pop_keep}
use Rattle.syntax.proofs.Ranks.{Tree, tightest_rank, Reads, after, joined, constant_of, related, after_leaf, after_constant, after_related, after_joined, r_constant, r_related, r_parenthesis, r_binary, to_rank}

-- the frames stand for the tokens before the place, with the order o
pub data Begun : List Frame → List Sym → List Sym → Type 0 where
  b_none : Begun [] [] []
  b_parenthesis : {K : List Frame} {ts o : List Sym} → Begun K ts o → Begun (in_parenthesis ∷ K) (ts ++ opening ∷ []) o
  b_minus : {K : List Frame} {ts o : List Sym} → Begun K ts o → Begun (after_minus ∷ K) (ts ++ minus ∷ []) o
  b_tilde : {K : List Frame} {ts o : List Sym} → allow K ≡ true → Begun K ts o → Begun (after_tilde ∷ K) (ts ++ tilde ∷ []) o
  b_binary : {b : Sign} {K : List Frame} {ts o : List Sym} (us : List Sym) (t : Tree (joins_terms b)) → (joins_terms b ≡ false → allow K ≡ true) → top K ≤ rank_of b → Begun K ts o → Reads (joins_terms b) (rank_of b) us t → Begun (after_binary b ∷ K) (ts ++ (us ++ binary b ∷ [])) (after (joins_terms b) t o)
  b_first : {c : Relation} {K : List Frame} {ts o : List Sym} → allow K ≡ true → Begun K ts o → Begun (first_of c ∷ K) (ts ++ (relation c ∷ opening ∷ [])) o
  b_second : {c : Relation} {K : List Frame} {ts us o : List Sym} {t : Term Name} → allow K ≡ true → Begun K ts o → IsTerm 0 us t → Begun (second_of c ∷ K) (ts ++ (relation c ∷ opening ∷ us ++ comma ∷ [])) (term_after t o)

-- the last of the tokens are a value of the sort s and rank m, before which ts with the order c stand
pub record Valued (s : Bool) (m : ℕ) (K : List Frame) (ts c o all : List Sym) : Type 0 where
  pub own : List Sym
  pub tree : Tree s
  pub reads : Reads s m own tree
  pub tokens : ts ++ own ≡ all
  pub ordered : after s tree c ≡ o
  pub allowed : s ≡ false → allow K ≡ true

-- a binary sign takes only a value of the sort that it joins
sort_of : (s : Bool) (b : Sign) → loosest s < suc (rank_of b) → (s ≡ false → allow (after_binary b ∷ []) ≡ true) → s ≡ joins_terms b
sort_of true Implies h a = absurd (omega arith)
sort_of true Iff h a = absurd (omega arith)
sort_of true Or h a = absurd (omega arith)
sort_of true And h a = absurd (omega arith)
sort_of true Plus h a = refl
sort_of true Times h a = refl
sort_of false Implies h a = refl
sort_of false Iff h a = refl
sort_of false Or h a = refl
sort_of false And h a = refl
sort_of false Plus h a = a refl
sort_of false Times h a = a refl

need_below : (f : Frame) → need f ≤ 6
need_below in_parenthesis = omega arith
need_below (first_of c) = omega arith
need_below (second_of c) = omega arith
need_below after_minus = omega arith
need_below after_tilde = omega arith
need_below (after_binary Implies) = omega arith
need_below (after_binary Iff) = omega arith
need_below (after_binary Or) = omega arith
need_below (after_binary And) = omega arith
need_below (after_binary Plus) = omega arith
need_below (after_binary Times) = omega arith

-- the frame on top waits for no more than the tightest value of its sort
top_term : (K : List Frame) → top K ≤ 6
top_term [] = omega arith
top_term (f ∷ K) = need_below f

top_formula : (K : List Frame) → allow K ≡ true → top K ≤ 3
top_formula [] a = omega arith
top_formula (in_parenthesis ∷ K) a = omega arith
top_formula (first_of c ∷ K) a = omega arith
top_formula (second_of c ∷ K) a = omega arith
top_formula (after_minus ∷ K) a = absurd (true≢false (sym a))
top_formula (after_tilde ∷ K) a = omega arith
top_formula (after_binary Implies ∷ K) a = omega arith
top_formula (after_binary Iff ∷ K) a = omega arith
top_formula (after_binary Or ∷ K) a = omega arith
top_formula (after_binary And ∷ K) a = omega arith
top_formula (after_binary Plus ∷ K) a = absurd (true≢false (sym a))
top_formula (after_binary Times ∷ K) a = absurd (true≢false (sym a))

top_tightest : (s : Bool) (K : List Frame) → (s ≡ false → allow K ≡ true) → top K ≤ tightest_rank s
top_tightest true K a = top_term K
top_tightest false K a = top_formula K (a refl)

-- ---- frames that get their value
-- what popping leaves
record Popping (s : Bool) (l : ℕ) (q : Popped) (all : List Sym) : Type 0 where
  before : List Sym
  order_before : List Sym
  begun : Begun q.stack before order_before
  value : Valued s l q.stack before order_before q.order all
  low : top q.stack ≤ l

abbrev Pops : List Frame → List Sym → List Sym → Type 0
Pops K ts c = (s : Bool) (l m : ℕ) (o all : List Sym) → loosest s ≤ l → l ≤ m → top K ≤ m → Valued s m K ts c o all → Popping s l (pop l K o) all

pops_stop : (s : Bool) (l m : ℕ) (K : List Frame) (ts c o all : List Sym) → Begun K ts c → loosest s ≤ l → l ≤ m → top K ≤ l → Valued s m K ts c o all → Popping s l (pop l K o) all
pops_stop s l m K ts c o all g a h w v =
    subst (λ (q : Popped). Popping s l q all) (sym (pop_keep l K o w))
    (record {
      before = ts;
      order_before = c;
      begun = g;
      low = w;
      value = record { own = v.own; tree = v.tree; reads = to_rank s l m v.own v.tree a h v.reads; tokens = v.tokens; ordered = v.ordered; allowed = v.allowed };
    })

-- a frame whose rank is above l takes the value
pops_case : (f : Frame) (K : List Frame) (l : ℕ) (o : List Sym) (P : Popped → Type 0) → (l < need f → P (pop l K (o ++ sign_of f ∷ []))) → (need f ≤ l → P (pop l (f ∷ K) o)) → P (pop l (f ∷ K) o)
pops_case f K l o P y n = go (ltb l (need f)) refl
  where
    go : (b : Bool) → ltb l (need f) ≡ b → P (pop l (f ∷ K) o)
    go true e = subst P (sym (pop_feed l f K o (ltb-true l (need f) e))) (y (ltb-true l (need f) e))
    go false e = n (ltb-false l (need f) e)

value_minus : (m : ℕ) (K : List Frame) (ts c o all : List Sym) → 6 ≤ m → Valued true m (after_minus ∷ K) (ts ++ minus ∷ []) c o all → Valued true 6 K ts c (o ++ minus ∷ []) all
unfolding term_after
value_minus m K ts c o all h v = record {
  own = minus ∷ v.own;
  tree = Term.complement v.tree;
  reads = t_minus (to_rank true 6 m v.own v.tree (omega arith) h v.reads);
  tokens = simp append_assoc at v.tokens;
  ordered = ap (λ (x : List Sym). x ++ minus ∷ []) v.ordered;
  allowed = λ e. absurd (true≢false e);
}

value_tilde : (m : ℕ) (K : List Frame) (ts c o all : List Sym) → allow K ≡ true → 3 ≤ m → Valued false m (after_tilde ∷ K) (ts ++ tilde ∷ []) c o all → Valued false 3 K ts c (o ++ tilde ∷ []) all
unfolding formula_after
value_tilde m K ts c o all a h v = record {
  own = tilde ∷ v.own;
  tree = Form.negation v.tree;
  reads = f_tilde (to_rank false 3 m v.own v.tree (omega arith) h v.reads);
  tokens = simp append_assoc at v.tokens;
  ordered = ap (λ (x : List Sym). x ++ tilde ∷ []) v.ordered;
  allowed = λ e. a;
}

rank_loosest : (b : Sign) → loosest (joins_terms b) ≤ rank_of b
rank_loosest Implies = omega arith
rank_loosest Iff = omega arith
rank_loosest Or = omega arith
rank_loosest And = omega arith
rank_loosest Plus = omega arith
rank_loosest Times = omega arith

value_binary : (b : Sign) (m : ℕ) (K : List Frame) (ts us c o all : List Sym) (t : Tree (joins_terms b)) → (joins_terms b ≡ false → allow K ≡ true) → Reads (joins_terms b) (rank_of b) us t → suc (rank_of b) ≤ m → Valued (joins_terms b) m (after_binary b ∷ K) (ts ++ (us ++ binary b ∷ [])) (after (joins_terms b) t c) o all → Valued (joins_terms b) (rank_of b) K ts c (o ++ binary b ∷ []) all
value_binary b m K ts us c o all t a g h v = record {
  own = us ++ binary b ∷ v.own;
  tree = joined b t v.tree;
  reads = r_binary b us v.own t v.tree g (to_rank (joins_terms b) (suc (rank_of b)) m v.own v.tree (omega (arith, rank_loosest b)) h v.reads);
  tokens = simp append_assoc at v.tokens;
  ordered = after_joined b t v.tree c ∙ ap (λ (x : List Sym). x ++ binary b ∷ []) v.ordered;
  allowed = a;
}

pops_none : Pops [] [] []
pops_none s l m o all a h w v = pops_stop s l m [] [] [] o all b_none a h (omega arith) v

pops_parenthesis : (K : List Frame) (ts c : List Sym) → Begun K ts c → Pops (in_parenthesis ∷ K) (ts ++ opening ∷ []) c
pops_parenthesis K ts c g s l m o all a h w v = pops_stop s l m (in_parenthesis ∷ K) (ts ++ opening ∷ []) c o all (b_parenthesis g) a h (omega arith) v

pops_minus : (K : List Frame) (ts c : List Sym) → Begun K ts c → Pops K ts c → Pops (after_minus ∷ K) (ts ++ minus ∷ []) c
pops_minus K ts c g r true l m o all a h w v = pops_case after_minus K l o (λ q. Popping true l q all)
    (λ x. r true l 6 (o ++ minus ∷ []) all a (omega arith) (top_term K) (value_minus m K ts c o all w v))
    (λ x. pops_stop true l m (after_minus ∷ K) (ts ++ minus ∷ []) c o all (b_minus g) a h x v)
pops_minus K ts c g r false l m o all a h w v = absurd (true≢false (sym (v.allowed refl)))

pops_tilde : (K : List Frame) (ts c : List Sym) → allow K ≡ true → Begun K ts c → Pops K ts c → Pops (after_tilde ∷ K) (ts ++ tilde ∷ []) c
pops_tilde K ts c f g r true l m o all a h w v = pops_stop true l m (after_tilde ∷ K) (ts ++ tilde ∷ []) c o all (b_tilde f g) a h (omega arith) v
pops_tilde K ts c f g r false l m o all a h w v = pops_case after_tilde K l o (λ q. Popping false l q all)
    (λ x. r false l 3 (o ++ tilde ∷ []) all a (omega arith) (top_formula K f) (value_tilde m K ts c o all f w v))
    (λ x. pops_stop false l m (after_tilde ∷ K) (ts ++ tilde ∷ []) c o all (b_tilde f g) a h x v)

pops_binary : (b : Sign) (K : List Frame) (ts us c : List Sym) (t : Tree (joins_terms b)) → (joins_terms b ≡ false → allow K ≡ true) → top K ≤ rank_of b → Begun K ts c → Reads (joins_terms b) (rank_of b) us t → Pops K ts c → Pops (after_binary b ∷ K) (ts ++ (us ++ binary b ∷ [])) (after (joins_terms b) t c)
pops_binary b K ts us c t f d g e r s l m o all a h w v = pops_case (after_binary b) K l o (λ q. Popping s l q all)
    (λ x. let q : s ≡ joins_terms b = sort_of s b (omega arith) v.allowed in
    subst (λ (z : Bool). Popping z l (pop l K (o ++ binary b ∷ [])) all) (sym q)
    (r (joins_terms b) l (rank_of b) (o ++ binary b ∷ []) all (subst (λ (z : Bool). loosest z ≤ l) q a) (omega arith) d
    (value_binary b m K ts us c o all t f e w (subst (λ (z : Bool). Valued z m (after_binary b ∷ K) (ts ++ (us ++ binary b ∷ [])) (after (joins_terms b) t c) o all) q v))))
    (λ x. pops_stop s l m (after_binary b ∷ K) (ts ++ (us ++ binary b ∷ [])) (after (joins_terms b) t c) o all (b_binary us t f d g e) a h x v)

pops_first : (d : Relation) (K : List Frame) (ts c : List Sym) → allow K ≡ true → Begun K ts c → Pops (first_of d ∷ K) (ts ++ (relation d ∷ opening ∷ [])) c
pops_first d K ts c f g s l m o all a h w v = pops_stop s l m (first_of d ∷ K) (ts ++ (relation d ∷ opening ∷ [])) c o all (b_first f g) a h (omega arith) v

pops_second : (d : Relation) (K : List Frame) (ts us c : List Sym) (t : Term Name) → allow K ≡ true → Begun K ts c → IsTerm 0 us t → Pops (second_of d ∷ K) (ts ++ (relation d ∷ opening ∷ us ++ comma ∷ [])) (term_after t c)
pops_second d K ts us c t f g r s l m o all a h w v = pops_stop s l m (second_of d ∷ K) (ts ++ (relation d ∷ opening ∷ us ++ comma ∷ [])) (term_after t c) o all (b_second f g r) a h (omega arith) v

pops : {K : List Frame} {ts c : List Sym} → Begun K ts c → Pops K ts c
pops b_none = pops_none
pops (b_parenthesis {K = K} {ts = ts} {o = c} g) = pops_parenthesis K ts c g
pops (b_minus {K = K} {ts = ts} {o = c} g) = pops_minus K ts c g (pops g)
pops (b_tilde {K = K} {ts = ts} {o = c} f g) = pops_tilde K ts c f g (pops g)
pops (b_binary {b = b} {K = K} {ts = ts} {o = c} us t f d g e) = pops_binary b K ts us c t f d g e (pops g)
pops (b_first {c = d} {K = K} {ts = ts} {o = c} f g) = pops_first d K ts c f g
pops (b_second {c = d} {K = K} {ts = ts} {us = us} {o = c} {t = t} f g r) = pops_second d K ts us c t f g r

-- ---- one token
-- what stands after a value stands after all tokens so far
follows : (before us own all post : List Sym) → before ≡ us → before ++ own ≡ all → us ++ (own ++ post) ≡ all ++ post
follows before us own all post e h = rw (← h, e) (sym (append_assoc us own post))

-- the state has a value, the last of the tokens so far
pub record Holding (s : Bool) (K : List Frame) (o all : List Sym) : Type 0 where
  pub before : List Sym
  pub order_before : List Sym
  pub begun : Begun K before order_before
  pub value : Valued s (tightest_rank s) K before order_before o all

-- a state stands for the tokens so far
abbrev pub Stands : State → List Sym → Type 0
Stands (want K o) all = Begun K all o
Stands (have s K o) all = Holding s K o all
Stands (call c K o) all = (ts : List Sym) × (all ≡ ts ++ relation c ∷ []) × Begun K ts o × (allow K ≡ true)
Stands (dead j) all = Unit {0}

popped : (s : Bool) (l : ℕ) (K : List Frame) (o all : List Sym) → loosest s ≤ l → l ≤ tightest_rank s → Holding s K o all → Popping s l (pop l K o) all
popped s l K o all a h v = pops v.begun s l (tightest_rank s) o all a h (top_tightest s K v.value.allowed) v.value

guard_stands : (b : Bool) (s : State) (i : ℕ) (all : List Sym) → (b ≡ true → Stands s all) → Stands (guard b s i) all
guard_stands true s i all h = h refl
guard_stands false s i all h = tt

-- the frame on top and what it stands for
inside_parenthesis : {K : List Frame} {ts c : List Sym} → Begun (in_parenthesis ∷ K) ts c → (us : List Sym) × (ts ≡ us ++ opening ∷ []) × Begun K us c
inside_parenthesis (b_parenthesis {ts = us} g) = (us, refl, g)

inside_first : {d : Relation} {K : List Frame} {ts x : List Sym} → Begun (first_of d ∷ K) ts x → (vs : List Sym) × (ts ≡ vs ++ (relation d ∷ opening ∷ [])) × Begun K vs x × (allow K ≡ true)
inside_first (b_first {ts = vs} f g) = (vs, refl, g, f)

-- C or <= is open before the second term: the first one and its tokens
record Second (d : Relation) (K : List Frame) (ts x : List Sym) : Type 0 where
  before : List Sym
  own : List Sym
  order_before : List Sym
  tree : Term Name
  tokens : ts ≡ before ++ (relation d ∷ opening ∷ own ++ comma ∷ [])
  ordered : x ≡ term_after tree order_before
  begun : Begun K before order_before
  reads : IsTerm 0 own tree
  allowed : allow K ≡ true

inside_second : {d : Relation} {K : List Frame} {ts x : List Sym} → Begun (second_of d ∷ K) ts x → Second d K ts x
inside_second (b_second {ts = vs} {us = us} {o = c} {t = t} f g r) = record { before = vs; own = us; order_before = c; tree = t; tokens = refl; ordered = refl; begun = g; reads = r; allowed = f }

stands_leaf : (x : Leaf Name) (K : List Frame) (o all : List Sym) → Begun K all o → Holding true K (o ++ leaf x ∷ []) (all ++ leaf x ∷ [])
stands_leaf x K o all g = record {
  before = all;
  order_before = o;
  begun = g;
  value = record { own = leaf x ∷ []; tree = leaf_term x; reads = t_leaf; tokens = refl; ordered = after_leaf x o; allowed = λ e. absurd (true≢false e) };
}

stands_constant : (c : Bool) (K : List Frame) (o all : List Sym) → allow K ≡ true → Begun K all o → Holding false K (o ++ constant c ∷ []) (all ++ constant c ∷ [])
stands_constant c K o all a g = record {
  before = all;
  order_before = o;
  begun = g;
  value = record { own = constant c ∷ []; tree = constant_of c; reads = r_constant c; tokens = refl; ordered = after_constant c o; allowed = λ e. a };
}

stands_call : (d : Relation) (K : List Frame) (o all : List Sym) → Stands (call d K o) all → Begun (first_of d ∷ K) (all ++ opening ∷ []) o
stands_call d K o all k = subst (λ (x : List Sym). Begun (first_of d ∷ K) x o) (sym (append_assoc k.0 (relation d ∷ []) (opening ∷ [])) ∙ ap (λ (x : List Sym). x ++ opening ∷ []) (sym k.1)) (b_first k.3 k.2)

close_parenthesis : (s : Bool) (K : List Frame) (before c o all : List Sym) → Begun (in_parenthesis ∷ K) before c → Valued s (loosest s) (in_parenthesis ∷ K) before c o all → Holding s K o (all ++ closing ∷ [])
close_parenthesis s K before c o all g v =
    let i : (us : List Sym) × (before ≡ us ++ opening ∷ []) × Begun K us c = inside_parenthesis g in
    record {
      before = i.0;
      order_before = c;
      begun = i.2;
      value = record {
        own = opening ∷ v.own ++ closing ∷ [];
        tree = v.tree;
        reads = r_parenthesis s v.own v.tree v.reads;
        tokens = sym (append_assoc i.0 (opening ∷ []) (v.own ++ closing ∷ [])) ∙ follows before (i.0 ++ opening ∷ []) v.own all (closing ∷ []) i.1 v.tokens;
        ordered = v.ordered;
        allowed = v.allowed;
      };
    }

close_second : (d : Relation) (K : List Frame) (before c o all : List Sym) → Begun (second_of d ∷ K) before c → Valued true 4 (second_of d ∷ K) before c o all → Holding false K (o ++ relation d ∷ []) (all ++ closing ∷ [])
close_second d K before c o all g v =
    let i : Second d K before c = inside_second g in
    record {
      before = i.before;
      order_before = i.order_before;
      begun = i.begun;
      value = record {
        own = relation d ∷ opening ∷ i.own ++ (comma ∷ v.own ++ closing ∷ []);
        tree = related d i.tree v.tree;
        reads = r_related d i.reads (t_looser v.reads);
        tokens = simp append_assoc at (follows before (i.before ++ (relation d ∷ opening ∷ i.own ++ comma ∷ [])) v.own all (closing ∷ []) i.tokens v.tokens);
        ordered = after_related d i.tree v.tree i.order_before ∙ ap (λ (x : List Sym). term_after v.tree x ++ relation d ∷ []) (sym i.ordered) ∙ ap (λ (x : List Sym). x ++ relation d ∷ []) v.ordered;
        allowed = λ z. i.allowed;
      };
    }

shut_stands : (s : Bool) (K : List Frame) (before c o : List Sym) (i : ℕ) (all : List Sym) → Begun K before c → Valued s (loosest s) K before c o all → Stands (shut s K o i) (all ++ closing ∷ [])
shut_stands s [] before c o i all g v = tt
shut_stands s (in_parenthesis ∷ K) before c o i all g v = close_parenthesis s K before c o all g v
shut_stands s (after_minus ∷ K) before c o i all g v = tt
shut_stands s (after_tilde ∷ K) before c o i all g v = tt
shut_stands s (after_binary b ∷ K) before c o i all g v = tt
shut_stands s (first_of d ∷ K) before c o i all g v = tt
shut_stands true (second_of d ∷ K) before c o i all g v = close_second d K before c o all g v
shut_stands false (second_of d ∷ K) before c o i all g v = tt

parted_stands : (K : List Frame) (before c o : List Sym) (i : ℕ) (all : List Sym) → Begun K before c → Valued true 4 K before c o all → Stands (parted K o i) (all ++ comma ∷ [])
parted_stands [] before c o i all g v = tt
parted_stands (in_parenthesis ∷ K) before c o i all g v = tt
parted_stands (after_minus ∷ K) before c o i all g v = tt
parted_stands (after_tilde ∷ K) before c o i all g v = tt
parted_stands (after_binary b ∷ K) before c o i all g v = tt
parted_stands (first_of d ∷ K) before c o i all g v =
    let j : (vs : List Sym) × (before ≡ vs ++ (relation d ∷ opening ∷ [])) × Begun K vs c × (allow K ≡ true) = inside_first g in
    subst (λ (x : List Sym). Begun (second_of d ∷ K) (all ++ comma ∷ []) x) v.ordered
    (subst (λ (x : List Sym). Begun (second_of d ∷ K) x (term_after v.tree c))
    (sym (append_assoc j.0 (relation d ∷ opening ∷ []) (v.own ++ comma ∷ [])) ∙ follows before (j.0 ++ (relation d ∷ opening ∷ [])) v.own all (comma ∷ []) j.1 v.tokens)
    (b_second j.3 j.2 (t_looser v.reads)))
parted_stands (second_of d ∷ K) before c o i all g v = tt

zeroed_stands : (q : Popped) (i : ℕ) (all : List Sym) → Popping true 4 q all → Stands (zeroed q i) (all ++ is_zero ∷ [])
unfolding formula_after
zeroed_stands q i all p = guard_stands (allow q.stack) (have false q.stack (q.order ++ is_zero ∷ [])) i (all ++ is_zero ∷ []) (λ e.
    record {
      before = p.before;
      order_before = p.order_before;
      begun = p.begun;
      value = record {
        own = p.value.own ++ is_zero ∷ [];
        tree = Form.atom (Atom.empty p.value.tree);
        reads = f_empty (t_looser p.value.reads);
        tokens = follows p.before p.before p.value.own all (is_zero ∷ []) refl p.value.tokens;
        ordered = ap (λ (x : List Sym). x ++ is_zero ∷ []) p.value.ordered;
        allowed = λ z. e;
      };
    })

join_stands : (b : Sign) (q : Popped) (all : List Sym) → Popping (joins_terms b) (rank_of b) q all → Begun (after_binary b ∷ q.stack) (all ++ binary b ∷ []) q.order
join_stands b q all p =
    subst (λ (x : List Sym). Begun (after_binary b ∷ q.stack) (all ++ binary b ∷ []) x) p.value.ordered
    (subst (λ (x : List Sym). Begun (after_binary b ∷ q.stack) x (after (joins_terms b) p.value.tree p.order_before))
    (follows p.before p.before p.value.own all (binary b ∷ []) refl p.value.tokens)
    (b_binary p.value.own p.value.tree p.value.allowed p.low p.begun p.value.reads))

rank_tightest : (b : Sign) → rank_of b ≤ tightest_rank (joins_terms b)
rank_tightest Implies = omega arith
rank_tightest Iff = omega arith
rank_tightest Or = omega arith
rank_tightest And = omega arith
rank_tightest Plus = omega arith
rank_tightest Times = omega arith

binary_stands : (s : Bool) (b : Sign) (K : List Frame) (o : List Sym) (i : ℕ) (all : List Sym) → Holding s K o all → Stands (step (have s K o) (binary b) i) (all ++ binary b ∷ [])
binary_stands s b K o i all v = guard_stands (beq s (joins_terms b)) (join b (pop (rank_of b) K o)) i (all ++ binary b ∷ []) (λ e.
    join_stands b (pop (rank_of b) K o) all (popped (joins_terms b) (rank_of b) K o all (rank_loosest b) (rank_tightest b) (subst (λ (z : Bool). Holding z K o all) (beq_same s (joins_terms b) e) v)))

loosest_tightest : (s : Bool) → loosest s ≤ tightest_rank s
loosest_tightest true = omega arith
loosest_tightest false = omega arith

pub step_stands : (s : State) (x : Sym) (i : ℕ) (all : List Sym) → Stands s all → Stands (step s x i) (all ++ x ∷ [])
step_stands (dead j) x i all k = tt
step_stands (want K o) (leaf x) i all k = stands_leaf x K o all k
step_stands (want K o) minus i all k = b_minus k
step_stands (want K o) tilde i all k = guard_stands (allow K) (want (after_tilde ∷ K) o) i (all ++ tilde ∷ []) (λ e. b_tilde e k)
step_stands (want K o) opening i all k = b_parenthesis k
step_stands (want K o) closing i all k = tt
step_stands (want K o) comma i all k = tt
step_stands (want K o) is_zero i all k = tt
step_stands (want K o) (binary b) i all k = tt
step_stands (want K o) (constant c) i all k = guard_stands (allow K) (have false K (o ++ constant c ∷ [])) i (all ++ constant c ∷ []) (λ e. stands_constant c K o all e k)
step_stands (want K o) (relation c) i all k = guard_stands (allow K) (call c K o) i (all ++ relation c ∷ []) (λ e. (all, refl, k, e))
step_stands (call d K o) (leaf x) i all k = tt
step_stands (call d K o) minus i all k = tt
step_stands (call d K o) tilde i all k = tt
step_stands (call d K o) opening i all k = stands_call d K o all k
step_stands (call d K o) closing i all k = tt
step_stands (call d K o) comma i all k = tt
step_stands (call d K o) is_zero i all k = tt
step_stands (call d K o) (binary b) i all k = tt
step_stands (call d K o) (constant c) i all k = tt
step_stands (call d K o) (relation c) i all k = tt
step_stands (have s K o) (leaf x) i all k = tt
step_stands (have s K o) minus i all k = tt
step_stands (have s K o) tilde i all k = tt
step_stands (have s K o) opening i all k = tt
step_stands (have s K o) closing i all k =
    let p : Popping s (loosest s) (pop (loosest s) K o) all = popped s (loosest s) K o all (le_refl (loosest s)) (loosest_tightest s) k in
    shut_stands s (pop (loosest s) K o).stack p.before p.order_before (pop (loosest s) K o).order i all p.begun p.value
step_stands (have true K o) comma i all k =
    let p : Popping true 4 (pop 4 K o) all = popped true 4 K o all (omega arith) (omega arith) k in
    parted_stands (pop 4 K o).stack p.before p.order_before (pop 4 K o).order i all p.begun p.value
step_stands (have false K o) comma i all k = tt
step_stands (have true K o) is_zero i all k = zeroed_stands (pop 4 K o) i all (popped true 4 K o all (omega arith) (omega arith) k)
step_stands (have false K o) is_zero i all k = tt
step_stands (have s K o) (binary b) i all k = binary_stands s b K o i all k
step_stands (have s K o) (constant c) i all k = tt
step_stands (have s K o) (relation c) i all k = tt

-- ---- the whole text
-- the tokens are a formula of the order o
abbrev FormulaWith : List Sym → List Sym → Type 0
FormulaWith xs o = (f : Formula Name) × Derives xs f × (postfix f ≡ o)

nothing_before : {ts c : List Sym} → Begun [] ts c → (ts ≡ []) × (c ≡ [])
nothing_before b_none = (refl, refl)

pub refused≢accepted : (i : ℕ) (d : List Sym) → refused i ≡ accepted d → ⊥
refused≢accepted i d e = let z : ◌≡◌ {A = ℕ} 0 1 = cc in omega arith

done_found : (K : List Frame) (before c o d : List Sym) (i : ℕ) (all : List Sym) → Begun K before c → Valued false 0 K before c o all → done K o i ≡ accepted d → FormulaWith all d
done_found [] before c o d i all g v e =
    let n : (before ≡ []) × (c ≡ []) = nothing_before g in
    let y : o ≡ d = cc in (
      v.tree,
      subst (λ (x : List Sym). Derives x v.tree) (ap (λ (x : List Sym). x ++ v.own) (sym n.0) ∙ v.tokens) v.reads,
      ap (formula_after v.tree) (sym n.1) ∙ v.ordered ∙ y,
    )
done_found (f ∷ K) before c o d i all g v e = absurd (refused≢accepted i d e)

finish_found : (s : State) (i : ℕ) (all d : List Sym) → Stands s all → finish s i ≡ accepted d → FormulaWith all d
finish_found (dead j) i all d k e = absurd (refused≢accepted j d e)
finish_found (want K o) i all d k e = absurd (refused≢accepted i d e)
finish_found (call c K o) i all d k e = absurd (refused≢accepted i d e)
finish_found (have true K o) i all d k e = absurd (refused≢accepted i d e)
finish_found (have false K o) i all d k e =
    let p : Popping false 0 (pop 0 K o) all = popped false 0 K o all (omega arith) (omega arith) k in
    done_found (pop 0 K o).stack p.before p.order_before (pop 0 K o).order d i all p.begun p.value e

run_found : (xs : List Sym) (i : ℕ) (s : State) (all d : List Sym) → Stands s all → run xs i s ≡ accepted d → FormulaWith (all ++ xs) d
unfolding run
run_found [] i s all d k e = subst (λ (x : List Sym). FormulaWith x d) (sym (append-nil all)) (finish_found s i all d k e)
run_found (x ∷ xs) i s all d k e = subst (λ (y : List Sym). FormulaWith y d) (append_assoc all (x ∷ []) xs) (run_found xs (i + 1) (step s x i) (all ++ x ∷ []) d (step_stands s x i all k) e)

-- what is accepted is a formula, with its order
pub sound : (xs : List Sym) (o : List Sym) → reading xs ≡ accepted o → (f : Formula Name) × Derives xs f × (postfix f ≡ o)
unfolding reading
sound xs o e = run_found xs 0 (want [] []) [] o b_none e
