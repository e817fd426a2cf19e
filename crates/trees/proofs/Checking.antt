-- The checker accepts exactly the words of the closed trees, and its index is exactly that of the refusal. The words of a tree as
-- far as it is written take the machine to the branches that are missing; and what the machine has read is the words of such trees,
-- one for each of the branches to come. Assumes nothing.
use mathlib.Core.Bool.{Bool, true, false}
use mathlib.Core.Path.{◌≡◌, refl, sym, ap, ap₂, ◌∙◌, subst}
use mathlib.Core.Logic.{◌⊎◌, inl, inr, ⊎_elim}
use mathlib.Core.List.{List, [], ◌∷◌, ◌++◌, append_assoc, append-nil}
use Prim.Native.Nat.{ℕ, suc, ◌+◌, ◌≤◌, ◌<◌}
use native.Mathlib.Omega.{arith}
use lib.ListN.{length, length-append}
use Rattle.std.specs.Prelude.{Result, Ok, Err}
use Rattle.formula.specs.Formula.{Form}
use Rattle.contact.specs.Row.{PartialRow}
use Rattle.trees.specs.declared.NotClosed.{NotClosed}
use Rattle.trees.specs.Trees.{Tree, split, rule, floorless, missing, split_word, rule_word, words_of, Whole, InOrder}
use Rattle.trees.specs.Closed.{decided, root, RuleFalse, Splits, Right, Closed}
use Rattle.trees.specs.Refusal.{to_come, Stands, Stands.splits, Stops, Refused}
use Rattle.trees.specs.Checker.{Does, splits, closes, wrong, after, not_closed_at, unless, does, run, checked}
use Rattle.trees.proofs.Branches.{decided_length}
use Rattle.trees.proofs.Spelling.{Tests, Closes, Closes.rule, Says, says, does_split, does_rule, does_floor, stands_right}

-- a whole tree is written in order and has no branch to come
pub whole_order : (t : Tree) → Whole t → InOrder t
whole_order (split a t f) h = inl (h.0, whole_order f h.1)
whole_order (rule k) h = tt
whole_order floorless h = tt
whole_order missing h = tt

pub whole_none : (t : Tree) (part : PartialRow) → Whole t → to_come part t ≡ []
whole_none (split a t f) part h = ap₂ ◌++◌ (whole_none t (decided part a true) h.0) (whole_none f (decided part a false) h.1)
whole_none (rule k) part h = refl
whole_none floorless part h = refl
whole_none missing part h = absurd h

-- branches of at most so many atoms
abbrev pub Short : ℕ → List PartialRow → Type 0
Short many [] = Unit {0}
Short many (part ∷ parts) = (length part ≤ many) × Short many parts

short_append : (many : ℕ) (ps qs : List PartialRow) → Short many ps → Short many qs → Short many (ps ++ qs)
short_append many [] qs h k = k
short_append many (p ∷ ps) qs h k = (h.0, short_append many ps qs h.1 k)

-- a tree for each branch
abbrev Forest : List PartialRow → Type 0
Forest [] = Unit {0}
Forest (part ∷ parts) = Tree × Forest parts

abbrev forest_words : (parts : List PartialRow) → Forest parts → List ℕ
forest_words [] ts = []
forest_words (part ∷ parts) ts = words_of ts.0 ++ forest_words parts ts.1

abbrev forest_to_come : (parts : List PartialRow) → Forest parts → List PartialRow
forest_to_come [] ts = []
forest_to_come (part ∷ parts) ts = to_come part ts.0 ++ forest_to_come parts ts.1

abbrev AllWhole : (parts : List PartialRow) → Forest parts → Type 0
AllWhole [] ts = Unit {0}
AllWhole (part ∷ parts) ts = Whole ts.0 × AllWhole parts ts.1

abbrev AllMissing : (parts : List PartialRow) → Forest parts → Type 0
AllMissing [] ts = Unit {0}
AllMissing (part ∷ parts) ts = (ts.0 ≡ missing) × AllMissing parts ts.1

abbrev AllInOrder : (parts : List PartialRow) → Forest parts → Type 0
AllInOrder [] ts = Unit {0}
AllInOrder (part ∷ parts) ts = (Whole ts.0 × AllInOrder parts ts.1) ⊎ (InOrder ts.0 × AllMissing parts ts.1)

-- nothing is written
abbrev nothing : (parts : List PartialRow) → Forest parts
nothing [] = tt
nothing (part ∷ parts) = (missing, nothing parts)

nothing_missing : (parts : List PartialRow) → AllMissing parts (nothing parts)
nothing_missing [] = tt
nothing_missing (part ∷ parts) = (refl, nothing_missing parts)

nothing_order : (parts : List PartialRow) → AllInOrder parts (nothing parts)
nothing_order [] = tt
nothing_order (part ∷ parts) = inr (tt, nothing_missing parts)

nothing_words : (parts : List PartialRow) → forest_words parts (nothing parts) ≡ []
nothing_words [] = refl
nothing_words (part ∷ parts) = nothing_words parts

nothing_come : (parts : List PartialRow) → forest_to_come parts (nothing parts) ≡ parts
nothing_come [] = refl
nothing_come (part ∷ parts) = ap (λ ps. part ∷ ps) (nothing_come parts)

-- two trees in order, and those after them: their split, and those after it
split_order : (parts : List PartialRow) (a : ℕ) (p q r : PartialRow) (t f : Tree) (ts : Forest parts)
    → AllInOrder (p ∷ (q ∷ parts)) (t, (f, ts)) → AllInOrder (r ∷ parts) (split a t f, ts)
split_order parts a p q r t f ts h =
    ⊎_elim
    (λ w. ⊎_elim (λ v. inl ((w.0, v.0), v.1)) (λ v. inr (inl (w.0, v.0), v.1)) w.1)
    (λ w. inr (inr (w.0, w.1.0), w.1.1)) h

module _ (many : ℕ) (rules : List (Form ℕ)) (NoPlan : PartialRow → Type 0) (no_plan_said : PartialRow → Bool)
    (few_atoms : many ≤ 256) (few-rules : length rules < 256) (tests : Tests many no_plan_said NoPlan) where
  abbrev runs : ℕ → List PartialRow → List ℕ → Result Unit NotClosed
  runs = run many rules no_plan_said

  abbrev Holds : PartialRow → Tree → Type 0
  Holds = Right many rules NoPlan

  abbrev AllRight : (parts : List PartialRow) → Forest parts → Type 0
  AllRight [] ts = Unit {0}
  AllRight (part ∷ parts) ts = Holds part ts.0 × AllRight parts ts.1

  nothing_right : (parts : List PartialRow) → AllRight parts (nothing parts)
  nothing_right [] = tt
  nothing_right (part ∷ parts) = (tt, nothing_right parts)

  -- ---- from trees to the machine

  -- the branches to come are short
  short_come : (t : Tree) (part : PartialRow) → length part ≤ many → Holds part t → Short many (to_come part t)
  short_come (split a t f) part l h =
      short_append many (to_come (decided part a true) t) (to_come (decided part a false) f)
      (short_come t (decided part a true) (decided_length many part a true l h.0.named) h.1)
      (short_come f (decided part a false) (decided_length many part a false l h.0.named) h.2)
  short_come (rule k) part l h = tt
  short_come floorless part l h = tt
  short_come missing part l h = (l, tt)

  -- one step of the machine
  step_split : (i : ℕ) (part : PartialRow) (parts : List PartialRow) (a : ℕ) (ws : List ℕ) → length part ≤ many → Splits many part a
      → runs i (part ∷ parts) (split_word a ∷ ws) ≡ runs (suc i) (decided part a true ∷ (decided part a false ∷ parts)) ws
  step_split i part parts a ws l s =
      ap (λ (d : Does). unless d i (runs (suc i) (after d part parts) ws))
      (does_split many rules NoPlan no_plan_said tests part l (split_word a) a refl (omega (arith, s.named)) s)

  step_rule : (i : ℕ) (part : PartialRow) (parts : List PartialRow) (k : ℕ) (ws : List ℕ) → length part ≤ many → RuleFalse rules part k
      → runs i (part ∷ parts) (rule_word k ∷ ws) ≡ runs (suc i) parts ws
  step_rule i part parts k ws l r =
      ap (λ (d : Does). unless d i (runs (suc i) (after d part parts) ws))
      (does_rule many rules NoPlan no_plan_said tests part l (rule_word k) k refl (omega (arith, r.named)) r)

  step_floor : (i : ℕ) (part : PartialRow) (parts : List PartialRow) (ws : List ℕ) → length part ≤ many → NoPlan part
      → runs i (part ∷ parts) (words_of floorless ++ ws) ≡ runs (suc i) parts ws
  step_floor i part parts ws l n =
      ap (λ (d : Does). unless d i (runs (suc i) (after d part parts) ws))
      (does_floor many rules NoPlan no_plan_said tests part l _ refl n)

  -- the words of a tree as far as it is written lead to the branches to come
  run_tree : (t : Tree) (i : ℕ) (part : PartialRow) (parts : List PartialRow) (ws : List ℕ) → length part ≤ many → InOrder t → Holds part t
      → runs i (part ∷ parts) (words_of t ++ ws) ≡ runs (i + length (words_of t)) (to_come part t ++ parts) ws
  run_tree (rule k) i part parts ws l o h =
      let e : suc i ≡ i + 1 = omega arith in
      step_rule i part parts k ws l h ∙ ap (λ (j : ℕ). runs j parts ws) e
  run_tree floorless i part parts ws l o h =
      let e : suc i ≡ i + 1 = omega arith in
      step_floor i part parts ws l h ∙ ap (λ (j : ℕ). runs j parts ws) e
  run_tree missing i part parts ws l o h =
      let e : i ≡ i + 0 = omega arith in
      ap (λ (j : ℕ). runs j (part ∷ parts) ws) e
  run_tree (split a t f) i part parts ws l o h =
      let pt = decided part a true in
      let pf = decided part a false in
      let lt : length pt ≤ many = decided_length many part a true l h.0.named in
      let lf : length pf ≤ many = decided_length many part a false l h.0.named in
      step_split i part parts a ((words_of t ++ words_of f) ++ ws) l h.0
      ∙ ap (runs (suc i) (pt ∷ (pf ∷ parts))) (append_assoc (words_of t) (words_of f) ws)
      ∙ run_tree t (suc i) pt (pf ∷ parts) (words_of f ++ ws) lt (⊎_elim (λ w. whole_order t w.0) (λ w. w.0) o) h.1
      ∙ rest o (λ k of. run_tree f k pf parts ws lf of h.2)
    where
      rest : (Whole t × InOrder f) ⊎ (InOrder t × (f ≡ missing))
          → ((k : ℕ) → InOrder f → runs k (decided part a false ∷ parts) (words_of f ++ ws)
          ≡ runs (k + length (words_of f)) (to_come (decided part a false) f ++ parts) ws)
          → runs (suc i + length (words_of t)) (to_come (decided part a true) t ++ (decided part a false ∷ parts)) (words_of f ++ ws)
          ≡ runs (i + suc (length (words_of t ++ words_of f))) ((to_come (decided part a true) t ++ to_come (decided part a false) f) ++ parts) ws
      rest (inl v) ih =
          let none : to_come (decided part a true) t ≡ [] = whole_none t (decided part a true) v.0 in
          let at : suc i + length (words_of t) + length (words_of f) ≡ i + suc (length (words_of t ++ words_of f)) =
          omega (arith, length-append (words_of t) (words_of f)) in
          ap (λ (ps : List PartialRow). runs (suc i + length (words_of t)) (ps ++ (decided part a false ∷ parts)) (words_of f ++ ws)) none
          ∙ ih (suc i + length (words_of t)) v.1
          ∙ ap₂ (λ (k : ℕ) (ps : List PartialRow). runs k ((ps ++ to_come (decided part a false) f) ++ parts) ws) at (sym none)
      rest (inr v) ih =
          let none : words_of f ≡ [] = ap words_of v.1 in
          let one : to_come (decided part a false) f ≡ decided part a false ∷ [] = ap (to_come (decided part a false)) v.1 in
          let at : suc i + length (words_of t) ≡ i + suc (length (words_of t ++ words_of f)) =
          omega (arith, length-append (words_of t) (words_of f), ap length none) in
          let come : (to_come (decided part a true) t ++ to_come (decided part a false) f) ++ parts
          ≡ to_come (decided part a true) t ++ (decided part a false ∷ parts) =
          ap (λ (ps : List PartialRow). (to_come (decided part a true) t ++ ps) ++ parts) one
          ∙ append_assoc (to_come (decided part a true) t) (decided part a false ∷ []) parts in
          ap (λ (us : List ℕ). runs (suc i + length (words_of t)) (to_come (decided part a true) t ++ (decided part a false ∷ parts)) (us ++ ws)) none
          ∙ ap₂ (λ (k : ℕ) (ps : List PartialRow). runs k ps ws) at (sym come)

  -- where the words stop, the machine refuses
  step_stops : (i : ℕ) (parts : List PartialRow) (ws : List ℕ) → Short many parts → Stops many rules NoPlan parts ws
      → runs i parts ws ≡ not_closed_at i
  step_stops i [] [] s h = absurd h
  step_stops i [] (w ∷ ws) s h = refl
  step_stops i (part ∷ parts) [] s h = refl
  step_stops i (part ∷ parts) (w ∷ ws) s h =
      ap (λ (d : Does). unless d i (runs (suc i) (after d part parts) ws))
      (wrongly (does many rules no_plan_said part w) (says many rules NoPlan no_plan_said tests part s.0 w))
    where
      wrongly : (d : Does) → Says many rules NoPlan no_plan_said tests part s.0 w d → d ≡ wrong
      wrongly (splits a) v = absurd (h (Stands.splits a v.0 (omega (arith, v.1.named)) v.1))
      wrongly closes (Closes.rule k e r) = absurd (h (Stands.refutes k e (omega (arith, r.named)) r))
      wrongly closes (Closes.floor e n) = absurd (h (Stands.excludes e n))
      wrongly wrong v = refl

  -- ---- from the machine to trees

  -- what has been read where the words stop
  record Stopped (i : ℕ) (parts : List PartialRow) (ws : List ℕ) (j : ℕ) : Type 0 where
    pre : List ℕ
    post : List ℕ
    whole_words : pre ++ post ≡ ws
    place : j ≡ i + length pre
    trees : Forest parts
    in_order : AllInOrder parts trees
    words : forest_words parts trees ≡ pre
    right : AllRight parts trees
    stops : Stops many rules NoPlan (forest_to_come parts trees) post

  -- what has been read where they are accepted
  record Finished (parts : List PartialRow) (ws : List ℕ) : Type 0 where
    trees : Forest parts
    whole : AllWhole parts trees
    words : forest_words parts trees ≡ ws
    right : AllRight parts trees

  abbrev Outcome : ℕ → List PartialRow → List ℕ → Result Unit NotClosed → Type 0
  Outcome i parts ws (Ok u) = Finished parts ws
  Outcome i parts ws (Err e) = Stopped i parts ws e.at

  stopped_here : (i : ℕ) (parts : List PartialRow) (ws : List ℕ) → Stops many rules NoPlan parts ws → Stopped i parts ws i
  stopped_here i parts ws h =
      record {
        pre = [];
        post = ws;
        whole_words = refl;
        place = omega arith;
        trees = nothing parts;
        in_order = nothing_order parts;
        words = nothing_words parts;
        right = nothing_right parts;
        stops = subst (λ (ps : List PartialRow). Stops many rules NoPlan ps ws) (sym (nothing_come parts)) h;
      }

  -- a leaf of one word ahead
  leaf_outcome : (i : ℕ) (part : PartialRow) (parts : List PartialRow) (w : ℕ) (ws : List ℕ) (t : Tree) (v : Result Unit NotClosed)
      → words_of t ≡ w ∷ [] → Whole t → to_come part t ≡ [] → Holds part t → Outcome (suc i) parts ws v → Outcome i (part ∷ parts) (w ∷ ws) v
  leaf_outcome i part parts w ws t (Ok u) e wh none h r =
      record {
        trees = (t, r.trees);
        whole = (wh, r.whole);
        words = ap₂ ◌++◌ e r.words;
        right = (h, r.right);
      }
  leaf_outcome i part parts w ws t (Err x) e wh none h r =
      record {
        pre = w ∷ r.pre;
        post = r.post;
        whole_words = ap (λ (us : List ℕ). w ∷ us) r.whole_words;
        place = omega (arith, r.place);
        trees = (t, r.trees);
        in_order = inl (wh, r.in_order);
        words = ap₂ ◌++◌ e r.words;
        right = (h, r.right);
        stops =
            subst (λ (ps : List PartialRow). Stops many rules NoPlan (ps ++ forest_to_come parts r.trees) r.post) (sym none) r.stops;
      }

  split_outcome : (i : ℕ) (part : PartialRow) (parts : List PartialRow) (a : ℕ) (w : ℕ) (ws : List ℕ) (v : Result Unit NotClosed)
      → w ≡ split_word a → Splits many part a
      → Outcome (suc i) (decided part a true ∷ (decided part a false ∷ parts)) ws v → Outcome i (part ∷ parts) (w ∷ ws) v
  split_outcome i part parts a w ws (Ok u) e s r =
      let t = r.trees.0 in
      let f = r.trees.1.0 in
      let ts = r.trees.1.1 in
      record {
        trees = (split a t f, ts);
        whole = ((r.whole.0, r.whole.1.0), r.whole.1.1);
        words = ap₂ ◌∷◌ (sym e) (append_assoc (words_of t) (words_of f) (forest_words parts ts) ∙ r.words);
        right = ((s, r.right.0, r.right.1.0), r.right.1.1);
      }
  split_outcome i part parts a w ws (Err x) e s r =
      let t = r.trees.0 in
      let f = r.trees.1.0 in
      let ts = r.trees.1.1 in
      record {
        pre = w ∷ r.pre;
        post = r.post;
        whole_words = ap (λ (us : List ℕ). w ∷ us) r.whole_words;
        place = omega (arith, r.place);
        trees = (split a t f, ts);
        in_order = split_order parts a (decided part a true) (decided part a false) part t f ts r.in_order;
        words = ap₂ ◌∷◌ (sym e) (append_assoc (words_of t) (words_of f) (forest_words parts ts) ∙ r.words);
        right = ((s, r.right.0, r.right.1.0), r.right.1.1);
        stops =
            subst (λ (ps : List PartialRow). Stops many rules NoPlan ps r.post)
            (sym (append_assoc (to_come (decided part a true) t) (to_come (decided part a false) f) (forest_to_come parts ts))) r.stops;
      }

  outcome : (ws : List ℕ) (i : ℕ) (parts : List PartialRow) → Short many parts → Outcome i parts ws (runs i parts ws)
  outcome [] i [] s = record { trees = tt; whole = tt; words = refl; right = tt }
  outcome [] i (part ∷ parts) s = stopped_here i (part ∷ parts) [] tt
  outcome (w ∷ ws) i [] s = stopped_here i [] (w ∷ ws) tt
  outcome (w ∷ ws) i (part ∷ parts) s =
      go (does many rules no_plan_said part w) refl (says many rules NoPlan no_plan_said tests part s.0 w) (λ ps h. outcome ws (suc i) ps h)
    where
      go : (d : Does) → does many rules no_plan_said part w ≡ d → Says many rules NoPlan no_plan_said tests part s.0 w d
          → ((ps : List PartialRow) → Short many ps → Outcome (suc i) ps ws (runs (suc i) ps ws))
          → Outcome i (part ∷ parts) (w ∷ ws) (unless d i (runs (suc i) (after d part parts) ws))
      go (splits a) q v ih =
          split_outcome i part parts a w ws (runs (suc i) (decided part a true ∷ (decided part a false ∷ parts)) ws) v.0 v.1
          (ih (decided part a true ∷ (decided part a false ∷ parts))
          (decided_length many part a true s.0 v.1.named, (decided_length many part a false s.0 v.1.named, s.1)))
      go closes q (Closes.rule k e r) ih =
          leaf_outcome i part parts w ws (rule k) (runs (suc i) parts ws) (ap (λ (x : ℕ). x ∷ []) (sym e)) tt refl r (ih parts s.1)
      go closes q (Closes.floor e n) ih =
          leaf_outcome i part parts w ws floorless (runs (suc i) parts ws) (ap (λ (x : ℕ). x ∷ []) (sym e)) tt refl n (ih parts s.1)
      go wrong q v ih =
          stopped_here i (part ∷ parts) (w ∷ ws) (λ st. stands_right many rules NoPlan no_plan_said tests part s.0 w st q)

  -- ---- the claims

  from_tree : (ws : List ℕ) (t : Tree) → InOrder t → Holds root t → (pre post : List ℕ) → words_of t ≡ pre → pre ++ post ≡ ws
      → runs 0 (root ∷ []) ws ≡ runs (length pre) (to_come root t) post
  from_tree ws t o h pre post e q =
      ap (runs 0 (root ∷ [])) (sym q ∙ ap (λ (us : List ℕ). us ++ post) (sym e))
      ∙ run_tree t 0 root [] post (omega arith) o h
      ∙ ap₂ (λ (k : ℕ) (ps : List PartialRow). runs k ps post) at (append-nil (to_come root t))
    where
      at : 0 + length (words_of t) ≡ length pre
      at = omega (arith, ap length e)

  pub closed_accepted : (ws : List ℕ) (t : Tree) → words_of t ≡ ws → Closed many rules NoPlan root t → checked many rules no_plan_said ws ≡ Ok tt
  unfolding checked
  closed_accepted ws t e c =
      from_tree ws t (whole_order t c.whole) c.right ws [] e (append-nil ws)
      ∙ ap (λ (ps : List PartialRow). runs (length ws) ps []) (whole_none t root c.whole)

  pub accepted_closed : (ws : List ℕ) → checked many rules no_plan_said ws ≡ Ok tt → (t : Tree) × (words_of t ≡ ws) × Closed many rules NoPlan root t
  unfolding checked
  accepted_closed ws e =
      let r = subst (Outcome 0 (root ∷ []) ws) e (outcome ws 0 (root ∷ []) (omega arith, tt)) in
      (r.trees.0, sym (append-nil (words_of r.trees.0)) ∙ r.words, record { whole = r.whole.0; right = r.right.0 })

  pub refused_checked : (ws : List ℕ) (j : ℕ) → Refused many rules NoPlan ws j → checked many rules no_plan_said ws ≡ not_closed_at j
  unfolding checked
  refused_checked ws j r =
      from_tree ws r.begun r.in_order r.right r.pre r.post r.words r.parts
      ∙ step_stops (length r.pre) (to_come root r.begun) r.post (short_come r.begun root (omega arith) r.right) r.stops
      ∙ ap not_closed_at (sym r.place)

  pub checked_refused : (ws : List ℕ) (j : ℕ) → checked many rules no_plan_said ws ≡ not_closed_at j → Refused many rules NoPlan ws j
  unfolding checked
  checked_refused ws j e =
      let r = subst (Outcome 0 (root ∷ []) ws) e (outcome ws 0 (root ∷ []) (omega arith, tt)) in
      record {
        pre = r.pre;
        post = r.post;
        parts = r.whole_words;
        place = omega (arith, r.place);
        begun = r.trees.0;
        in_order = ⊎_elim (λ v. whole_order r.trees.0 v.0) (λ v. v.0) r.in_order;
        words = sym (append-nil (words_of r.trees.0)) ∙ r.words;
        right = r.right.0;
        stops = subst (λ (ps : List PartialRow). Stops many rules NoPlan ps r.post) (append-nil (to_come root r.trees.0)) r.stops;
      }
