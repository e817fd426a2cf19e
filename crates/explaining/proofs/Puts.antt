-- The words of a tree are put one branch after the other: a node's own word, then those of its true branch, then those of its false one. Where
-- no plan is found there is a tree (crate trees). Assumes nothing.
use mathlib.Core.Bool.{Bool, true, false, not-not}
use mathlib.Core.Path.{◌≡◌, refl, sym, ap, ap₂, ◌∙◌, subst}
use mathlib.Core.List.{List, [], ◌∷◌, ◌++◌, map, nil≢cons, head-eq_of_cons-eq, append-nil, append_assoc}
use Prim.Native.Nat.{ℕ, zero, suc, ◌+◌, ◌-◌, ◌*◌, ◌/◌, ◌%◌, ◌^◌, ◌≤◌, ◌<◌}
use native.Mathlib.Nat.{mod-eq_of_lt}
use native.Mathlib.Omega.{arith}
use lib.ListN.{length, set, length-append}
use lib.Pow.{pow_mono, pow_pos}
use lib.Seq.{sets}
use Rattle.std.specs.Prelude.{Option, Some, None, is_some, Result, Ok, Err}
use Rattle.formula.specs.Formula.{Atom, Form}
use Rattle.lists.specs.Search.{or_else}
use Rattle.lists.proofs.Truth.{clash}
use Rattle.contact.specs.Question.{plain}
use Rattle.contact.specs.Numbering.{AtomsBelow}
use Rattle.contact.specs.Row.{Row, is, PartialRow}
use Rattle.contact.specs.Check.{first_row}
use Rattle.kleene.specs.Rails.{word_rows}
use Rattle.search.specs.declared.Chart.{Chart}
use Rattle.pairing.specs.Listed.{seen_at}
use Rattle.solver.specs.Coded.{SafeFrom, Coded}
use Rattle.solver.specs.Tree.{ComesFrom, FirstRowSays, answer_for}
use Rattle.solver.proofs.Claims.{answer_is}
use Rattle.solver.proofs.Codes.{coded_numbers}
use Rattle.prefixes.specs.Heap.{child, place_under, Checks, ChecksSay}
use Rattle.prefixes.proofs.Filling.{next_power}
use Rattle.trees.specs.Trees.{Tree, split, split_word, words_of}
use Rattle.trees.specs.Checker.{false_there, no_floor, closing, joined, write}
use Rattle.trees.proofs.Rules.{coded_length}
use Rattle.trees.proofs.Telling.{Writes, writes}
use Rattle.explaining.specs.declared.NoTree.{NoTree}
use Rattle.explaining.specs.declared.NoTree.TheVariants.{PlanExists, Short}
use Rattle.explaining.specs.Nodes.{FalseUnder, FalsesSay, head_word, ClosingSays, Node, PutSays}
use Rattle.explaining.specs.Explained.{Explained, WriteSays, TellSays, ExplainSays}
use Rattle.explaining.proofs.Closings.{Leaf, leaf, stays}

-- ---- words after words

sets_both : (xs ys buf : List ℕ) (at : ℕ) → sets buf at (xs ++ ys) ≡ sets (sets buf at xs) (at + length xs) ys
sets_both [] ys buf at = let e : at ≡ at + 0 = omega arith in ap (λ (k : ℕ). sets buf k ys) e
sets_both (x ∷ xs) ys buf at =
    let e : suc at + length xs ≡ at + suc (length xs) = omega arith in
    sets_both xs ys (set buf at x) (suc at) ∙ ap (λ (k : ℕ). sets (sets (set buf at x) (suc at) xs) k ys) e

-- ---- trees

module _ (rules : List (Form ℕ)) (no_plan_said : PartialRow → Bool) where
  -- closed by its word
  shut_list : (part : PartialRow) (more : List Tree) (t : Tree) (rest : List Tree) (w : ℕ) → Some w ≡ head_word (closing rules no_plan_said part)
      → or_else (closing rules no_plan_said part) more ≡ t ∷ rest → words_of t ≡ w ∷ []
  shut_list part more t rest w l e = go (leaf rules no_plan_said part)
    where
      go : Leaf rules no_plan_said part (closing rules no_plan_said part) → words_of t ≡ w ∷ []
      go (Leaf.none q) =
          absurd (let z : Some w ≡ None = l ∙ ap head_word q in let y : ◌≡◌ {A = ℕ} 0 1 = cc in omega arith)
      go (Leaf.one u us v q h s) =
          let z : Some v ≡ Some w = sym h ∙ sym l in
          let y : v ≡ w = cc in
          ap words_of (head-eq_of_cons-eq (sym e ∙ ap (λ (ts : List Tree). or_else ts more) q)) ∙ s ∙ ap (λ (x : ℕ). x ∷ []) y

  or_none : (ts : List Tree) → or_else ts [] ≡ ts
  or_none [] = refl
  or_none (t ∷ ts) = refl

  shut_word : (d : ℕ) (row : Row) (t : Tree) (rest : List Tree) (w : ℕ) → Some w ≡ head_word (closing rules no_plan_said (map is row))
      → write rules no_plan_said d row ≡ t ∷ rest → words_of t ≡ w ∷ []
  shut_word zero row t rest w l e = shut_list (map is row) [] t rest w l (or_none (closing rules no_plan_said (map is row)) ∙ e)
  shut_word (suc d) row t rest w l e =
      shut_list (map is row) (joined (length row) (write rules no_plan_said d (row ++ true ∷ [])) (write rules no_plan_said d (row ++ false ∷ []))) t rest w l e

  -- split: the trees of its branches
  record Parts (d : ℕ) (row : Row) (t : Tree) : Type 0 where
    pub first : Tree
    pub firsts : List Tree
    pub second : Tree
    pub seconds : List Tree
    pub first_is : write rules no_plan_said d (row ++ true ∷ []) ≡ first ∷ firsts
    pub second_is : write rules no_plan_said d (row ++ false ∷ []) ≡ second ∷ seconds
    pub tree_is : t ≡ split (length row) first second

  parts : (d : ℕ) (row : Row) (t : Tree) (rest : List Tree) → head_word (closing rules no_plan_said (map is row)) ≡ None
      → write rules no_plan_said (suc d) row ≡ t ∷ rest → Parts d row t
  parts d row t rest z e =
      go (write rules no_plan_said d (row ++ true ∷ [])) (write rules no_plan_said d (row ++ false ∷ [])) refl refl
      (sym (ap (λ (us : List Tree). or_else us (joined (length row) (write rules no_plan_said d (row ++ true ∷ [])) (write rules no_plan_said d (row ++ false ∷ []))))
      (stays rules no_plan_said (map is row) z)) ∙ e)
    where
      go : (ts fs : List Tree) → write rules no_plan_said d (row ++ true ∷ []) ≡ ts → write rules no_plan_said d (row ++ false ∷ []) ≡ fs
          → joined (length row) ts fs ≡ t ∷ rest → Parts d row t
      go [] fs p q j = absurd (nil≢cons j)
      go (x ∷ ts) [] p q j = absurd (nil≢cons j)
      go (x ∷ ts) (y ∷ fs) p q j = record {
        first = x;
        firsts = ts;
        second = y;
        seconds = fs;
        first_is = p;
        second_is = q;
        tree_is = sym (head-eq_of_cons-eq j);
      }

-- ---- nodes

place_last : (h : ℕ) (row : Row) (b : Bool) → place_under h (row ++ b ∷ []) ≡ child (place_under h row) b
unfolding place_under
place_last h [] b = refl
place_last h (c ∷ row) b = place_last (child h c) row b

module _ {code ends bits words : List ℕ} {n h k j names : ℕ} {atoms : List (Atom ℕ)} {rules : List (Form ℕ)} {row : Row} (b : Bool)
    (node : Node code ends bits words n h k j names atoms rules row) where
  -- the child in a block, whose words it is judged by
  node_child : (others : List ℕ) (i : ℕ) → FalseUnder others (length ends) i (row ++ b ∷ []) rules
      → Node code ends bits others n (child h b) (k + 1) i names atoms rules (row ++ b ∷ [])
  node_child others i f = record {
    counted = node.counted;
    coded = node.coded;
    checks = node.checks;
    long = omega (arith, length-append row (b ∷ []), node.long);
    place = place_last 1 row b ∙ ap (λ (x : ℕ). child x b) node.place;
    falses = f;
  }

  -- in the same block
  pub node_in : Node code ends bits words n (child h b) (k + 1) (child j b) names atoms rules (row ++ b ∷ [])
  unfolding place_under
  node_in = node_child words (child j b) (record {
    counted = node.falses.counted;
    are = λ ext l i m.
        node.falses.are (b ∷ ext) l i m ∙ ap (λ (r : Row). false_there rules (map is r) (suc i)) (sym (append_assoc row (b ∷ []) ext));
  })

  -- in a block of its own
  pub node_new : (others : List ℕ) → n ≤ 16 → FalsesSay code ends (child h b) (k + 1) (length ends) others
      → Node code ends bits others n (child h b) (k + 1) 1 names atoms rules (row ++ b ∷ [])
  unfolding FalsesSay
  node_new others few says =
      node_child others 1 (says n rules few node.coded (row ++ b ∷ []) (omega (arith, length-append row (b ∷ []), node.long))
      (place_last 1 row b ∙ ap (λ (x : ℕ). child x b) node.place))

-- ---- as the code puts them

module _ (code ends bits words : List ℕ) (n h k j at : ℕ) (buf : List ℕ) (fits : k ≤ n) (short : j < word_rows) (closed : Option ℕ)
    (says : ClosingSays words (length ends) j (seen_at bits h) closed) where
  word_is : (names : ℕ) (atoms : List (Atom ℕ)) (rules : List (Form ℕ)) (row : Row) → Node code ends bits words n h k j names atoms rules row
      → closed ≡ head_word (closing rules (no_floor plain names atoms) (map is row))
  unfolding ClosingSays no_floor Checks place_under
  word_is names atoms rules row node =
      says rules (no_floor plain names atoms) (map is row) (sym (coded_length n code 0 ends rules node.coded))
      (λ i l. node.falses.are [] short i l ∙ ap (λ (r : Row). false_there rules (map is r) (suc i)) (append-nil row))
      (ap (seen_at bits) (sym node.place) ∙ node.checks row (omega (arith, node.long, node.counted)) ∙ sym (not-not _))

  pub put_shut : (w : ℕ) (after : List ℕ) → after ≡ set buf at w → Some w ≡ closed → PutSays code ends bits words n h k j at buf after (at + 1)
  unfolding PutSays
  put_shut w after q l names atoms rules row node t rest e =
      let s : words_of t ≡ w ∷ [] = shut_word rules (no_floor plain names atoms) (n - k) row t rest w (l ∙ word_is names atoms rules row node) e in
      (q ∙ sym (ap (sets buf at) s), sym (ap (λ (ws : List ℕ). at + length ws) s))

  pub put_left : closed ≡ None → k ≡ n → (r : ℕ) → PutSays code ends bits words n h k j at buf buf r
  unfolding PutSays
  put_left z f r names atoms rules row node t rest e =
      let none : n - k ≡ 0 = omega arith in
      absurd (nil≢cons
      (sym (ap (λ (d : ℕ). write rules (no_floor plain names atoms) d row) none
      ∙ stays rules (no_floor plain names atoms) (map is row) (sym (word_is names atoms rules row node) ∙ z)) ∙ e))

  module _ (z : closed ≡ None) (open_at : k ≡ n → ⊥) (first second : List ℕ) (g i : ℕ) (begun middle-buf last-buf : List ℕ) (middle r : ℕ)
      (begins : begun ≡ set buf at (split_word k))
      (first_says : PutSays code ends bits first n (child h true) (k + 1) g (at + 1) begun middle-buf middle)
      (second-says : PutSays code ends bits second n (child h false) (k + 1) i middle middle-buf last-buf r)
      (first-node : (names : ℕ) (atoms : List (Atom ℕ)) (rules : List (Form ℕ)) (row : Row) → Node code ends bits words n h k j names atoms rules row
      → Node code ends bits first n (child h true) (k + 1) g names atoms rules (row ++ true ∷ []))
      (second-node : (names : ℕ) (atoms : List (Atom ℕ)) (rules : List (Form ℕ)) (row : Row) → Node code ends bits words n h k j names atoms rules row
      → Node code ends bits second n (child h false) (k + 1) i names atoms rules (row ++ false ∷ [])) where
    pub put_both : PutSays code ends bits words n h k j at buf last-buf r
    unfolding PutSays
    put_both names atoms rules row node t rest e =
        let d = n - (k + 1) in
        let more : n - k ≡ suc d = omega arith in
        let no_plan = no_floor plain names atoms in
        let v = parts rules no_plan d row t rest (sym (word_is names atoms rules row node) ∙ z) (sym (ap (λ (x : ℕ). write rules no_plan x row) more) ∙ e) in
        let x = v.first in
        let y = v.second in
        let ws : words_of t ≡ split_word k ∷ (words_of x ++ words_of y) = ap words_of (v.tree_is ∙ ap (λ (q : ℕ). split q x y) node.long) in
        let f = first_says names atoms rules (row ++ true ∷ []) (first-node names atoms rules row node) x v.firsts v.first_is in
        let s = second-says names atoms rules (row ++ false ∷ []) (second-node names atoms rules row node) y v.seconds v.second_is in
        let place : middle ≡ suc at + length (words_of x) = omega (arith, f.1) in
        let one : at + 1 ≡ suc at = omega arith in (
          s.0 ∙ ap₂ (λ (q : List ℕ) (p : ℕ). sets q p (words_of y)) (f.0 ∙ ap₂ (λ (q : List ℕ) (p : ℕ). sets q p (words_of x)) begins one) place
              ∙ sym (ap (sets buf at) ws ∙ sets_both (words_of x) (words_of y) (set buf at (split_word k)) (suc at)),
          omega (arith, s.1, f.1, ap length ws, length-append (words_of x) (words_of y)),
        )

-- ---- what a call of `put` asks

-- the same product as its requires
abbrev Asks : List ℕ → List ℕ → List ℕ → ℕ → ℕ → ℕ → ℕ → ℕ → Type 0
Asks code ends bits n h k j at =
    SafeFrom code 0 ends × (length ends ≤ 16) × (n ≤ 16) × (k ≤ n) × (j < word_rows) × (h < 2 * 2 ^ k) × (2 * 2 ^ n ≤ 64 * length bits)
    × (at + 2 * 2 ^ (n - k) ≤ 262144)

half : (n k : ℕ) → k ≤ n → (k ≡ n → ⊥) → 2 ^ (n - k) ≡ 2 * 2 ^ (n - (k + 1))
half n k l o =
    let z : n - k ≡ n - (k + 1) + 1 = omega (arith, o) in
    ap (λ (x : ℕ). 2 ^ x) z ∙ sym (next_power (n - (k + 1)))

module _ (code ends bits : List ℕ) (n h k j at : ℕ) (p : Asks code ends bits n h k j at) where
  pub in_bits : h / 64 < length bits
  in_bits = omega (arith, p.5, p.6, pow_mono {i = k} {j = n} p.3)

  pub small : (at < 262144) × (h < 131072)
  small = (omega (arith, p.7, pow_pos (n - k)), omega (arith, p.5, p.3, p.2, pow_mono {i = k} {j = 16} (omega (arith, p.3, p.2))))

  module _ (o : k ≡ n → ⊥) where
    -- a child has one atom less to come
    pub less : (t h' j' at' : ℕ) → n - k ≡ t → j' < word_rows → h' ≤ 2 * h + 1 → at' ≤ at + 2 * 2 ^ (n - (k + 1))
        → (n - (k + 1) < t) × Asks code ends bits n h' (k + 1) j' at'
    less t h' j' at' e s a b = (
      omega (arith, p.3, o),
      (p.0, p.1, p.2, omega (arith, p.3, o), s, omega (arith, p.5, next_power k), p.6, omega (arith, p.7, half n k p.3 o)),
    )

    pub first_place : at + 1 ≤ at + 2 * 2 ^ (n - (k + 1))
    first_place = omega (arith, pow_pos (n - (k + 1)))

    pub ends_below : (middle r : ℕ) → middle < at + 1 + 2 * 2 ^ (n - (k + 1)) → r < middle + 2 * 2 ^ (n - (k + 1)) → r < at + 2 * 2 ^ (n - k)
    ends_below middle r a b = omega (arith, half n k p.3 o)

-- at the root
pub root_asks : (code ends bits : List ℕ) (n : ℕ) → SafeFrom code 0 ends × (length ends ≤ 16) × (n ≤ 16) × (2 * 2 ^ n ≤ 64 * length bits)
    → Asks code ends bits n 1 0 1 0
root_asks code ends bits n p =
    let z : n - 0 ≡ n = omega arith in
    (p.0, p.1, p.2, omega arith, omega arith, omega arith, p.3, omega (arith, pow_mono {i = n} {j = 16} p.2, ap (λ (x : ℕ). 2 ^ x) z))

-- it ends where a long buffer does, at most
root_power : (n : ℕ) → n ≤ 16 → (1 * 2 ^ (n + 1)) % 18446744073709551616 ≡ 2 * 2 ^ n
root_power n few =
    ap (λ (x : ℕ). x % 18446744073709551616) (omega arith) ∙ mod-eq_of_lt (omega (arith, pow_mono {i = n + 1} {j = 17} (omega arith))) ∙ sym (next_power n)

pub root_some : (n : ℕ) → n ≤ 16 → 1 ≤ (1 * 2 ^ (n + 1)) % 18446744073709551616
root_some n few = omega (arith, root_power n few, pow_mono {i = 0} {j = n} (omega arith))

pub root_ends : (n long r : ℕ) → n ≤ 16 → (1 * 2 ^ (n + 1)) % 18446744073709551616 - 1 ≤ long → r < 0 + 2 * 2 ^ (n - 0) → r ≤ long
root_ends n long r few l m =
    let z : n - 0 ≡ n = omega arith in
    omega (arith, root_power n few, ap (λ (x : ℕ). 2 ^ x) z)

-- ---- the whole tree

module _ (code ends bits words : List ℕ) (n : ℕ) (few : n ≤ 16) (falses : FalsesSay code ends 1 0 (length ends) words) where
  -- what was put or counted from the root
  rooted : (buf after : List ℕ) (r : ℕ) → PutSays code ends bits words n 1 0 1 0 buf after r → (names : ℕ) (atoms : List (Atom ℕ)) (rules : List (Form ℕ))
      → length atoms ≡ n → Coded n code ends rules → Checks names atoms bits → (t : Tree) (rest : List Tree)
      → write rules (no_floor plain names atoms) n [] ≡ t ∷ rest → (after ≡ sets buf 0 (words_of t)) × (r ≡ length (words_of t))
  unfolding PutSays FalsesSay place_under
  rooted buf after r says names atoms rules counted coded checks t rest e =
      let z : n - 0 ≡ n = omega arith in
      let p = says names atoms rules []
      (record { counted = counted; coded = coded; checks = checks; long = refl; place = refl; falses = falses n rules few coded [] refl refl }) t rest
      (ap (λ (d : ℕ). write rules (no_floor plain names atoms) d []) z ∙ e) in
      (p.0, omega (arith, p.1))

  pub writes_tells : (buf after : List ℕ) (r : ℕ) → PutSays code ends bits words n 1 0 1 0 buf after r → r ≤ length buf
      → WriteSays code ends bits n buf after (Ok r)
  unfolding WriteSays
  writes_tells buf after r says l names atoms rules counted coded checks t rest e =
      let p = rooted buf after r says names atoms rules counted coded checks t rest e in
      ((λ m. (ap Ok p.1, p.0)), (λ m. absurd (omega (arith, p.1))))

  module _ (spare spare' : List ℕ) (needed : ℕ) (counts : PutSays code ends bits words n 1 0 1 0 spare spare' needed) where
    pub writes_short : (buf : List ℕ) → length buf < needed → WriteSays code ends bits n buf buf (Err (Short needed))
    unfolding WriteSays
    writes_short buf l names atoms rules counted coded checks t rest e =
        let p = rooted spare spare' needed counts names atoms rules counted coded checks t rest e in
        ((λ m. absurd (omega (arith, p.1))), (λ m. (ap (λ (x : ℕ). Err (Short x)) p.1, refl)))

    pub writes_counted : (buf after : List ℕ) (r : ℕ) → PutSays code ends bits words n 1 0 1 0 buf after r → needed ≤ length buf
        → WriteSays code ends bits n buf after (Ok needed)
    unfolding WriteSays
    writes_counted buf after r says l names atoms rules counted coded checks t rest e =
        let q = rooted spare spare' needed counts names atoms rules counted coded checks t rest e in
        let p = rooted buf after r says names atoms rules counted coded checks t rest e in
        ((λ m. (ap Ok q.1, p.0)), (λ m. absurd (omega (arith, q.1))))

pub tells : (code ends bits : List ℕ) (chart : Chart) (before after : List ℕ) (r : Result ℕ NoTree) → ChecksSay chart bits
    → WriteSays code ends bits chart.atoms before after r → TellSays code ends chart before after r
unfolding ChecksSay WriteSays TellSays
tells code ends bits chart before after r checks says atoms rules h t rest e =
    says chart.names atoms rules (sym h.compiled.counted) h.coded (checks atoms h.compiled) t rest
    (ap (λ (d : ℕ). write rules (no_floor plain chart.names atoms) d []) h.compiled.counted ∙ e)

-- ---- where no row is found there is a tree, and where one is there is none

module _ (code ends : List ℕ) (chart : Chart) (found : Option ℕ) (says : FirstRowSays plain code ends chart found) where
  module _ (atoms : List (Atom ℕ)) (rules : List (Form ℕ)) (h : ComesFrom code ends chart atoms rules) (below : AtomsBelow chart.names atoms) where
    answer : found ≡ answer_for (first_row plain chart.names atoms rules)
    answer = answer_is plain code ends chart found says atoms rules h

    known : Writes plain chart.names atoms rules
    known = writes plain chart.names atoms rules below (λ i k. omega (arith, coded_numbers chart.atoms code 0 ends rules h.coded i k, h.compiled.counted))

  pub explains_plan : is_some found ≡ true → (buf : List ℕ) → ExplainSays code ends chart buf buf (Err PlanExists)
  unfolding ExplainSays
  explains_plan q buf atoms rules h below = go (known atoms rules h below)
    where
      go : Writes plain chart.names atoms rules → Explained (write rules (no_floor plain chart.names atoms) (length atoms) []) buf buf (Err PlanExists)
      go (Writes.told t w f) = clash q (ap is_some (answer atoms rules h below ∙ ap answer_for f))
      go (Writes.exists row w f) = subst (λ (ts : List Tree). Explained ts buf buf (Err PlanExists)) (sym w) (refl, refl)

  pub explains_tree : is_some found ≡ false → (before after : List ℕ) (r : Result ℕ NoTree) → TellSays code ends chart before after r
      → ExplainSays code ends chart before after r
  unfolding ExplainSays TellSays
  explains_tree e before after r tell atoms rules h below = go (known atoms rules h below)
    where
      go : Writes plain chart.names atoms rules → Explained (write rules (no_floor plain chart.names atoms) (length atoms) []) before after r
      go (Writes.told t w f) = subst (λ (ts : List Tree). Explained ts before after r) (sym w) (tell atoms rules h t [] w)
      go (Writes.exists row w f) = clash (ap is_some (answer atoms rules h below ∙ ap answer_for f)) e
