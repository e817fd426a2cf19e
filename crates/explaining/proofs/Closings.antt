-- A node is closed by the first rule that is false there, as its block's words have it, and else by its bit. Assumes nothing.
use mathlib.Core.Bool.{Bool, true, false, not, cond}
use mathlib.Core.Path.{◌≡◌, refl, sym, ap, ap₂, ◌∙◌}
use mathlib.Core.Logic.{⊎_elim}
use mathlib.Core.List.{List, [], ◌∷◌, map}
use Prim.Native.Nat.{ℕ, zero, suc, ◌+◌, ◌≤◌, ◌<◌}
use native.Mathlib.Omega.{arith}
use lib.ListN.{length, get_or}
use Rattle.std.specs.Prelude.{Option, Some, None}
use Rattle.formula.specs.Formula.{Form}
use Rattle.lists.specs.Search.{first, from, or_else}
use Rattle.lists.proofs.Search.{first_none, none_intro, from_elim}
use Rattle.lists.proofs.Truth.{clash, side}
use Rattle.evalset.specs.Bit.{bit}
use Rattle.evalset.specs.Sets.{found_of}
use Rattle.contact.specs.Row.{PartialRow}
use Rattle.trees.specs.Trees.{Tree, rule, floorless, rule_word, floorless_word, words_of}
use Rattle.trees.specs.Checker.{false_there, refuting, closing}
use Rattle.explaining.specs.Nodes.{false_at, head_word, ClosingSays}

-- ---- the first

pub first_at : (p : ℕ → Bool) (a n k : ℕ) → a ≤ k → k < a + n → p k ≡ true → ((j : ℕ) → a ≤ j → j < k → p j ≡ false)
    → first p (from a n) ≡ k ∷ []
first_at p a zero k l m h before = absurd (omega arith)
first_at p a (suc n) k l m h before =
    ⊎_elim
    (λ s. ap (λ (b : Bool). cond b (a ∷ []) (first p (from (suc a) n))) (before a (omega arith) s)
    ∙ first_at p (suc a) n k (omega arith) (omega arith) h (λ j x y. before j (omega arith) y))
    (λ s. let e : a ≡ k = omega arith in
    ap (λ (b : Bool). cond b (a ∷ []) (first p (from (suc a) n))) (ap p e ∙ h) ∙ ap (λ (x : ℕ). x ∷ []) e) (side a k)

pub first_nowhere : (p : ℕ → Bool) (a n : ℕ) → ((j : ℕ) → a ≤ j → j < a + n → p j ≡ false) → first p (from a n) ≡ []
first_nowhere p a n h =
    first_none p (from a n) (none_intro p (from a n) (λ j i t. let v = from_elim a n j i in clash t (h j v.0 v.1)))

first_same : (p q : ℕ → Bool) (a n : ℕ) → ((j : ℕ) → a ≤ j → j < a + n → p j ≡ q j) → first p (from a n) ≡ first q (from a n)
first_same p q a zero h = refl
first_same p q a (suc n) h =
    ap₂ (λ (b : Bool) (rs : List ℕ). cond b (a ∷ []) rs) (h a (omega arith) (omega arith))
    (first_same p q (suc a) n (λ j l m. h j (omega arith) (omega arith)))

-- one rule more that is not false
pub rule_next : (p : ℕ → Bool) (i : ℕ) → ((k : ℕ) → 1 ≤ k → k ≤ i → p k ≡ false) → p (i + 1) ≡ false → (k : ℕ) → 1 ≤ k → k ≤ i + 1 → p k ≡ false
rule_next p i h q k l m = ⊎_elim (λ s. let e : k ≡ i + 1 = omega arith in ap p e ∙ q) (λ s. h k l s) (side i k)

-- the words of a block have the first rule that is false
false_first : (words : List ℕ) (n j : ℕ) (rules : List (Form ℕ)) (part : PartialRow) → length rules ≡ n
    → ((i : ℕ) → i < n → bit (get_or words i 0) j ≡ false_there rules part (suc i)) → first (false_at words j) (from 1 n) ≡ refuting rules part
false_first words n j rules part e f =
    ap (λ (x : ℕ). first (false_at words j) (from 1 x)) (sym e) ∙ first_same (false_at words j) (false_there rules part) 1 (length rules) each
  where
    each : (k : ℕ) → 1 ≤ k → k < 1 + length rules → false_at words j k ≡ false_there rules part k
    each zero l m = absurd (omega arith)
    each (suc i) l m = f i (omega arith)

-- where none is found there is none
none_found : (ks : List ℕ) → None ≡ found_of ks → ks ≡ []
none_found [] e = refl
none_found (k ∷ ks) e = absurd (let z : ◌≡◌ {A = ℕ} 0 1 = cc in omega arith)

-- ---- the word that closes a node

module _ (rules : List (Form ℕ)) (no_plan_said : PartialRow → Bool) (part : PartialRow) where
  rule_closes : (k : ℕ) → Some k ≡ found_of (refuting rules part) → head_word (closing rules no_plan_said part) ≡ Some (rule_word k)
  unfolding closing
  rule_closes k e = go (refuting rules part) e
    where
      go : (ks : List ℕ) → Some k ≡ found_of ks → head_word (or_else (map rule ks) (cond (no_plan_said part) (floorless ∷ []) [])) ≡ Some (rule_word k)
      go [] q = absurd (let z : ◌≡◌ {A = ℕ} 0 1 = cc in omega arith)
      go (j ∷ ks) q = let z : j ≡ k = cc in ap (λ (x : ℕ). Some (rule_word x)) z

  else_closes : None ≡ found_of (refuting rules part) → closing rules no_plan_said part ≡ cond (no_plan_said part) (floorless ∷ []) []
  unfolding closing
  else_closes e =
      ap (λ (ks : List ℕ). or_else (map rule ks) (cond (no_plan_said part) (floorless ∷ []) [])) (none_found (refuting rules part) e)

  -- nothing, or a tree of one word
  pub data Leaf (ts : List Tree) : Type 0 where
    none : ts ≡ [] → Leaf ts
    one : (t : Tree) (rest : List Tree) (w : ℕ) → ts ≡ t ∷ rest → head_word ts ≡ Some w → words_of t ≡ w ∷ [] → Leaf ts

  pub leaf : Leaf (closing rules no_plan_said part)
  unfolding closing
  leaf = go (refuting rules part) (no_plan_said part)
    where
      go : (ks : List ℕ) (b : Bool) → Leaf (or_else (map rule ks) (cond b (floorless ∷ []) []))
      go [] true = one floorless [] floorless_word refl refl refl
      go [] false = none refl
      go (k ∷ ks) b = one (rule k) (map rule ks) (rule_word k) refl refl refl

  pub stays : head_word (closing rules no_plan_said part) ≡ None → closing rules no_plan_said part ≡ []
  stays z = go leaf
    where
      go : Leaf (closing rules no_plan_said part) → closing rules no_plan_said part ≡ []
      go (none e) = e
      go (one t rest w e h s) = absurd (let q : None ≡ Some w = sym z ∙ h in let y : ◌≡◌ {A = ℕ} 0 1 = cc in omega arith)

module _ (words : List ℕ) (n j : ℕ) (some : Bool) where
  pub word_rule : (k : ℕ) → Some k ≡ found_of (first (false_at words j) (from 1 n)) → ClosingSays words n j some (Some (rule_word k))
  unfolding ClosingSays
  word_rule k is rules no_plan_said part e f q =
      sym (rule_closes rules no_plan_said part k (is ∙ ap found_of (false_first words n j rules part e f)))

  module _ (is : None ≡ found_of (first (false_at words j) (from 1 n))) where
    by_floor : (b : Bool) → some ≡ not b → (r : Option ℕ) → r ≡ head_word (cond b (floorless ∷ []) []) → ClosingSays words n j some r
    unfolding ClosingSays
    by_floor b h r w rules no_plan_said part e f q =
        let same : b ≡ no_plan_said part = not_same b (no_plan_said part) (sym h ∙ q) in
        w ∙ ap (λ (x : Bool). head_word (cond x (floorless ∷ []) [])) same
        ∙ sym (ap head_word (else_closes rules no_plan_said part (is ∙ ap found_of (false_first words n j rules part e f))))
      where
        not_same : (x y : Bool) → not x ≡ not y → x ≡ y
        not_same true true h = refl
        not_same true false h = sym h
        not_same false true h = sym h
        not_same false false h = refl

    pub word_floor : some ≡ false → ClosingSays words n j some (Some floorless_word)
    word_floor h = by_floor true h (Some floorless_word) refl

    pub word_none : some ≡ true → ClosingSays words n j some None
    word_none h = by_floor false h None refl
