-- The writer gives the tree that is meant, which is closed, exactly where the search finds no row. Assumes nothing.
use mathlib.Core.Bool.{Bool, true, false, ◌||◌, cond}
use mathlib.Core.Path.{◌≡◌, refl, sym, ap, ap₂, ◌∙◌, subst}
use mathlib.Core.Logic.{◌↔◌, ⊎_elim}
use mathlib.Core.List.{List, [], ◌∷◌, ◌++◌, map, nil≢cons, head-eq_of_cons-eq}
use mathlib.Mathlib.Data.Bool.Basic.{or_inl, or_inr}
use Prim.Native.Nat.{ℕ, zero, suc, ◌+◌, ◌*◌, ◌^◌, ◌≤◌, ◌<◌}
use native.Mathlib.Omega.{arith}
use native.Mathlib.Nat.{pow-suc}
use lib.Pow.{pow_pos}
use lib.ListN.{length, get_or, length-append, length-map}
use Rattle.formula.specs.Formula.{Form}
use Rattle.lists.specs.Search.{In, any, first, from, or_else}
use Rattle.lists.proofs.Search.{none_intro, none_elim, first_some, first_none, place, in_tail, below_intro}
use Rattle.lists.proofs.Truth.{clash, cases, side}
use Rattle.contact.specs.Row.{Row, is, unknown, PartialRow}
use Rattle.contact.specs.Kleene.{kleene_value}
use Rattle.contact.specs.Tableau.{refuted, refutes, search}
use Rattle.trees.specs.Trees.{Tree, split, rule, floorless, missing, words_of, Whole}
use Rattle.trees.specs.Closed.{value_in, decided, root, RuleFalse, Splits, Right, Closed}
use Rattle.trees.specs.Written.{NoRule, FirstFalse, Written}
use Rattle.trees.specs.Checker.{false_there, joined, closing, write}
use Rattle.trees.proofs.Branches.{decided_other, decided_next}
use Rattle.trees.proofs.Spelling.{Tests, false_meant, false_computed}
use Rattle.trees.proofs.Sound.{false_refutes}

-- ---- the tree that is meant

module _ (many : ℕ) (rules : List (Form ℕ)) (NoPlan : PartialRow → Type 0) where
  -- is closed, in a branch that decides no atom from n on
  pub written_whole : (t : Tree) (n : ℕ) (part : PartialRow) → Written many rules NoPlan n part t → Whole t
  written_whole (split a t f) n part w =
      (written_whole t (suc n) (decided part n true) w.1, written_whole f (suc n) (decided part n false) w.2)
  written_whole (rule k) n part w = tt
  written_whole floorless n part w = tt
  written_whole missing n part w = w

  abbrev From : ℕ → PartialRow → Type 0
  From n part = (i : ℕ) → n ≤ i → value_in part i ≡ unknown

  from_next : (n : ℕ) (part : PartialRow) (b : Bool) → From n part → From (suc n) (decided part n b)
  from_next n part b h i l = decided_other part n b i (λ e. omega arith) ∙ h i (omega arith)

  pub written_right : (t : Tree) (n : ℕ) (part : PartialRow) → From n part → Written many rules NoPlan n part t → Right many rules NoPlan part t
  written_right (split a t f) n part h w =
      subst (λ (x : ℕ). Splits many part x × Right many rules NoPlan (decided part x true) t × Right many rules NoPlan (decided part x false) f)
      (sym w.0.next) (
        record { named = w.0.named; undecided = h n (omega arith) },
        written_right t (suc n) (decided part n true) (from_next n part true h) w.1,
        written_right f (suc n) (decided part n false) (from_next n part false h) w.2,
      )
  written_right (rule k) n part h w = w.refuted
  written_right floorless n part h w = w.1
  written_right missing n part h w = tt

  pub written_closed : (t : Tree) → Written many rules NoPlan 0 root t → Closed many rules NoPlan root t
  written_closed t w = record { whole = written_whole t 0 root w; right = written_right t 0 root (λ i l. refl) w }

  -- there is at most one
  first_once : (part : PartialRow) (j k : ℕ) → FirstFalse rules part j → FirstFalse rules part k → j ≡ k
  first_once part j k p q =
      ⊎_elim (λ l. absurd (q.first j l p.refuted))
      (λ l. ⊎_elim (λ m. absurd (p.first k m q.refuted)) (λ m. omega arith) (side k j)) (side j k)

  pub written_once : (t u : Tree) (n : ℕ) (part : PartialRow) → Written many rules NoPlan n part t → Written many rules NoPlan n part u → t ≡ u
  written_once (split a t f) (split b u g) n part w v =
      let e : a ≡ b = w.0.next ∙ sym v.0.next in
      let x = written_once t u (suc n) (decided part n true) w.1 v.1 in
      let y = written_once f g (suc n) (decided part n false) w.2 v.2 in
      cc
  written_once (split a t f) (rule k) n part w v = absurd (w.0.no_rule k v.refuted)
  written_once (split a t f) floorless n part w v = absurd (w.0.plan v.1)
  written_once (split a t f) missing n part w v = absurd v
  written_once (rule k) (split b u g) n part w v = absurd (v.0.no_rule k w.refuted)
  written_once (rule k) (rule j) n part w v = ap rule (first_once part k j w v)
  written_once (rule k) floorless n part w v = absurd (v.0 k w.refuted)
  written_once (rule k) missing n part w v = absurd v
  written_once floorless (split b u g) n part w v = absurd (v.0.plan w.1)
  written_once floorless (rule k) n part w v = absurd (w.0 k v.refuted)
  written_once floorless floorless n part w v = refl
  written_once floorless missing n part w v = absurd v
  written_once missing u n part w v = absurd w

  -- and it has at most 2 ^ (d + 1) - 1 words, with d atoms left
  pub written_few : (d : ℕ) (t : Tree) (n : ℕ) (part : PartialRow) → n + d ≡ many → Written many rules NoPlan n part t
      → length (words_of t) < 2 * 2 ^ d
  written_few zero (split a t f) n part e w = absurd (omega (arith, w.0.named))
  written_few (suc d) (split a t f) n part e w =
      omega (
        arith,
        pow-suc 2 d,
        length-append (words_of t) (words_of f),
        written_few d t (suc n) (decided part n true) (omega arith) w.1,
        written_few d f (suc n) (decided part n false) (omega arith) w.2,
      )
  written_few d (rule k) n part e w = omega (arith, pow_pos d)
  written_few d floorless n part e w = omega (arith, pow_pos d)
  written_few d missing n part e w = absurd w

-- it is the same for reasons that hold of the same branches
pub written_same : (many : ℕ) (rules : List (Form ℕ)) (A B : PartialRow → Type 0) → ((part : PartialRow) → A part ↔ B part)
    → (t : Tree) (n : ℕ) (part : PartialRow) → Written many rules A n part t → Written many rules B n part t
written_same many rules A B same (split a t f) n part w = (
  record { no_rule = w.0.no_rule; plan = λ h. w.0.plan ((same part).1 h); next = w.0.next; named = w.0.named },
  written_same many rules A B same t (suc n) (decided part n true) w.1,
  written_same many rules A B same f (suc n) (decided part n false) w.2,
)
written_same many rules A B same (rule k) n part w = w
written_same many rules A B same floorless n part w = (w.0, (same part).0 w.1)
written_same many rules A B same missing n part w = w

-- ---- the writer

-- what is found first in a rising run has nothing before it
first_least : (p : ℕ → Bool) (a n x : ℕ) → first p (from a n) ≡ x ∷ [] → (j : ℕ) → a ≤ j → j < x → p j ≡ true → ⊥
first_least p a zero x e j l m h = nil≢cons e
first_least p a (suc n) x e j l m h =
    cases (p a)
    (λ t. let q : a ≡ x = head-eq_of_cons-eq (sym (ap (λ (b : Bool). cond b (a ∷ []) (first p (from (suc a) n))) t) ∙ e) in omega arith)
    (λ t. let q : first p (from (suc a) n) ≡ x ∷ [] = sym (ap (λ (b : Bool). cond b (a ∷ []) (first p (from (suc a) n))) t) ∙ e in
    ⊎_elim (λ s. first_least p (suc a) n x q j s m h)
    (λ s. let z : j ≡ a = omega arith in clash h (ap p z ∙ t)) (side a j))

module _ (many : ℕ) (rules : List (Form ℕ)) (NoPlan : PartialRow → Type 0) (no_plan_said : PartialRow → Bool) (tests : Tests many no_plan_said NoPlan) where
  -- the test that closes a branch
  abbrev pub shuts : PartialRow → Bool
  shuts part = refutes rules part || no_plan_said part

  -- what trying to close a branch gives
  data Tried (part : PartialRow) : Type 0 where
    shut : (t : Tree) → closing rules no_plan_said part ≡ t ∷ [] → ((n : ℕ) → Written many rules NoPlan n part t) → shuts part ≡ true → Tried part
    left : closing rules no_plan_said part ≡ [] → NoRule rules part → (NoPlan part → ⊥) → shuts part ≡ false → Tried part

  none_refutes : (part : PartialRow) → NoRule rules part → refutes rules part ≡ false
  unfolding refutes
  none_refutes part none =
      none_intro (λ f. refuted (kleene_value (λ i. get_or part i unknown) f)) rules
      (λ f i h. let p = place Form.truth i in
      none (suc p.0) (false_meant rules part (suc p.0) (ap (λ g. refuted (kleene_value (λ i. get_or part i unknown) g)) p.2 ∙ h)))

  tried : (part : PartialRow) → length part ≤ many → Tried part
  unfolding closing
  tried part short =
      cases (any (false_there rules part) (from 1 (length rules)))
      (λ h. let r = first_some (false_there rules part) (from 1 (length rules)) h in
      let k = r.0 in
      let meant : RuleFalse rules part k = false_meant rules part k r.3 in
      shut (rule k)
      (ap (λ (ks : List ℕ). or_else (map rule ks) (cond (no_plan_said part) (floorless ∷ []) [])) r.1)
      (λ n. record {
        refuted = meant;
        first = λ j l v.
            first_least (false_there rules part) 1 (length rules) k r.1 j v.from_one l (false_computed rules part j v);
      })
      (or_inl (refutes rules part) (no_plan_said part) (false_refutes rules part k meant)))
      (λ h. let none : NoRule rules part =
      (λ k v. clash (false_computed rules part k v)
      (none_elim (false_there rules part) {xs = from 1 (length rules)} h (from_in k v.from_one v.named))) in
      let no = first_none (false_there rules part) (from 1 (length rules)) h in
      cases (no_plan_said part)
      (λ e. shut floorless
      (ap₂ (λ (ks : List ℕ) (b : Bool). or_else (map rule ks) (cond b (floorless ∷ []) [])) no e)
      (λ n. (none, (tests part short).0 e)) (or_inr (refutes rules part) (no_plan_said part) e))
      (λ e. left
      (ap₂ (λ (ks : List ℕ) (b : Bool). or_else (map rule ks) (cond b (floorless ∷ []) [])) no e)
      none (λ v. clash ((tests part short).1 v) e) (ap₂ ◌||◌ (none_refutes part none) e)))
    where
      from_in : (k : ℕ) → 1 ≤ k → k ≤ length rules → In k (from 1 (length rules))
      from_in k a b = in_tail (below_intro (suc (length rules)) k (omega arith)) (λ e. omega arith)

  -- what the writer and the search give
  pub data Ends (d : ℕ) (row : Row) : Type 0 where
    tree : (t : Tree) → write rules no_plan_said d row ≡ t ∷ [] → Written many rules NoPlan (length row) (map is row) t → search shuts d row ≡ []
        → Ends d row
    found : (r : Row) → write rules no_plan_said d row ≡ [] → search shuts d row ≡ r ∷ [] → Ends d row

  -- the parts of a split
  joins : (d : ℕ) (row : Row) → length row + suc d ≡ many → closing rules no_plan_said (map is row) ≡ [] → NoRule rules (map is row)
      → (NoPlan (map is row) → ⊥) → shuts (map is row) ≡ false → Ends d (row ++ true ∷ []) → Ends d (row ++ false ∷ []) → Ends (suc d) row
  joins d row l c none some s (tree t et wt st) (tree f ef wf sf) =
      tree (split (length row) t f)
      (ap₂ or_else c (ap₂ (joined (length row)) et ef))
      (record { no_rule = none; plan = some; next = refl; named = omega arith }, moved true t wt, moved false f wf)
      (rw s (ap₂ or_else st sf))
    where
      moved : (b : Bool) (u : Tree) → Written many rules NoPlan (length (row ++ b ∷ [])) (map is (row ++ b ∷ [])) u
          → Written many rules NoPlan (suc (length row)) (decided (map is row) (length row) b) u
      moved b u w =
          let e : length (row ++ b ∷ []) ≡ suc (length row) = omega (arith, length-append row (b ∷ [])) in
          subst (λ (n : ℕ). Written many rules NoPlan n (decided (map is row) (length row) b) u) e
          (subst (λ (p : PartialRow). Written many rules NoPlan (length (row ++ b ∷ [])) p u) (sym (decided_next row b)) w)
  joins d row l c none some s (tree t et wt st) (found r ef sf) =
      found r (ap₂ or_else c (ap₂ (joined (length row)) et ef)) (rw s (ap₂ or_else st sf))
  joins d row l c none some s (found r et st) e =
      found r (ap₂ or_else c (ap (λ (ts : List Tree). joined (length row) ts (write rules no_plan_said d (row ++ false ∷ []))) et))
      (rw s (ap (λ (rs : List Row). or_else rs (search shuts d (row ++ false ∷ []))) st))

  pub ends : (d : ℕ) (row : Row) → length row + d ≡ many → Ends d row
  ends zero row l = go (tried (map is row) (omega (arith, length-map row is)))
    where
      go : Tried (map is row) → Ends zero row
      go (shut t c w s) = tree t c (w (length row)) (rw s)
      go (left c none some s) = found row c (rw s)
  ends (suc d) row l =
      go (tried (map is row) (omega (arith, length-map row is)))
      (ends d (row ++ true ∷ []) (omega (arith, length-append row (true ∷ []))))
      (ends d (row ++ false ∷ []) (omega (arith, length-append row (false ∷ []))))
    where
      go : Tried (map is row) → Ends d (row ++ true ∷ []) → Ends d (row ++ false ∷ []) → Ends (suc d) row
      go (shut t c w s) a b =
          tree t (ap (λ (ts : List Tree). or_else ts (joined (length row) (write rules no_plan_said d (row ++ true ∷ [])) (write rules no_plan_said d (row ++ false ∷ [])))) c)
          (w (length row)) (rw s)
      go (left c none some s) a b = joins d row l c none some s a b
