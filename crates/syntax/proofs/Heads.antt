-- What stands at a place: the kind there says which symbol does, and so how the machine goes on. Symbols of 0 to 15 are
-- found in a table, and where no sign goes on a value the machine refuses what stands there, by cases on the symbol.
-- The kinds of some symbols are as many, in the same order. Assumes nothing.
use Prim.Native.Nat.{ℕ, suc, ◌+◌, ◌≤◌, ◌<◌}
use native.Mathlib.Numerals.{add-one}
use native.Mathlib.Omega.{arith}
use mathlib.Core.Path.{◌≡◌, refl, sym, ap, ◌∙◌}
use mathlib.Core.List.{List, [], ◌∷◌, ◌++◌, tail}
use mathlib.Core.Bool.{Bool, true, false, beq}
use mathlib.Mathlib.Data.Bool.Basic.{eq-false_of_not-eq-true}
use lib.Dec.{eqb}
use lib.ListN.{length, get_or, drop, length-map}
use Rattle.lists.proofs.Truth.{cond_holds}
use Rattle.lists.proofs.Lists.{tail_drop, map_at}
use Rattle.formula.specs.declared.Sign.{Sign}
use Rattle.formula.specs.declared.Sign.TheVariants.{Implies, Iff, Or, And, Plus, Times}
use Rattle.formula.specs.Sign.{joins_terms}
use Rattle.formula.specs.Formula.{Name}
use Rattle.syntax.specs.Symbol.{Leaf, Relation, leaf, minus, tilde, opening, closing, comma, is_zero, binary, constant, relation, contact, part}
use Rattle.syntax.specs.Machine.{Sym, Frame, rank_of, allow, loosest, State, want, have, call, dead, Popped, shut, close, zeroed, parted, step, refused, done, run, guard, part_at, after_tilde}
use Rattle.syntax.specs.Reader.{code, codes, kind_at, top, goes, goes_on, binding_of, goes_at}
use Rattle.syntax.proofs.MachineLaws.{run_dead, pop_keep, goes_formula}

-- a kind that is not past the last
pub kind_inside : (ks : List ℕ) (p : ℕ) → kind_at ks p < 19 → p < length ks
kind_inside [] p h = absurd (omega arith)
kind_inside (k ∷ ks) ℕ.zero h = omega arith
kind_inside (k ∷ ks) (suc p) h = let z : p < length ks = kind_inside ks p h in omega arith

-- the kind of what stands first
abbrev pub kind_on : List Sym → ℕ
kind_on [] = 19
kind_on (x ∷ l) = code x

kind_on_lem : (xs : List Sym) (p : ℕ) → kind_at (codes xs) p ≡ kind_on (drop p xs)
unfolding codes
kind_on_lem [] ℕ.zero = refl
kind_on_lem [] (suc p) = refl
kind_on_lem (x ∷ xs) ℕ.zero = refl
kind_on_lem (x ∷ xs) (suc p) = kind_on_lem xs p

pub length_codes : (xs : List Sym) → length (codes xs) ≡ length xs
unfolding codes
length_codes xs = length-map xs code

pub code_at : (xs : List Sym) (i : ℕ) → i < length xs → get_or (codes xs) i 0 ≡ code (get_or xs i opening)
unfolding codes
code_at xs i l = map_at code xs i opening 0 l

-- ---- which symbol

-- the symbol of a kind from 0 to 15
abbrev signs : List Sym
signs = binary Implies ∷ binary Iff ∷ binary Or ∷ binary And ∷ binary Plus ∷ binary Times ∷ minus ∷ tilde ∷ opening ∷ closing ∷ is_zero ∷ comma ∷ constant true ∷ constant false ∷ relation contact ∷ relation part ∷ []

abbrev sign_at : ℕ → Sym
sign_at c = get_or signs c opening

sign_code : (x : Sym) → code x < 16 → sign_at (code x) ≡ x
sign_code (leaf Leaf.zero) h = absurd (omega arith)
sign_code (leaf Leaf.one) h = absurd (omega arith)
sign_code (leaf (Leaf.name b)) h = absurd (omega arith)
sign_code minus h = refl
sign_code tilde h = refl
sign_code opening h = refl
sign_code closing h = refl
sign_code comma h = refl
sign_code is_zero h = refl
sign_code (binary Implies) h = refl
sign_code (binary Iff) h = refl
sign_code (binary Or) h = refl
sign_code (binary And) h = refl
sign_code (binary Plus) h = refl
sign_code (binary Times) h = refl
sign_code (constant true) h = refl
sign_code (constant false) h = refl
sign_code (relation contact) h = refl
sign_code (relation part) h = refl

sign_first : (l : List Sym) (c : ℕ) → kind_on l ≡ c → c < 16 → l ≡ sign_at c ∷ tail l
sign_first [] c e h = absurd (omega arith)
sign_first (x ∷ l) c e h = ap (λ (y : Sym). y ∷ l) (sym (sign_code x (omega arith)) ∙ ap sign_at e)

leaf_code : (x : Sym) → 16 ≤ code x → (y : Leaf Name) × (x ≡ leaf y)
leaf_code (leaf y) h = (y, refl)
leaf_code minus h = absurd (omega arith)
leaf_code tilde h = absurd (omega arith)
leaf_code opening h = absurd (omega arith)
leaf_code closing h = absurd (omega arith)
leaf_code comma h = absurd (omega arith)
leaf_code is_zero h = absurd (omega arith)
leaf_code (binary Implies) h = absurd (omega arith)
leaf_code (binary Iff) h = absurd (omega arith)
leaf_code (binary Or) h = absurd (omega arith)
leaf_code (binary And) h = absurd (omega arith)
leaf_code (binary Plus) h = absurd (omega arith)
leaf_code (binary Times) h = absurd (omega arith)
leaf_code (constant true) h = absurd (omega arith)
leaf_code (constant false) h = absurd (omega arith)
leaf_code (relation contact) h = absurd (omega arith)
leaf_code (relation part) h = absurd (omega arith)

leaf_first : (l : List Sym) → 16 ≤ kind_on l → kind_on l < 19 → (y : Leaf Name) × (l ≡ leaf y ∷ tail l)
leaf_first [] a b = absurd (omega arith)
leaf_first (x ∷ l) a b = let r : (y : Leaf Name) × (x ≡ leaf y) = leaf_code x a in (r.0, ap (λ (z : Sym). z ∷ l) r.1)

-- ---- what goes on a value

goes_code : (t : Bool) (x : Sym) → goes_at t (code x) ≡ goes t x
unfolding goes_at binding_of
goes_code t (leaf Leaf.zero) = refl
goes_code t (leaf Leaf.one) = refl
goes_code t (leaf (Leaf.name b)) = refl
goes_code t minus = refl
goes_code t tilde = refl
goes_code t opening = refl
goes_code t closing = refl
goes_code t comma = refl
goes_code true is_zero = refl
goes_code false is_zero = refl
goes_code t (binary Implies) = refl
goes_code t (binary Iff) = refl
goes_code t (binary Or) = refl
goes_code t (binary And) = refl
goes_code t (binary Plus) = refl
goes_code t (binary Times) = refl
goes_code t (constant true) = refl
goes_code t (constant false) = refl
goes_code t (relation contact) = refl
goes_code t (relation part) = refl

goes_first : (t : Bool) (l : List Sym) → goes_at t (kind_on l) ≡ goes_on t l
unfolding goes_at binding_of
goes_first t [] = refl
goes_first t (x ∷ l) = goes_code t x

-- the binary sign b goes on a term (true) or a formula, and m is one more than its rank
abbrev pub Joins : Bool → Sign → ℕ → Type 0
Joins t b m = (t ≡ joins_terms b) × (m ≡ suc (rank_of b)) × (beq t (joins_terms b) ≡ true)

binary_code : (t : Bool) (x : Sym) → 0 < binding_of t (code x) → (b : Sign) × Joins t b (binding_of t (code x)) × (x ≡ binary b)
unfolding binding_of
binary_code t (leaf Leaf.zero) h = absurd (omega arith)
binary_code t (leaf Leaf.one) h = absurd (omega arith)
binary_code t (leaf (Leaf.name b)) h = absurd (omega arith)
binary_code t minus h = absurd (omega arith)
binary_code t tilde h = absurd (omega arith)
binary_code t opening h = absurd (omega arith)
binary_code t closing h = absurd (omega arith)
binary_code t comma h = absurd (omega arith)
binary_code t is_zero h = absurd (omega arith)
binary_code true (binary Implies) h = absurd (omega arith)
binary_code true (binary Iff) h = absurd (omega arith)
binary_code true (binary Or) h = absurd (omega arith)
binary_code true (binary And) h = absurd (omega arith)
binary_code true (binary Plus) h = (Plus, (refl, refl, refl), refl)
binary_code true (binary Times) h = (Times, (refl, refl, refl), refl)
binary_code false (binary Implies) h = (Implies, (refl, refl, refl), refl)
binary_code false (binary Iff) h = (Iff, (refl, refl, refl), refl)
binary_code false (binary Or) h = (Or, (refl, refl, refl), refl)
binary_code false (binary And) h = (And, (refl, refl, refl), refl)
binary_code false (binary Plus) h = absurd (omega arith)
binary_code false (binary Times) h = absurd (omega arith)
binary_code t (constant true) h = absurd (omega arith)
binary_code t (constant false) h = absurd (omega arith)
binary_code t (relation contact) h = absurd (omega arith)
binary_code t (relation part) h = absurd (omega arith)

binary_first : (t : Bool) (l : List Sym) → 0 < binding_of t (kind_on l) → (b : Sign) × Joins t b (binding_of t (kind_on l)) × (l ≡ binary b ∷ tail l)
unfolding binding_of
binary_first t [] h = absurd (omega arith)
binary_first t (x ∷ l) h =
    let r : (b : Sign) × Joins t b (binding_of t (code x)) × (x ≡ binary b) = binary_code t x h in
    (r.0, r.1, ap (λ (z : Sym). z ∷ l) r.2)

-- ---- what goes on a value, by its kind alone

binding_holds : (P : ℕ → Type 0) (t : Bool) (c : ℕ) → ((b : Sign) → P (goes t (binary b))) → P 0 → P (binding_of t c)
unfolding binding_of
binding_holds P t c h z =
    cond_holds P (eqb c 0) _ _ (h Implies) (cond_holds P (eqb c 1) _ _ (h Iff) (cond_holds P (eqb c 2) _ _ (h Or) (cond_holds P (eqb c 3) _ _ (h And) (cond_holds P (eqb c 4) _ _ (h Plus) (cond_holds P (eqb c 5) _ _ (h Times) z)))))

term_goes : (b : Sign) → (goes true (binary b) ≤ 6) × (0 < goes true (binary b) → 5 ≤ goes true (binary b))
term_goes Implies = (omega arith, λ h. omega arith)
term_goes Iff = (omega arith, λ h. omega arith)
term_goes Or = (omega arith, λ h. omega arith)
term_goes And = (omega arith, λ h. omega arith)
term_goes Plus = (omega arith, λ h. omega arith)
term_goes Times = (omega arith, λ h. omega arith)

-- + and * have ranks 4 and 5, the signs of formulas 0 to 2
pub binding_term : (c : ℕ) → (binding_of true c ≤ 6) × (0 < binding_of true c → 5 ≤ binding_of true c)
binding_term c = binding_holds (λ (m : ℕ). (m ≤ 6) × (0 < m → 5 ≤ m)) true c term_goes (omega arith, λ h. omega arith)

pub binding_formula : (c : ℕ) → binding_of false c ≤ 3
binding_formula c = binding_holds (λ (m : ℕ). m ≤ 3) false c (λ b. goes_formula (binary b)) (omega arith)

pub binding_zero : (t : Bool) → binding_of t 10 ≡ 0
unfolding binding_of
binding_zero t = refl

pub binding_end : (t : Bool) → binding_of t 19 ≡ 0
unfolding binding_of
binding_end t = refl

-- ---- what is refused

-- where no sign of rank m or tighter goes on the value, and neither ) nor , nor =0 is what the first frame waits for
rejects : (t : Bool) (m p : ℕ) (K : List Frame) (o : List Sym) (x : Sym) → goes t x ≤ m → m ≤ loosest t → top K ≤ loosest t → (code x ≡ 9 → shut t K o p ≡ dead p) → (code x ≡ 11 → parted K o p ≡ dead p) → (4 ≤ m → allow K ≡ false) → step (have t K o) x p ≡ dead p
rejects t m p K o (leaf b) g a k s c z = refl
rejects t m p K o minus g a k s c z = refl
rejects t m p K o tilde g a k s c z = refl
rejects t m p K o opening g a k s c z = refl
rejects t m p K o closing g a k s c z = ap (λ (q : Popped). close t q p) (pop_keep (loosest t) K o k) ∙ s refl
rejects true m p K o comma g a k s c z = ap (λ (q : Popped). part_at q p) (pop_keep 4 K o k) ∙ c refl
rejects false m p K o comma g a k s c z = refl
rejects true m p K o is_zero g a k s c z = ap (λ (q : Popped). zeroed q p) (pop_keep 4 K o k) ∙ ap (λ (b : Bool). guard b (have false K (o ++ is_zero ∷ [])) p) (z g)
rejects false m p K o is_zero g a k s c z = refl
rejects true m p K o (binary Implies) g a k s c z = refl
rejects true m p K o (binary Iff) g a k s c z = refl
rejects true m p K o (binary Or) g a k s c z = refl
rejects true m p K o (binary And) g a k s c z = refl
rejects true m p K o (binary Plus) g a k s c z = absurd (omega arith)
rejects true m p K o (binary Times) g a k s c z = absurd (omega arith)
rejects false m p K o (binary Implies) g a k s c z = absurd (omega arith)
rejects false m p K o (binary Iff) g a k s c z = absurd (omega arith)
rejects false m p K o (binary Or) g a k s c z = absurd (omega arith)
rejects false m p K o (binary And) g a k s c z = absurd (omega arith)
rejects false m p K o (binary Plus) g a k s c z = refl
rejects false m p K o (binary Times) g a k s c z = refl
rejects t m p K o (constant d) g a k s c z = refl
rejects t m p K o (relation d) g a k s c z = refl

pub rejected : (l : List Sym) (t : Bool) (m p : ℕ) (K : List Frame) (o : List Sym) → goes_on t l ≤ m → m ≤ loosest t → top K ≤ loosest t → (kind_on l ≡ 9 → shut t K o p ≡ dead p) → (kind_on l ≡ 11 → parted K o p ≡ dead p) → (4 ≤ m → allow K ≡ false) → (l ≡ [] → t ≡ false → done K o p ≡ refused p) → run l p (have t K o) ≡ refused p
unfolding run
rejected [] true m p K o g a k s c z e = refl
rejected [] false m p K o g a k s c z e = ap (λ (q : Popped). done q.stack q.order p) (pop_keep 0 K o k) ∙ e refl refl
rejected (x ∷ l) t m p K o g a k s c z e = ap (run l (p + 1)) (rejects t m p K o x g a k s c z) ∙ run_dead l (p + 1) p

-- a symbol that begins no term, and a formula at most where none may stand
abbrev pub NoTerm : ℕ → Bool → Type 0
NoTerm c w = (c ≡ 6 → ⊥) × (c ≡ 8 → ⊥) × (16 ≤ c → 19 ≤ c) × (w ≡ true → (c ≡ 7 → ⊥) × (12 ≤ c → 16 ≤ c))

no_term_step : (p : ℕ) (K : List Frame) (o : List Sym) (x : Sym) → NoTerm (code x) (allow K) → step (want K o) x p ≡ dead p
no_term_step p K o (leaf Leaf.zero) h = absurd (let y : 19 ≤ 16 = h.2 (omega arith) in omega arith)
no_term_step p K o (leaf Leaf.one) h = absurd (let y : 19 ≤ 17 = h.2 (omega arith) in omega arith)
no_term_step p K o (leaf (Leaf.name b)) h = absurd (let y : 19 ≤ 18 = h.2 (omega arith) in omega arith)
no_term_step p K o minus h = absurd (h.0 refl)
no_term_step p K o tilde h = ap (λ (b : Bool). guard b (want (after_tilde ∷ K) o) p) (eq-false_of_not-eq-true (λ w. (h.3 w).0 refl))
no_term_step p K o opening h = absurd (h.1 refl)
no_term_step p K o closing h = refl
no_term_step p K o comma h = refl
no_term_step p K o is_zero h = refl
no_term_step p K o (binary b) h = refl
no_term_step p K o (constant true) h = ap (λ (b : Bool). guard b (have false K (o ++ constant true ∷ [])) p) (eq-false_of_not-eq-true (λ w. let y : 16 ≤ 12 = (h.3 w).1 (omega arith) in omega arith))
no_term_step p K o (constant false) h = ap (λ (b : Bool). guard b (have false K (o ++ constant false ∷ [])) p) (eq-false_of_not-eq-true (λ w. let y : 16 ≤ 13 = (h.3 w).1 (omega arith) in omega arith))
no_term_step p K o (relation contact) h = ap (λ (b : Bool). guard b (call contact K o) p) (eq-false_of_not-eq-true (λ w. let y : 16 ≤ 14 = (h.3 w).1 (omega arith) in omega arith))
no_term_step p K o (relation part) h = ap (λ (b : Bool). guard b (call part K o) p) (eq-false_of_not-eq-true (λ w. let y : 16 ≤ 15 = (h.3 w).1 (omega arith) in omega arith))

pub no_term : (l : List Sym) (p : ℕ) (K : List Frame) (o : List Sym) → NoTerm (kind_on l) (allow K) → run l p (want K o) ≡ refused p
unfolding run
no_term [] p K o h = refl
no_term (x ∷ l) p K o h = ap (run l (p + 1)) (no_term_step p K o x h) ∙ run_dead l (p + 1) p

no_opening_step : (p : ℕ) (d : Relation) (K : List Frame) (o : List Sym) (x : Sym) → (code x ≡ 8 → ⊥) → step (call d K o) x p ≡ dead p
no_opening_step p d K o (leaf b) h = refl
no_opening_step p d K o minus h = refl
no_opening_step p d K o tilde h = refl
no_opening_step p d K o opening h = absurd (h refl)
no_opening_step p d K o closing h = refl
no_opening_step p d K o comma h = refl
no_opening_step p d K o is_zero h = refl
no_opening_step p d K o (binary b) h = refl
no_opening_step p d K o (constant b) h = refl
no_opening_step p d K o (relation b) h = refl

-- C or <= with no parenthesis after it
pub no_opening : (l : List Sym) (p : ℕ) (d : Relation) (K : List Frame) (o : List Sym) → (kind_on l ≡ 8 → ⊥) → run l p (call d K o) ≡ refused p
unfolding run
no_opening [] p d K o h = refl
no_opening (x ∷ l) p d K o h = ap (run l (p + 1)) (no_opening_step p d K o x h) ∙ run_dead l (p + 1) p

-- ---- the same by places

module _ (xs : List Sym) (ks : List ℕ) (e : codes xs ≡ ks) (p : ℕ) where
  pub kind_at_lem : kind_at ks p ≡ kind_on (drop p xs)
  kind_at_lem = ap (λ (l : List ℕ). kind_at l p) (sym e) ∙ kind_on_lem xs p

  pub goes_at_lem : (t : Bool) (m : ℕ) → goes_at t (kind_at ks p) ≤ m → goes_on t (drop p xs) ≤ m
  goes_at_lem t m h = rw (← goes_first t (drop p xs), ← kind_at_lem) h

  onward : (x : Sym) (s : State) → drop p xs ≡ x ∷ tail (drop p xs) → run (drop p xs) p s ≡ run (drop (p + 1) xs) (p + 1) (step s x p)
  unfolding run
  onward x s h =
      ap (λ (l : List Sym). run l p s) h
      ∙ ap (λ (l : List Sym). run l (p + 1) (step s x p)) (tail_drop xs p)
      ∙ ap (λ (n : ℕ). run (drop n xs) (p + 1) (step s x p)) (sym (add-one p))

  -- one step at a sign, and at a leaf
  pub at_sign : (c : ℕ) (s : State) → kind_at ks p ≡ c → c < 16 → run (drop p xs) p s ≡ run (drop (p + 1) xs) (p + 1) (step s (sign_at c) p)
  at_sign c s k h = onward (sign_at c) s (sign_first (drop p xs) c (sym kind_at_lem ∙ k) h)

  pub at_leaf : 16 ≤ kind_at ks p → kind_at ks p < 19 → (y : Leaf Name) × (code (leaf y) ≡ kind_at ks p) × ((s : State) → run (drop p xs) p s ≡ run (drop (p + 1) xs) (p + 1) (step s (leaf y) p))
  at_leaf a b =
      let r : (y : Leaf Name) × (drop p xs ≡ leaf y ∷ tail (drop p xs)) = leaf_first (drop p xs) (rw kind_at_lem at a) (rw kind_at_lem at b) in
      (r.0, sym (kind_at_lem ∙ ap kind_on r.1), λ s. onward (leaf r.0) s r.1)

  -- a binary sign that goes on the value
  pub at_binary : (t : Bool) → 0 < binding_of t (kind_at ks p) → (b : Sign) × Joins t b (binding_of t (kind_at ks p)) × (kind_at ks p ≡ code (binary b)) × ((s : State) → run (drop p xs) p s ≡ run (drop (p + 1) xs) (p + 1) (step s (binary b) p))
  at_binary t h =
      let r : (b : Sign) × Joins t b (binding_of t (kind_on (drop p xs))) × (drop p xs ≡ binary b ∷ tail (drop p xs)) = binary_first t (drop p xs) (rw kind_at_lem at h) in
      (r.0, rw kind_at_lem r.1, kind_at_lem ∙ ap kind_on r.2, λ s. onward (binary r.0) s r.2)
