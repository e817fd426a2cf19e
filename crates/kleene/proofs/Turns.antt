-- A turn of the machine keeps what is still to be run: in each row the rest of the code, run on the column of the stack, gives
-- what the whole code gives. A turn changes the column at its top alone. What lies on the stack is known by its value in a row, so
-- that these laws serve both runs. Assumes nothing.
use mathlib.Core.Path.{◌≡◌, refl, sym, ap, ap₂, ◌∙◌, subst}
use mathlib.Core.List.{List, [], ◌∷◌}
use Prim.Native.Nat.{ℕ, zero, suc, ◌+◌, ◌-◌, ◌≤◌, ◌<◌}
use native.Mathlib.Omega.{arith}
use native.Mathlib.Numerals.{add-one}
use lib.ListN.{length, get_or, drop, drop_of_length-le}
use Rattle.lists.proofs.Lists.{rest}
use Rattle.kleene.specs.Code.{Class, turns, joins, pushes, class_of, after, Takes, Safe}
use Rattle.kleene.specs.Rails.{Duo, not_d, table_of, push_of, turned, joined, step_by, step, exec}

-- ---- classes

pub class_turns : (c : ℕ) → c ≡ 0 → class_of c ≡ turns
class_turns c h = ap class_of h

pub class_joins : (c : ℕ) → (c ≡ 0 → ⊥) → c < 5 → class_of c ≡ joins
class_joins zero n h = absurd (n refl)
class_joins (suc zero) n h = refl
class_joins (suc (suc zero)) n h = refl
class_joins (suc (suc (suc zero))) n h = refl
class_joins (suc (suc (suc (suc zero)))) n h = refl
class_joins (suc (suc (suc (suc (suc c))))) n h = absurd (omega arith)

pub class_pushes : (c : ℕ) → 5 ≤ c → class_of c ≡ pushes
class_pushes zero h = absurd (omega arith)
class_pushes (suc zero) h = absurd (omega arith)
class_pushes (suc (suc zero)) h = absurd (omega arith)
class_pushes (suc (suc (suc zero))) h = absurd (omega arith)
class_pushes (suc (suc (suc (suc zero)))) h = absurd (omega arith)
class_pushes (suc (suc (suc (suc (suc c))))) h = refl

-- a sign from 7 up is an atom's, and pushes its value
pub push_atom : (v : ℕ → Duo) (c : ℕ) → 7 ≤ c → push_of v c ≡ v (c - 7)
push_atom v c l =
    let z : c ≡ suc (suc (suc (suc (suc (suc (suc (c - 7))))))) = omega arith in
    ap (push_of v) z

-- ---- columns of the stack

-- the n lowest values of a stack that has the value p k at place k, the top first
unfoldable pub column : (ℕ → Duo) → ℕ → List Duo
column p zero = []
column p (suc n) = p n ∷ column p n

column_same : (p q : ℕ → Duo) (n : ℕ) → ((k : ℕ) → k < n → q k ≡ p k) → column q n ≡ column p n
unfolding column
column_same p q zero h = refl
column_same p q (suc n) h = ap₂ ◌∷◌ (h n (omega arith)) (column_same p q n (λ k l. h k (omega arith)))

-- in each row q has the value x at place n, and the values of p below it
pub record Puts (rows n : ℕ) (p q : ℕ → ℕ → Duo) (x : ℕ → Duo) : Type 0 where
  pub top : (e : ℕ) → e < rows → q e n ≡ x e
  pub under : (e : ℕ) → e < rows → (k : ℕ) → k < n → q e k ≡ p e k

column_puts : {rows n : ℕ} {p q : ℕ → ℕ → Duo} {x : ℕ → Duo} → Puts rows n p q x → (e : ℕ) → e < rows
    → column (q e) (suc n) ≡ x e ∷ column (p e) n
unfolding column
column_puts {n = n} {p = p} {q = q} h e l = ap₂ ◌∷◌ (h.top e l) (column_same (p e) (q e) n (h.under e l))

-- ---- a turn

-- with i signs read and height values on the stack, which has room for `deep`; in each row the atoms have the values v and the
-- places of the stack the values p
pub record Running (deep rows : ℕ) (code : List ℕ) (v p : ℕ → ℕ → Duo) (height i : ℕ) : Type 0 where
  pub within : i ≤ length code
  pub high : height ≤ deep
  pub safe : Safe deep 16 (drop i code) height
  pub same : (e : ℕ) → e < rows → exec (v e) (drop i code) (column (p e) height) ≡ exec (v e) code []

exec_next : (v : ℕ → Duo) (code : List ℕ) (i : ℕ) (st : List Duo) → i < length code
    → exec v (drop i code) st ≡ exec v (drop (i + 1) code) (step v (get_or code i 0) st)
unfolding exec
exec_next v code i st l = ap (λ (k : List ℕ). exec v k st) (rest code i 0 l)

safe_next : (deep many : ℕ) (code : List ℕ) (i n : ℕ) → i < length code → Safe deep many (drop i code) n
    → Takes deep many (class_of (get_or code i 0)) (get_or code i 0) n × Safe deep many (drop (i + 1) code) (after (class_of (get_or code i 0)) n)
unfolding Safe
safe_next deep many code i n l s = subst (λ (k : List ℕ). Safe deep many k n) (rest code i 0 l) s

module _ {deep rows : ℕ} {code : List ℕ} {v p : ℕ → ℕ → Duo} {height i : ℕ} (inv : Running deep rows code v p height i) (l : i < length code) where
  abbrev c : ℕ
  c = get_or code i 0

  -- what the sign read next finds on the stack
  pub takes : (k : Class) → class_of c ≡ k → Takes deep 16 k c height
  takes k h = subst (λ (q : Class). Takes deep 16 q c height) h (safe_next deep 16 code i height l inv.safe).0

  keeps : (k : Class) → class_of c ≡ k → Safe deep 16 (drop (i + 1) code) (after k height)
  keeps k h = subst (λ (q : Class). Safe deep 16 (drop (i + 1) code) (after q height)) h (safe_next deep 16 code i height l inv.safe).1

  runs : (k : Class) → class_of c ≡ k → (e : ℕ) → e < rows
      → exec (v e) (drop (i + 1) code) (step_by k (v e) c (column (p e) height)) ≡ exec (v e) code []
  runs k h e b =
      ap (λ (q : Class). exec (v e) (drop (i + 1) code) (step_by q (v e) c (column (p e) height))) (sym h)
      ∙ sym (exec_next (v e) code i (column (p e) height) l) ∙ inv.same e b

  -- the values x are put at n, and n + 1 values are left
  stored : (k : Class) → class_of c ≡ k → (n m : ℕ) (q : ℕ → ℕ → Duo) (x : ℕ → Duo) → m ≡ suc n → n < deep → after k height ≡ m
      → Puts rows n p q x → ((e : ℕ) → x e ∷ column (p e) n ≡ step_by k (v e) c (column (p e) height))
      → Running deep rows code v q m (i + 1)
  stored k h n m q x z b a s f = record {
    within = omega arith;
    high = omega arith;
    safe = subst (Safe deep 16 (drop (i + 1) code)) a (keeps k h);
    same = λ e d.
        ap (λ (j : ℕ). exec (v e) (drop (i + 1) code) (column (q e) j)) z
        ∙ ap (exec (v e) (drop (i + 1) code)) (column_puts s e d ∙ f e) ∙ runs k h e d;
  }

  pub turn_again : (n : ℕ) (q : ℕ → ℕ → Duo) → class_of c ≡ turns → height ≡ suc n → Puts rows n p q (λ e. not_d (p e n))
      → Running deep rows code v q height (i + 1)
  unfolding column
  turn_again n q h z s =
      stored turns h n height q (λ e. not_d (p e n)) z (omega (arith, inv.high)) refl s
      (λ e. ap (λ (k : ℕ). turned (column (p e) k)) (sym z))

  pub join_again : (n : ℕ) (q : ℕ → ℕ → Duo) → class_of c ≡ joins → height ≡ suc (suc n)
      → Puts rows n p q (λ e. table_of c (p e n) (p e (suc n))) → Running deep rows code v q (height - 1) (i + 1)
  unfolding column
  join_again n q h z s =
      stored joins h n (height - 1) q (λ e. table_of c (p e n) (p e (suc n))) (omega arith) (omega (arith, inv.high)) refl s
      (λ e. ap (λ (k : ℕ). joined (table_of c) (column (p e) k)) (sym z))

  pub push_again : (q : ℕ → ℕ → Duo) → class_of c ≡ pushes → Puts rows height p q (λ e. push_of (v e) c)
      → Running deep rows code v q (height + 1) (i + 1)
  push_again q h s =
      stored pushes h height (height + 1) q (λ e. push_of (v e) c) (add-one height) (takes pushes h).0 (sym (add-one height)) s
      (λ e. refl)

pub begins : (deep rows : ℕ) (code : List ℕ) (v p : ℕ → ℕ → Duo) → Safe deep 16 code 0 → Running deep rows code v p 0 0
unfolding column
begins deep rows code v p s = record {
  within = omega arith;
  high = omega arith;
  safe = s;
  same = λ e b. refl;
}

-- at the end one value is left
pub one_left : {deep rows : ℕ} {code : List ℕ} {v p : ℕ → ℕ → Duo} {height i : ℕ} → Running deep rows code v p height i → length code ≤ i → height ≡ 1
unfolding Safe
one_left {deep} {code = code} {height = height} inv l = subst (λ (k : List ℕ). Safe deep 16 k height) (drop_of_length-le code l) inv.safe

pub ends : {deep rows : ℕ} {code : List ℕ} {v p : ℕ → ℕ → Duo} {height i : ℕ} → Running deep rows code v p height i → length code ≤ i → (e : ℕ) → e < rows
    → exec (v e) code [] ≡ p e 0 ∷ []
unfolding exec column
ends {code = code} {v} {p} {height} {i} inv l e b =
    sym (inv.same e b) ∙ ap (λ (k : List ℕ). exec (v e) k (column (p e) height)) (drop_of_length-le code l)
    ∙ ap (λ (k : ℕ). column (p e) k) (one_left inv l)
