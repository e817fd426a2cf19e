-- Truth values by their cases: equality, the connectives, and what is picked by one; and a number on one side of another.
-- Assumes nothing.
use mathlib.Core.Bool.{Bool, true, false, not, ◌&&◌, ◌||◌, cond, beq, and-false, true≢false}
use mathlib.Core.Path.{◌≡◌, refl, sym, ap, ◌∙◌}
use mathlib.Core.Logic.{◌⊎◌, inl, inr, ⊎_elim}
use Prim.Native.Nat.{ℕ, ◌≤◌, ◌<◌}
use native.Mathlib.Decide.{dec_lt}
use native.Mathlib.Omega.{arith}

pub clash : {P : Type 0} {b : Bool} → b ≡ true → b ≡ false → P
clash p q = absurd (true≢false (sym p ∙ q))

-- a Boolean by its cases, with the equation
pub cases : {P : Type 0} (b : Bool) → (b ≡ true → P) → (b ≡ false → P) → P
cases true f g = f refl
cases false f g = g refl

pub or_cases : (a b : Bool) → (a || b) ≡ true → (a ≡ true) ⊎ (b ≡ true)
or_cases true b p = inl refl
or_cases false b p = inr p

-- the test of equality
pub beq_same : (a b : Bool) → beq a b ≡ true → a ≡ b
beq_same true true h = refl
beq_same true false h = sym h
beq_same false true h = h
beq_same false false h = refl

pub beq_self : (b : Bool) → beq b b ≡ true
beq_self true = refl
beq_self false = refl

pub beq_true : (c : Bool) → beq true c ≡ c
beq_true true = refl
beq_true false = refl

pub beq_false : (c : Bool) → beq false c ≡ not c
beq_false true = refl
beq_false false = refl

-- not, and, or
pub or_as : (b c : Bool) → not (not b && not c) ≡ (b || c)
or_as true c = refl
or_as false true = refl
or_as false false = refl

pub morgan : (b c : Bool) → (not b || not c) ≡ not (b && c)
morgan true c = refl
morgan false c = refl

pub regroup : (l e s f r : Bool) → ((l && (not e && not s)) && not (f || r)) ≡ (l && (not (e || f) && not (s || r)))
regroup false e s f r = refl
regroup true true s f r = refl
regroup true false true f r = sym (and-false (not f))
regroup true false false true r = refl
regroup true false false false r = refl

-- within r
pub cut_not : (r a : Bool) → (r && not (r && a)) ≡ (r && not a)
cut_not true a = refl
cut_not false a = refl

pub cut_and : (r a b : Bool) → ((r && a) && (r && b)) ≡ (r && (a && b))
cut_and true a b = refl
cut_and false a b = refl

pub cut_less : (r a b : Bool) → ((r && a) && not (r && b)) ≡ (r && (a && not b))
cut_less true a b = refl
cut_less false a b = refl

-- of two, the one that is picked
pub cond_holds : {A : Type 0} (P : A → Type 0) (b : Bool) (x y : A) → P x → P y → P (cond b x y)
cond_holds P true x y h k = h
cond_holds P false x y h k = k

-- a function of what was picked
pub of_cond : {A B : Type 0} (f : A → B) (b : Bool) (x y : A) → cond b (f x) (f y) ≡ f (cond b x y)
of_cond f true x y = refl
of_cond f false x y = refl

-- below or not
pub side : (a b : ℕ) → (a < b) ⊎ (b ≤ a)
side a b = go (dec_lt a b)
  where
    go : Dec (a < b) → (a < b) ⊎ (b ≤ a)
    go (yes l) = inl l
    go (no n) = inr (omega arith)

-- where one side of an `and` is false from the bound on, the other counts below it alone
pub guarded : (e bound : ℕ) (guard x y : Bool) → (bound ≤ e → guard ≡ false) → (e < bound → x ≡ y) → (guard && x) ≡ (guard && y)
guarded e bound guard x y out same =
    ⊎_elim (λ l. ap (λ (b : Bool). guard && b) (same l))
    (λ l. ap (λ (b : Bool). b && x) (out l) ∙ sym (ap (λ (b : Bool). b && y) (out l))) (side e bound)
