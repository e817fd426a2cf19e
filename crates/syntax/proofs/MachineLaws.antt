-- Laws of the machine: how a value is handed to the frame that waits for it, and that a refused token stays refused.
-- Assumes nothing.
use Prim.Native.Nat.{ℕ, ◌+◌, ◌≤◌, ◌<◌}
use native.Mathlib.Omega.{arith}
use mathlib.Core.Path.{◌≡◌, refl, ap}
use mathlib.Core.List.{List, [], ◌∷◌, ◌++◌}
use mathlib.Core.Bool.{Bool, true, false, cond}
use borrow.Author.Tests.{lt-ltb, le-ltb}
use Rattle.formula.specs.declared.Sign.{Sign}
use Rattle.formula.specs.declared.Sign.TheVariants.{Implies, Iff, Or, And, Plus, Times}
use Rattle.formula.specs.Sign.{joins_terms}
use Rattle.syntax.specs.Symbol.{leaf, minus, tilde, opening, closing, comma, is_zero, binary, constant, relation}
use Rattle.syntax.specs.Machine.{Sym, Frame, in_parenthesis, after_minus, after_tilde, after_binary, first_of, second_of, need, sign_of, loosest, have, dead, Popped, pop, close, zeroed, join, step, refused, done, finish, run, part_at}
use Rattle.syntax.specs.Reader.{top, goes, goes_on}

pub run_dead : (l : List Sym) (i j : ℕ) → run l i (dead j) ≡ refused j
unfolding run
run_dead [] i j = refl
run_dead (x ∷ l) i j = run_dead l (i + 1) j

pub pop_feed : (l : ℕ) (f : Frame) (K : List Frame) (o : List Sym) → l < need f → pop l (f ∷ K) o ≡ pop l K (o ++ sign_of f ∷ [])
pop_feed l f K o h = ap (λ (b : Bool). cond b (pop l K (o ++ sign_of f ∷ [])) (record { stack = f ∷ K; order = o })) (lt-ltb l (need f) h)

pub pop_keep : (l : ℕ) (K : List Frame) (o : List Sym) → top K ≤ l → pop l K o ≡ record { stack = K; order = o }
pop_keep l [] o h = refl
pop_keep l (f ∷ K) o h = ap (λ (b : Bool). cond b (pop l K (o ++ sign_of f ∷ [])) (record { stack = f ∷ K; order = o })) (le-ltb l (need f) h)

-- the frame is a sign that waits for a term (true) or a formula
abbrev pub Waits : Bool → Frame → Type 0
Waits t in_parenthesis = ⊥
Waits t after_minus = t ≡ true
Waits t after_tilde = t ≡ false
Waits t (after_binary b) = t ≡ joins_terms b
Waits t (first_of c) = ⊥
Waits t (second_of c) = ⊥

loosest_below : (t : Bool) (f : Frame) → Waits t f → loosest t < need f
loosest_below t in_parenthesis h = absurd h
loosest_below t (first_of c) h = absurd h
loosest_below t (second_of c) h = absurd h
loosest_below t after_minus h = rw h (omega arith)
loosest_below t after_tilde h = rw h (omega arith)
loosest_below t (after_binary Implies) h = rw h (omega arith)
loosest_below t (after_binary Iff) h = rw h (omega arith)
loosest_below t (after_binary Or) h = rw h (omega arith)
loosest_below t (after_binary And) h = rw h (omega arith)
loosest_below t (after_binary Plus) h = rw h (omega arith)
loosest_below t (after_binary Times) h = rw h (omega arith)

feed_binary : (t : Bool) (b : Sign) (f : Frame) (K : List Frame) (o : List Sym) (p : ℕ) → goes t (binary b) ≤ need f → step (have t (f ∷ K) o) (binary b) p ≡ step (have t K (o ++ sign_of f ∷ [])) (binary b) p
feed_binary true Implies f K o p h = refl
feed_binary true Iff f K o p h = refl
feed_binary true Or f K o p h = refl
feed_binary true And f K o p h = refl
feed_binary true Plus f K o p h = ap (join Plus) (pop_feed 4 f K o h)
feed_binary true Times f K o p h = ap (join Times) (pop_feed 5 f K o h)
feed_binary false Implies f K o p h = ap (join Implies) (pop_feed 0 f K o h)
feed_binary false Iff f K o p h = ap (join Iff) (pop_feed 0 f K o h)
feed_binary false Or f K o p h = ap (join Or) (pop_feed 1 f K o h)
feed_binary false And f K o p h = ap (join And) (pop_feed 2 f K o h)
feed_binary false Plus f K o p h = refl
feed_binary false Times f K o p h = refl

feed_step : (t : Bool) (f : Frame) (K : List Frame) (o : List Sym) (x : Sym) (p : ℕ) → Waits t f → goes t x ≤ need f → step (have t (f ∷ K) o) x p ≡ step (have t K (o ++ sign_of f ∷ [])) x p
feed_step t f K o (leaf b) p w h = refl
feed_step t f K o minus p w h = refl
feed_step t f K o tilde p w h = refl
feed_step t f K o opening p w h = refl
feed_step t f K o closing p w h = ap (λ (q : Popped). close t q p) (pop_feed (loosest t) f K o (loosest_below t f w))
feed_step true f K o is_zero p w h = ap (λ (q : Popped). zeroed q p) (pop_feed 4 f K o (loosest_below true f w))
feed_step false f K o is_zero p w h = refl
feed_step t f K o (binary b) p w h = feed_binary t b f K o p h
feed_step true f K o comma p w h = ap (λ (q : Popped). part_at q p) (pop_feed 4 f K o (loosest_below true f w))
feed_step false f K o comma p w h = refl
feed_step t f K o (constant c) p w h = refl
feed_step t f K o (relation c) p w h = refl

feed_end : (t : Bool) (f : Frame) (K : List Frame) (o : List Sym) (p : ℕ) → Waits t f → finish (have t (f ∷ K) o) p ≡ finish (have t K (o ++ sign_of f ∷ [])) p
feed_end true f K o p w = refl
feed_end false f K o p w = ap (λ (q : Popped). done q.stack q.order p) (pop_feed 0 f K o (loosest_below false f w))

-- a value goes to the frame that waits for it, unless a sign that binds tighter follows
pub feed : (l : List Sym) (i : ℕ) (t : Bool) (f : Frame) (K : List Frame) (o : List Sym) → Waits t f → goes_on t l ≤ need f → run l i (have t (f ∷ K) o) ≡ run l i (have t K (o ++ sign_of f ∷ []))
unfolding run
feed [] i t f K o w h = feed_end t f K o i w
feed (x ∷ l) i t f K o w h = ap (run l (i + 1)) (feed_step t f K o x i w h)

pub goes_formula : (x : Sym) → goes false x ≤ 3
goes_formula (leaf b) = omega arith
goes_formula minus = omega arith
goes_formula tilde = omega arith
goes_formula opening = omega arith
goes_formula closing = omega arith
goes_formula comma = omega arith
goes_formula is_zero = omega arith
goes_formula (binary Implies) = omega arith
goes_formula (binary Iff) = omega arith
goes_formula (binary Or) = omega arith
goes_formula (binary And) = omega arith
goes_formula (binary Plus) = omega arith
goes_formula (binary Times) = omega arith
goes_formula (constant d) = omega arith
goes_formula (relation d) = omega arith

pub goes_term : (x : Sym) → goes true x ≤ 6
goes_term (leaf b) = omega arith
goes_term minus = omega arith
goes_term tilde = omega arith
goes_term opening = omega arith
goes_term closing = omega arith
goes_term comma = omega arith
goes_term is_zero = omega arith
goes_term (binary Implies) = omega arith
goes_term (binary Iff) = omega arith
goes_term (binary Or) = omega arith
goes_term (binary And) = omega arith
goes_term (binary Plus) = omega arith
goes_term (binary Times) = omega arith
goes_term (constant d) = omega arith
goes_term (relation d) = omega arith
