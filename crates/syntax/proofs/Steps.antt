-- What one turn of the code does to an answer: a kind is written, a sign is read, a value is handed to the frame that waits
-- for it, or what stands there is refused. Each is a step of the machine, or the law of its feeding or of its refusal, by
-- cases on the answer. Assumes nothing.
use Prim.Native.Nat.{ℕ, suc, ◌+◌, ◌≤◌, ◌<◌}
use native.Mathlib.Omega.{arith}
use mathlib.Core.Path.{◌≡◌, refl, sym, ap, subst, ◌∙◌}
use mathlib.Core.List.{List, [], ◌∷◌, ◌++◌, map-append}
use mathlib.Core.Bool.{Bool, true, false, not, cond, true≢false}
use lib.Dec.{eqb}
use lib.ListN.{length, drop, set, length-append}
use borrow.Author.Tests.{eqb-true, eqb-false, ne_eqb}
use Rattle.lists.proofs.Padded.{pad_set}
use Rattle.lists.specs.Padded.{pad}
use Rattle.formula.specs.declared.Sign.TheVariants.{Implies, Iff, Or, And, Plus, Times}
use Rattle.syntax.specs.Symbol.{Relation, is_zero, relation}
use Rattle.syntax.specs.Machine.{Sym, Frame, in_parenthesis, after_minus, after_tilde, after_binary, first_of, second_of, need, sign_of, allow, loosest, want, have, dead, Popped, guard, shut, close, zeroed, parted, Result, refused, run}
use Rattle.syntax.specs.Reader.{code, codes, kind_at, top, goes_on, binding_of, goes_at, Holds, EndsAs, StopsBelow, Sorted, Within, Inside, Room, expected_of, ended_of, ended_in, related_of, related_in, zeroed_of, zeroed_in, start_of}
use Rattle.syntax.specs.Reader.{Read, Value, Refused}
use Rattle.syntax.proofs.MachineLaws.{pop_keep, Waits, feed}
use Rattle.syntax.proofs.Heads.{kind_inside, length_codes, binding_term, binding_formula, rejected, kind_at_lem, goes_at_lem, at_sign}

-- ---- one number more in the order

pub holds_one : (A : List ℕ) (n : ℕ) (o : List Sym) (x : Sym) → Holds A n o → n < 256 → Holds (set A n (code x)) (n + 1) (o ++ x ∷ [])
unfolding codes
holds_one A n o x h l = (
  ap (λ (B : List ℕ). set B n (code x)) h.0
      ∙ pad_set 256 (codes o) n (code x) (length_codes o ∙ h.1) l
      ∙ ap (pad 256) (sym (map-append code o (x ∷ []))),
  let e : length o ≡ n = h.1 in simp length-append (omega arith),
)

-- ---- places and ranks

pub inside_of : (l a m : ℕ) (r : Read) → m ≤ a → Within l a m r → Inside l r
inside_of l a m (Value t p n) h w = (w.1, omega arith)
inside_of l a m (Refused p) h w = tt

pub room_of : (l a m : ℕ) (r : Read) → m < a → l ≤ 256 → Within l a m r → Room r
room_of l a m (Value t p n) h k w = omega arith
room_of l a m (Refused p) h k w = tt

pub within_from : (l a m b q : ℕ) (r : Read) → a ≤ b → q + a ≤ m + b → Within l b q r → Within l a m r
within_from l a m b q (Value t p n) h k w = (omega arith, w.1, omega arith)
within_from l a m b q (Refused p) h k w = tt

pub stops_looser : (ks : List ℕ) (j k : ℕ) (r : Read) → j ≤ k → StopsBelow ks j r → StopsBelow ks k r
stops_looser ks j k (Value t p n) h s = omega arith
stops_looser ks j k (Refused p) h s = tt

pub sorted_formula : (w : Bool) (r : Read) → w ≡ true → Sorted w r
sorted_formula w (Value t p n) h = λ e. absurd (true≢false (sym h ∙ e))
sorted_formula w (Refused p) h = tt

pub goes_false : (c : ℕ) → goes_at false c ≤ 3
unfolding goes_at
goes_false c = by_cond (eqb c 10)
  where
    by_cond : (b : Bool) → cond b 0 (binding_of false c) ≤ 3
    by_cond true = omega arith
    by_cond false = binding_formula c

pub goes_last : (t : Bool) (c : ℕ) → goes_at t c ≤ 6
unfolding goes_at
goes_last true c = by_cond (eqb c 10)
  where
    by_cond : (b : Bool) → cond b 4 (binding_of true c) ≤ 6
    by_cond true = omega arith
    by_cond false = (binding_term c).0
goes_last false c = omega (arith, goes_false c)

pub stops_last : (ks : List ℕ) (r : Read) → StopsBelow ks 6 r
stops_last ks (Value t p n) = goes_last t (kind_at ks p)
stops_last ks (Refused p) = tt

-- ---- a sign after its last value

-- a frame that waits for a formula is a sign: neither ) nor , ends it
record FormulaFrame (f : Frame) : Type 0 where
  low : need f ≤ 3
  unshut : (t : Bool) (K : List Frame) (o : List Sym) (i : ℕ) → shut t (f ∷ K) o i ≡ dead i
  unparted : (K : List Frame) (o : List Sym) (i : ℕ) → parted (f ∷ K) o i ≡ dead i

formula_frame : (f : Frame) → Waits false f → FormulaFrame f
formula_frame in_parenthesis h = absurd h
formula_frame after_minus h = absurd (true≢false (sym h))
formula_frame after_tilde h = record { low = omega arith; unshut = λ t K o i. refl; unparted = λ K o i. refl }
formula_frame (after_binary Implies) h = record { low = omega arith; unshut = λ t K o i. refl; unparted = λ K o i. refl }
formula_frame (after_binary Iff) h = record { low = omega arith; unshut = λ t K o i. refl; unparted = λ K o i. refl }
formula_frame (after_binary Or) h = record { low = omega arith; unshut = λ t K o i. refl; unparted = λ K o i. refl }
formula_frame (after_binary And) h = record { low = omega arith; unshut = λ t K o i. refl; unparted = λ K o i. refl }
formula_frame (after_binary Plus) h = absurd (true≢false (sym h))
formula_frame (after_binary Times) h = absurd (true≢false (sym h))
formula_frame (first_of d) h = absurd h
formula_frame (second_of d) h = absurd h

-- a term where a sign of formulas waits
stuck : (l : List Sym) (p : ℕ) (f : Frame) (K : List Frame) (o : List Sym) → Waits false f → goes_on true l ≤ need f → run l p (have true (f ∷ K) o) ≡ refused p
stuck l p f K o w h =
    let q : FormulaFrame f = formula_frame f w in
    let m : need f ≤ 3 = q.low in
    rejected l true (need f) p (f ∷ K) o h (omega arith) (omega arith) (λ e. q.unshut true K o p) (λ e. q.unparted K o p) (λ e. absurd (omega arith)) (λ e s. absurd (true≢false s))

-- the run ends as one from the place of the answer on, where the second term of C or <= is wanted
abbrev pub Turns : List Sym → Result → Relation → List Frame → Read → List ℕ → Type 0
Turns xs R d K (Value t p n) A = (o : List Sym) × Holds A n o × (R ≡ run (drop p xs) p (want (second_of d ∷ K) o))
Turns xs R d K (Refused p) A = R ≡ refused p

module _ (xs : List Sym) (ks : List ℕ) (e : codes xs ≡ ks) (R : Result) where
  pub ended_goes : (term : Bool) (f : Frame) (K : List Frame) (r : Read) (A : List ℕ) → Waits term f → StopsBelow ks (need f) r → Sorted (not term) r → Room r → EndsAs xs R (f ∷ K) r A → EndsAs xs R K (ended_of term r) (ended_in term (code (sign_of f)) r A)
  ended_goes true f K (Value true p n) A w s k m g = (g.0 ++ sign_of f ∷ [], holds_one A n g.0 (sign_of f) g.1 m, g.2 ∙ feed (drop p xs) p true f K g.0 w (goes_at_lem xs ks e p true (need f) s))
  ended_goes true f K (Value false p n) A w s k m g = absurd (true≢false (sym (k refl)))
  ended_goes false f K (Value true p n) A w s k m g = g.2 ∙ stuck (drop p xs) p f K g.0 w (goes_at_lem xs ks e p true (need f) s)
  ended_goes false f K (Value false p n) A w s k m g = (g.0 ++ sign_of f ∷ [], holds_one A n g.0 (sign_of f) g.1 m, g.2 ∙ feed (drop p xs) p false f K g.0 w (goes_at_lem xs ks e p false (need f) s))
  ended_goes term f K (Refused p) A w s k m g = g

  -- ) after the value in a parenthesis
  pub closed_goes : (w : Bool) (K : List Frame) (r : Read) (A : List ℕ) → allow K ≡ w → Sorted w r → StopsBelow ks (start_of w) r → EndsAs xs R (in_parenthesis ∷ K) r A → EndsAs xs R K (expected_of ks 9 r) A
  closed_goes w K (Value t p n) A a k s g = by_test (eqb (kind_at ks p) 9) refl
    where
      unclosed : (v : Bool) → w ≡ v → start_of v ≤ loosest t
      unclosed true q = omega arith
      unclosed false q = rw (k q) (omega arith)

      barred : (v : Bool) → w ≡ v → 4 ≤ start_of v → allow K ≡ false
      barred true q h = absurd (omega arith)
      barred false q h = a ∙ q

      by_test : (b : Bool) → eqb (kind_at ks p) 9 ≡ b → EndsAs xs R K (cond b (Value t (p + 1) n) (Refused p)) A
      by_test true q = (g.0, g.1, g.2 ∙ at_sign xs ks e p 9 (have t (in_parenthesis ∷ K) g.0) (eqb-true (kind_at ks p) 9 q) (omega arith) ∙ ap (λ (z : Popped). run (drop (p + 1) xs) (p + 1) (close t z p)) (pop_keep (loosest t) (in_parenthesis ∷ K) g.0 (omega arith)))
      by_test false q = g.2 ∙ rejected (drop p xs) t (start_of w) p (in_parenthesis ∷ K) g.0 (goes_at_lem xs ks e p t (start_of w) s) (unclosed w refl) (omega arith) (λ h. absurd (eqb-false (kind_at ks p) 9 q (kind_at_lem xs ks e p ∙ h))) (λ h. refl) (barred w refl) (λ h z. refl)
  closed_goes w K (Refused p) A a k s g = g

  -- , after the first term of C or <=
  pub parted_goes : (d : Relation) (K : List Frame) (r : Read) (A : List ℕ) → Sorted false r → StopsBelow ks 4 r → EndsAs xs R (first_of d ∷ K) r A → Turns xs R d K (expected_of ks 11 r) A
  parted_goes d K (Value false p n) A k s g = absurd (true≢false (sym (k refl)))
  parted_goes d K (Value true p n) A k s g = by_test (eqb (kind_at ks p) 11) refl
    where
      by_test : (b : Bool) → eqb (kind_at ks p) 11 ≡ b → Turns xs R d K (cond b (Value true (p + 1) n) (Refused p)) A
      by_test true q = (g.0, g.1, g.2 ∙ at_sign xs ks e p 11 (have true (first_of d ∷ K) g.0) (eqb-true (kind_at ks p) 11 q) (omega arith))
      by_test false q = g.2 ∙ rejected (drop p xs) true 4 p (first_of d ∷ K) g.0 (goes_at_lem xs ks e p true 4 s) (omega arith) (omega arith) (λ h. refl) (λ h. absurd (eqb-false (kind_at ks p) 11 q (kind_at_lem xs ks e p ∙ h))) (λ h. refl) (λ h z. absurd (true≢false z))
  parted_goes d K (Refused p) A k s g = g

  -- ) after the second
  pub related_goes : (d : Relation) (c : ℕ) (K : List Frame) (r : Read) (A : List ℕ) → code (relation d) ≡ c → Sorted false r → StopsBelow ks 4 r → Room r → EndsAs xs R (second_of d ∷ K) r A → EndsAs xs R K (related_of (expected_of ks 9 r)) (related_in c (expected_of ks 9 r) A)
  related_goes d c K (Value false p n) A u k s m g = absurd (true≢false (sym (k refl)))
  related_goes d c K (Value true p n) A u k s m g = by_test (eqb (kind_at ks p) 9) refl
    where
      by_test : (b : Bool) → eqb (kind_at ks p) 9 ≡ b → EndsAs xs R K (related_of (cond b (Value true (p + 1) n) (Refused p))) (related_in c (cond b (Value true (p + 1) n) (Refused p)) A)
      by_test true q = (g.0 ++ relation d ∷ [], subst (λ (v : ℕ). Holds (set A n v) (n + 1) (g.0 ++ relation d ∷ [])) u (holds_one A n g.0 (relation d) g.1 m), g.2 ∙ at_sign xs ks e p 9 (have true (second_of d ∷ K) g.0) (eqb-true (kind_at ks p) 9 q) (omega arith))
      by_test false q = g.2 ∙ rejected (drop p xs) true 4 p (second_of d ∷ K) g.0 (goes_at_lem xs ks e p true 4 s) (omega arith) (omega arith) (λ h. absurd (eqb-false (kind_at ks p) 9 q (kind_at_lem xs ks e p ∙ h))) (λ h. refl) (λ h. refl) (λ h z. absurd (true≢false z))
  related_goes d c K (Refused p) A u k s m g = g

  -- =0 after a term
  pub zeroed_goes : (K : List Frame) (r : Read) (A : List ℕ) → allow K ≡ true → top K ≤ 4 → length ks ≤ 256 → Inside (length ks) r → EndsAs xs R K r A → EndsAs xs R K (zeroed_of ks r) (zeroed_in ks r A)
  zeroed_goes K (Value true p n) A a h m i g = by_test (eqb (kind_at ks p) 10) refl
    where
      by_test : (b : Bool) → eqb (kind_at ks p) 10 ≡ b → EndsAs xs R K (cond b (Value false (p + 1) (n + 1)) (Value true p n)) (cond b (set A n 10) A)
      by_test true q =
          let kind : kind_at ks p ≡ 10 = eqb-true (kind_at ks p) 10 q in
          let here : p < length ks = kind_inside ks p (omega arith) in (
            g.0 ++ is_zero ∷ [],
            holds_one A n g.0 is_zero g.1 (omega arith),
            g.2
                ∙ at_sign xs ks e p 10 (have true K g.0) kind (omega arith)
                ∙ ap (λ (z : Popped). run (drop (p + 1) xs) (p + 1) (zeroed z p)) (pop_keep 4 K g.0 h)
                ∙ ap (λ (b : Bool). run (drop (p + 1) xs) (p + 1) (guard b (have false K (g.0 ++ is_zero ∷ [])) p)) a,
          )
      by_test false q = g
  zeroed_goes K (Value false p n) A a h m i g = g
  zeroed_goes K (Refused p) A a h m i g = g

-- ---- where the answers stop

pub ended_stops : (ks : List ℕ) (term : Bool) (k : ℕ) (r : Read) → StopsBelow ks k r → StopsBelow ks k (ended_of term r)
ended_stops ks true k (Value true p n) s = s
ended_stops ks true k (Value false p n) s = tt
ended_stops ks false k (Value true p n) s = tt
ended_stops ks false k (Value false p n) s = s
ended_stops ks term k (Refused p) s = tt

pub ended_sorted : (term w : Bool) (r : Read) → (w ≡ false → term ≡ true) → Sorted w (ended_of term r)
ended_sorted true w (Value true p n) h = λ q. refl
ended_sorted true w (Value false p n) h = tt
ended_sorted false w (Value true p n) h = tt
ended_sorted false w (Value false p n) h = h
ended_sorted term w (Refused p) h = tt

pub ended_within : (l a m : ℕ) (term : Bool) (r : Read) → Within l (a + 1) m r → Within l a m (ended_of term r)
ended_within l a m true (Value true p n) w = (omega arith, w.1, omega arith)
ended_within l a m true (Value false p n) w = tt
ended_within l a m false (Value true p n) w = tt
ended_within l a m false (Value false p n) w = (omega arith, w.1, omega arith)
ended_within l a m term (Refused p) w = tt

pub expected_sorted : (ks : List ℕ) (c : ℕ) (w : Bool) (r : Read) → Sorted w r → Sorted w (expected_of ks c r)
expected_sorted ks c w (Value t p n) s = by_test (eqb (kind_at ks p) c)
  where
    by_test : (b : Bool) → Sorted w (cond b (Value t (p + 1) n) (Refused p))
    by_test true = s
    by_test false = tt
expected_sorted ks c w (Refused p) s = tt

pub expected_within : (ks : List ℕ) (c a m : ℕ) (r : Read) → c < 19 → Within (length ks) a m r → Within (length ks) a m (expected_of ks c r)
expected_within ks c a m (Value t p n) h w = by_test (eqb (kind_at ks p) c) refl
  where
    by_test : (b : Bool) → eqb (kind_at ks p) c ≡ b → Within (length ks) a m (cond b (Value t (p + 1) n) (Refused p))
    by_test true q =
        let kind : kind_at ks p ≡ c = eqb-true (kind_at ks p) c q in
        let here : p < length ks = kind_inside ks p (omega arith) in
        (omega arith, omega arith, omega arith)
    by_test false q = tt
expected_within ks c a m (Refused p) h w = tt

pub zeroed_within : (ks : List ℕ) (a m : ℕ) (r : Read) → Within (length ks) a m r → Within (length ks) a m (zeroed_of ks r)
zeroed_within ks a m (Value true p n) w = by_test (eqb (kind_at ks p) 10) refl
  where
    by_test : (b : Bool) → eqb (kind_at ks p) 10 ≡ b → Within (length ks) a m (cond b (Value false (p + 1) (n + 1)) (Value true p n))
    by_test true q =
        let kind : kind_at ks p ≡ 10 = eqb-true (kind_at ks p) 10 q in
        let here : p < length ks = kind_inside ks p (omega arith) in
        (omega arith, omega arith, omega arith)
    by_test false q = w
zeroed_within ks a m (Value false p n) w = w
zeroed_within ks a m (Refused p) w = tt

below_five : (m : ℕ) → (0 < m → 5 ≤ m) → m ≤ 4 → m ≤ 3
below_five ℕ.zero h l = omega arith
below_five (suc m) h l = absurd (let z : 5 ≤ suc m = h (omega arith) in omega arith)

-- a term on which neither =0 nor a binary sign of terms goes
goes_no_zero : (c : ℕ) → (c ≡ 10 → ⊥) → goes_at true c ≤ 4 → goes_at true c ≤ 3
unfolding goes_at
goes_no_zero c h s = by_cond (eqb c 10) (ne_eqb c 10 h) s
  where
    by_cond : (b : Bool) → b ≡ false → cond b 4 (binding_of true c) ≤ 4 → cond b 4 (binding_of true c) ≤ 3
    by_cond true q l = absurd (true≢false q)
    by_cond false q l = below_five (binding_of true c) (binding_term c).1 l

pub zeroed_stops : (ks : List ℕ) (r : Read) → StopsBelow ks 4 r → StopsBelow ks 3 (zeroed_of ks r)
zeroed_stops ks (Value true p n) s = by_test (eqb (kind_at ks p) 10) refl
  where
    by_test : (b : Bool) → eqb (kind_at ks p) 10 ≡ b → StopsBelow ks 3 (cond b (Value false (p + 1) (n + 1)) (Value true p n))
    by_test true q = goes_false (kind_at ks (p + 1))
    by_test false q = goes_no_zero (kind_at ks p) (eqb-false (kind_at ks p) 10 q) s
zeroed_stops ks (Value false p n) s = goes_false (kind_at ks p)
zeroed_stops ks (Refused p) s = tt
