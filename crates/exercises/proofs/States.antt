-- The reader's state behind a string, and what it says of the walk. Assumes nothing.
use mathlib.Core.Path.{◌≡◌, refl, sym, ap, ◌∙◌, subst}
use mathlib.Core.List.{List, [], ◌∷◌, ◌++◌, append_assoc, append-nil, map-append}
use Prim.Native.Nat.{ℕ, suc, ◌+◌}
use native.Mathlib.Omega.{arith}
use native.Mathlib.Nat.{add-zero}
use lib.ListN.{length, length-append}
use Rattle.lists.specs.Search.{In, here}
use Rattle.syntax.specs.Machine.{Sym, Result, accepted, refused, State, want, dead, step, finish, run, reading}
use Rattle.syntax.proofs.MachineLaws.{run_dead}
use Rattle.syntax.proofs.Claims.{derived_read}
use Rattle.exercises.specs.Tokens.{token_at, tokens_at}
use Rattle.exercises.specs.Book.{is_accepted, reaches_end, whole, begun, walk}
use Rattle.exercises.proofs.Walks.{walk_elim}

-- the tokens of ks lead to the state s
abbrev pub Leads : List ℕ → State → Type 0
Leads ks s = (xs : List Sym) → reading (tokens_at ks ++ xs) ≡ run xs (length ks) s

pub leads_next : (ks : List ℕ) (s : State) (k : ℕ) → Leads ks s → Leads (ks ++ k ∷ []) (step s (token_at k) (length ks))
unfolding run
leads_next ks s k h xs =
    let n : length ks + 1 ≡ length (ks ++ k ∷ []) = sym (length-append ks (k ∷ [])) in
    ap reading (ap (λ (l : List Sym). l ++ xs) (map-append token_at ks (k ∷ [])) ∙ append_assoc (tokens_at ks) (token_at k ∷ []) xs)
    ∙ h (token_at k ∷ xs) ∙ ap (λ (i : ℕ). run xs i (step s (token_at k) (length ks))) n

-- there is one for each
abbrev pub after : List ℕ → ℕ → State → State
after [] i s = s
after (k ∷ ks) i s = after ks (i + 1) (step s (token_at k) i)

run_after : (ks : List ℕ) (i : ℕ) (s : State) (xs : List Sym) → run (tokens_at ks ++ xs) i s ≡ run xs (i + length ks) (after ks i s)
unfolding run
run_after [] i s xs = ap (λ (n : ℕ). run xs n s) (sym (add-zero i))
run_after (k ∷ ks) i s xs =
    let e : i + 1 + length ks ≡ i + suc (length ks) = omega arith in
    run_after ks (i + 1) (step s (token_at k) i) xs ∙ ap (λ (n : ℕ). run xs n (after ks (i + 1) (step s (token_at k) i))) e

pub leads_after : (ks : List ℕ) → Leads ks (after ks 0 (want [] []))
unfolding reading
leads_after ks xs = let e : 0 + length ks ≡ length ks = omega arith in run_after ks 0 (want [] []) xs ∙ ap (λ (n : ℕ). run xs n (after ks 0 (want [] []))) e

pub whole_by : (ks : List ℕ) (s : State) → Leads ks s → whole ks ≡ is_accepted (finish s (length ks))
unfolding whole run
whole_by ks s h = ap is_accepted (ap reading (sym (append-nil (tokens_at ks))) ∙ h [])

pub begun_by : (ks : List ℕ) (s : State) → Leads ks s → begun ks ≡ reaches_end (length ks) (finish s (length ks))
unfolding begun run
begun_by ks s h = ap (reaches_end (length ks)) (ap reading (sym (append-nil (tokens_at ks))) ∙ h [])

refused≢accepted : {i : ℕ} {o : List Sym} → refused i ≡ accepted o → ⊥
refused≢accepted e = subst (λ (r : Result). accepting r) e tt
  where
    accepting : Result → Type 0
    accepting (accepted o) = ⊥
    accepting (refused i) = Unit {0}

without : {A : Type 0} (xs : List A) → ((x : A) → In x xs → ⊥) → xs ≡ []
without [] h = refl
without (x ∷ xs) h = absurd (h x here)

-- from a dead state nothing is found
pub dead_none : (m : ℕ) (ks : List ℕ) (j : ℕ) → Leads ks (dead j) → walk m ks ≡ []
dead_none m ks j h = without (walk m ks) none
  where
    none : (x : List ℕ) → In x (walk m ks) → ⊥
    none x i =
        let r = walk_elim m ks i in
        let e : tokens_at x ≡ tokens_at ks ++ tokens_at r.rest = ap tokens_at r.parts ∙ map-append token_at ks r.rest in
        refused≢accepted
        (sym (run_dead (tokens_at r.rest) (length ks) j) ∙ sym (h (tokens_at r.rest)) ∙ ap reading (sym e) ∙ derived_read (tokens_at x) r.formula r.derived)
