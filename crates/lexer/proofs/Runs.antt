-- A run goes on while its next byte is a letter or digit, so it is found one byte after the other. Assumes nothing.
use mathlib.Core.Path.{◌≡◌, refl, sym, ap, ◌∙◌}
use mathlib.Core.Bool.{Bool, true, false, cond}
use mathlib.Core.List.{List, [], ◌∷◌}
use Prim.Native.Nat.{ℕ, suc, ◌+◌, ◌-◌, ◌≤◌, ◌<◌}
use native.Mathlib.Omega.{arith}
use lib.Dec.{ltb}
use lib.ListN.{length, take, drop, get_or, drop_of_length-le}
use borrow.Author.Tests.{lt-ltb, le-ltb}
use Rattle.lexer.specs.Class.{class_of}
use Rattle.lexer.specs.Spelling.{run_kind, constant_kind}
use Rattle.lexer.specs.Cutter.{in_run, run_length, run_piece}
use Rattle.lexer.specs.declared.Class.TheVariants as Class
use Rattle.lexer.specs.declared.Kind.{Kind}
use Rattle.lexer.specs.declared.Piece.{Piece}
use Rattle.lists.proofs.Lists.{rest}

module _ (s : List ℕ) (i : ℕ) where
  pub run_more : i < length s → in_run (class_of (get_or s i 0)) ≡ true → run_length (drop i s) ≡ suc (run_length (drop (i + 1) s))
  unfolding run_length
  run_more h w = rw (rest s i 0 h, w)

  pub run_stop : i < length s → in_run (class_of (get_or s i 0)) ≡ false → run_length (drop i s) ≡ 0
  unfolding run_length
  run_stop h w = rw (rest s i 0 h, w)

  pub run_end : length s ≤ i → run_length (drop i s) ≡ 0
  unfolding run_length
  run_end h = rw (drop_of_length-le s h)

pub run_fits : (s : List ℕ) → run_length s ≤ length s
unfolding run_length
run_fits [] = omega arith
run_fits (b ∷ s) = go (in_run (class_of b)) (run_fits s)
  where
    go : (t : Bool) → run_length s ≤ length s → cond t (suc (run_length s)) 0 ≤ suc (length s)
    go true h = omega arith
    go false h = omega arith

abbrev two : ℕ → Bool → Bool → ℕ
two n t u = cond t (suc (cond u (suc n) 0)) 0

-- a run that is not one byte long is a name
run_name : (s : List ℕ) → (◌≡◌ {A = ℕ} (run_length s) 1 → ⊥) → run_kind (take (run_length s) s) ≡ Kind.Name
unfolding run_length
run_name [] h = refl
run_name (b ∷ []) h = go (in_run (class_of b)) h
  where
    go : (t : Bool) → (◌≡◌ {A = ℕ} (cond t 1 0) 1 → ⊥) → run_kind (take (cond {A = ℕ} t 1 0) (b ∷ [])) ≡ Kind.Name
    go true h = absurd (h refl)
    go false h = refl
run_name (b ∷ d ∷ s) h = go (in_run (class_of b)) (in_run (class_of d)) h
  where
    go : (t u : Bool) → (two (run_length s) t u ≡ 1 → ⊥) → run_kind (take (two (run_length s) t u) (b ∷ d ∷ s)) ≡ Kind.Name
    go true true h = refl
    go true false h = absurd (h refl)
    go false true h = refl
    go false false h = refl

pub long : (s : List ℕ) (n : ℕ) → n ≡ run_length s → 16 < n → Piece.LongName ≡ run_piece s
unfolding run_piece
long s n e h = let g : 16 < run_length s = omega arith in simp (lt-ltb 16 (run_length s) g)

pub name : (s : List ℕ) (n : ℕ) → n ≡ run_length s → n ≤ 16 → (n ≡ 1 → ⊥) → Piece.Token Kind.Name n ≡ run_piece s
unfolding run_piece
name s n e h d =
    let g : run_length s ≤ 16 = omega arith in
    simp (le-ltb 16 (run_length s) g, run_name s (λ f. d (e ∙ f))) (ap (Piece.Token Kind.Name) e)

pub alone : (s : List ℕ) (i : ℕ) → i < length s → (n : ℕ) → n ≡ run_length (drop i s) → n ≡ 1 → (k : Kind) → k ≡ constant_kind (get_or s i 0) → Piece.Token k 1 ≡ run_piece (drop i s)
unfolding run_piece
alone s i l n e o k f =
    let g : run_length (drop i s) ≡ 1 = sym e ∙ o in
    ap (λ (x : Kind). Piece.Token x 1) (f ∙ sym (ap (λ (r : List ℕ). run_kind (take 1 r)) (rest s i 0 l)))
    ∙ sym (ap (λ (m : ℕ). cond (ltb 16 m) Piece.LongName (Piece.Token (run_kind (take m (drop i s))) m)) g)

-- a run whose first byte is known goes on at the next place
pub run_here : (s : List ℕ) (i : ℕ) → i < length s → class_of (get_or s i 0) ≡ Class.Alphanumeric → (e : ℕ) → e ≡ i + 1 + run_length (drop (i + 1) s) → e - i ≡ run_length (drop i s)
run_here s i h k e f = omega (arith, run_more s i h (ap in_run k))

-- ---- what the loop over a run meets, and what a run is cut as
pub ruleset steps = (run_more, run_stop, run_end)

pub ruleset pieces = (run_here, long, name, alone)
