-- How many bytes the book of 6 tokens has: they are counted by a walk that carries the reader's state, so that each
-- string is read by one step; that count is computed. Assumes nothing.
use mathlib.Core.Path.{◌≡◌, refl, sym, ap, ◌∙◌}
use mathlib.Core.Bool.{Bool, true, false, true≢false, cond}
use mathlib.Core.List.{List, [], ◌∷◌, ◌++◌}
use Prim.Native.Nat.{ℕ, zero, suc, ◌+◌, ◌≤◌, ◌<◌}
use native.Mathlib.Omega.{arith}
use lib.ListN.{length, length-append}
use borrow.Author.Tests.{eq-eqb}
use Rattle.lists.specs.Search.{collect, below}
use Rattle.lists.specs.Putting.{Puts}
use Rattle.lists.proofs.Search.{collect_collect}
use Rattle.lists.proofs.Putting.{puts_none, puts_text, turn_fits, turn_puts}
use Rattle.syntax.specs.Machine.{Sym, Frame, State, want, have, call, dead, pop, step, done, unless_term, finish, run, reading}
use Rattle.exercises.specs.Tokens.{table, entry, count, token_at, spelling}
use Rattle.exercises.specs.Lines.{parted, line}
use Rattle.exercises.specs.Book.{is_accepted, reaches_end, whole, begun, walk, book, gap, text}
use Rattle.exercises.proofs.Lines.{parted_more}
use Rattle.exercises.proofs.States.{Leads, leads_next, whole_by, begun_by, dead_none}

abbrev total : (ℕ → ℕ) → List ℕ → ℕ
total f [] = 0
total f (k ∷ ks) = f k + total f ks

abbrev unless_dead : State → (Unit {0} → ℕ) → ℕ
unless_dead (dead j) f = 0
unless_dead (want K o) f = f tt
unless_dead (have t K o) f = f tt
unless_dead (call c K o) f = f tt

-- the bytes of the lines of m tokens more, after i tokens that led to the state s and have b bytes with a blank after each
size : ℕ → State → ℕ → ℕ → ℕ
size zero s i b = cond (is_accepted (finish s i)) b 0
size (suc m) s i b = unless_dead s (λ u. total (λ k. size m (step s (token_at k) i) (i + 1) (b + length (spelling k) + 1)) (below count))

total_same : (g : ℕ → List ℕ) (h : ℕ → ℕ) (xs : List ℕ) → ((k : ℕ) → length (g k) ≡ h k) → length (collect g xs) ≡ total h xs
total_same g h [] f = refl
total_same g h (x ∷ xs) f = omega (arith, length-append (g x) (collect g xs), f x, total_same g h xs f)

-- a state that is not dead is refused at the end alone
done_reaches : (t : Bool) (K : List Frame) (o : List Sym) (n : ℕ) → reaches_end n (unless_term t (done K o n) n) ≡ true
done_reaches true K o n = eq-eqb n n refl
done_reaches false [] o n = refl
done_reaches false (f ∷ K) o n = eq-eqb n n refl

one_line : (ks : List ℕ) (b : ℕ) (c : Bool) → whole ks ≡ c → length (parted ks) + length (gap (length ks)) ≡ b
    → length (collect line (cond c (ks ∷ []) [])) ≡ cond c b 0
unfolding whole reading run
one_line ks b false e h = refl
one_line [] b true e h = absurd (true≢false (sym e))
one_line (k ∷ ks) b true e h =
    omega (arith, length-append (line (k ∷ ks)) [], length-append (parted (k ∷ ks)) (10 ∷ []))

sized : (m : ℕ) (ks : List ℕ) (s : State) (b : ℕ) → Leads ks s → length (parted ks) + length (gap (length ks)) ≡ b
    → length (collect line (walk m ks)) ≡ size m s (length ks) b
unfolding walk size
sized zero ks s b l h = one_line ks b (whole ks) refl h ∙ ap (λ (c : Bool). cond c b 0) (whole_by ks s l)
sized (suc m) ks s b l h =
    by s l (λ k. sized m (ks ++ k ∷ []) (step s (token_at k) (length ks)) (b + length (spelling k) + 1) (leads_next ks s k l) (next_bytes k))
  where
    onward : State → ℕ
    onward s = total (λ k. size m (step s (token_at k) (length ks)) (length ks + 1) (b + length (spelling k) + 1)) (below count)

    next_bytes : (k : ℕ) → length (parted (ks ++ k ∷ [])) + length (gap (length (ks ++ k ∷ []))) ≡ b + length (spelling k) + 1
    next_bytes k =
        let e : length (ks ++ k ∷ []) ≡ suc (length ks) = omega (arith, length-append ks (k ∷ [])) in
        omega (arith, h, ap length (parted_more ks k), length-append (parted ks) (gap (length ks) ++ spelling k), length-append (gap (length ks)) (spelling k), ap (λ (n : ℕ). length (gap n)) e)

    Sized : State → Type 0
    Sized s = (k : ℕ) → length (collect line (walk m (ks ++ k ∷ []))) ≡ size m (step s (token_at k) (length ks)) (length (ks ++ k ∷ [])) (b + length (spelling k) + 1)

    live : (s : State) → begun ks ≡ true → Sized s → length (collect line (walk (suc m) ks)) ≡ onward s
    live s e r =
        ap (λ (c : Bool). length (collect line (cond c (collect (λ k. walk m (ks ++ k ∷ [])) (below count)) []))) e
        ∙ ap length (collect_collect line (λ k. walk m (ks ++ k ∷ [])) (below count))
        ∙ total_same (λ k. collect line (walk m (ks ++ k ∷ []))) _ (below count)
        (λ k. r k ∙ ap (λ (i : ℕ). size m (step s (token_at k) (length ks)) i (b + length (spelling k) + 1)) (length-append ks (k ∷ [])))

    by : (s : State) → Leads ks s → Sized s → length (collect line (walk (suc m) ks)) ≡ unless_dead s (λ u. onward s)
    by (dead j) l r = ap (λ (x : List (List ℕ)). length (collect line x)) (dead_none (suc m) ks j l)
    by (want K o) l r = live (want K o) (begun_by ks (want K o) l ∙ eq-eqb (length ks) (length ks) refl) r
    by (have t K o) l r = live (have t K o) (begun_by ks (have t K o) l ∙ done_reaches t (pop 0 K o).stack (pop 0 K o).order (length ks)) r
    by (call c K o) l r = live (call c K o) (begun_by ks (call c K o) l ∙ eq-eqb (length ks) (length ks) refl) r

leads_none : Leads [] (want [] [])
unfolding reading
leads_none xs = refl

computed : total (λ m. size (suc m) (want [] []) 0 0) (below 6) ≡ 56520
unfolding size table entry
computed = refl

-- the text of the book is that of its lengths, one after the other
pub text_turns : (n : ℕ) → text n ≡ collect (λ m. collect line (walk (suc m) [])) (below n)
unfolding text book
text_turns n = collect_collect line (λ m. walk (suc m) []) (below n)

pub text_length : length (text 6) ≡ 56520
text_length =
    ap length (text_turns 6)
    ∙ total_same (λ m. collect line (walk (suc m) [])) (λ m. size (suc m) (want [] []) 0 0) (below 6) (λ m. sized (suc m) [] (want [] []) 0 leads_none refl)
    ∙ computed

-- ---- the text put length by length

length_text : ℕ → List ℕ
length_text m = collect line (walk (suc m) [])

turn_text : (m : ℕ) → collect line (walk (m + 1) []) ≡ length_text m
unfolding length_text
turn_text m = let e : m + 1 ≡ suc m = omega arith in ap (λ (n : ℕ). collect line (walk n [])) e

turns : (n : ℕ) → text n ≡ collect length_text (below n)
unfolding length_text
turns n = text_turns n

pub text_none : (buffer : List ℕ) → Puts 0 (text 0) buffer buffer 0
text_none buffer = puts_text (sym (turns 0)) (puts_none 0 buffer (omega arith))

module _ (m : ℕ) {buffer mid : List ℕ} {end : ℕ} (before : Puts 0 (text m) buffer mid end) where
  so_far : Puts 0 (collect length_text (below m)) buffer mid end
  so_far = puts_text (turns m) before

  pub length_fits : m < 6 → 56520 ≤ length buffer → end + length (collect line (walk (m + 1) [])) ≤ length mid
  length_fits l h =
      let f : end + length (length_text m) ≤ length mid = turn_fits length_text m so_far 6 l (omega (arith, text_length, ap length (turns 6))) in
      omega (arith, f, ap length (turn_text m))

  pub length_puts : {exit : List ℕ} {last : ℕ} → Puts end (collect line (walk (m + 1) [])) mid exit last → Puts 0 (text (m + 1)) buffer exit last
  length_puts this = puts_text (sym (turns (m + 1))) (turn_puts length_text m so_far (puts_text (turn_text m) this))
