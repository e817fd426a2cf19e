-- The computed cutting is the meant one, by induction on the text: each piece is what the relation asks at its place, and the rest is cut
-- from where the piece ends. Assumes nothing.
use mathlib.Core.Path.{◌≡◌, refl, sym, ap, subst}
use mathlib.Core.Bool.{Bool, true, false, cond}
use mathlib.Core.List.{List, [], ◌∷◌}
use Prim.Native.Nat.{ℕ, suc, ◌+◌, ◌-◌, ◌≤◌}
use native.Mathlib.Omega.{arith}
use native.Mathlib.Nat.{add-zero}
use lib.Dec.{ltb}
use lib.ListN.{length, take, drop, take-append-drop}
use lib.Seq.{length-take-le}
use borrow.Author.Tests.{ltb-true, ltb-false}
use Rattle.lexer.specs.Class.{class_of}
use Rattle.lexer.specs.Token.{token_of}
use Rattle.lexer.specs.Spelling.{Meaning, token, measured, Spelling, signs, run_kind}
use Rattle.lexer.specs.Cutting.{Cutting, with_token, Match, nothing, match, Longest, AllAlphanumeric, NoAlphanumericFirst, Run, Cut, end, blank, run, long_name, sign, measured_sign, no_sign, foreign}
use Rattle.lexer.specs.Cutter.{meaning_piece, match_piece, longest, sign_piece, in_run, run_length, run_piece, by_class, piece_of, more, put, cut_from, cutting}
use Rattle.lexer.specs.declared.Class.{Class}
use Rattle.lexer.specs.declared.Piece.{Piece}
use Rattle.lexer.proofs.Longest.{longest_is}
use Rattle.lexer.proofs.Pieces.{Sized, sized}
use Rattle.lexer.proofs.Runs.{run_fits}

-- ---- runs
is_alphanumeric : (c : Class) → in_run c ≡ true → c ≡ Class.Alphanumeric
is_alphanumeric Class.Blank e = let z : ◌≡◌ {A = ℕ} 0 1 = cc in absurd (omega arith)
is_alphanumeric Class.Alphanumeric e = refl
is_alphanumeric Class.Sign e = let z : ◌≡◌ {A = ℕ} 0 1 = cc in absurd (omega arith)
is_alphanumeric Class.Foreign e = let z : ◌≡◌ {A = ℕ} 0 1 = cc in absurd (omega arith)

run_all : (s : List ℕ) → AllAlphanumeric (take (run_length s) s)
unfolding run_length
run_all [] = tt
run_all (b ∷ s) = go (in_run (class_of b)) refl (run_all s)
  where
    go : (t : Bool) → in_run (class_of b) ≡ t → AllAlphanumeric (take (run_length s) s) → AllAlphanumeric (take (cond t (suc (run_length s)) 0) (b ∷ s))
    go true e r = (is_alphanumeric (class_of b) e, r)
    go false e r = tt

run_ends : (s : List ℕ) → NoAlphanumericFirst (drop (run_length s) s)
unfolding run_length
run_ends [] = tt
run_ends (b ∷ s) = go (in_run (class_of b)) refl (run_ends s)
  where
    go : (t : Bool) → in_run (class_of b) ≡ t → NoAlphanumericFirst (drop (run_length s) s) → NoAlphanumericFirst (drop (cond t (suc (run_length s)) 0) (b ∷ s))
    go true e r = r
    go false e r = λ f. let g : in_run (class_of b) ≡ true = ap in_run f in let z : ◌≡◌ {A = ℕ} 0 1 = cc in absurd (omega arith)

-- ---- one piece
abbrev Claim : List ℕ → Type 0
Claim s = (i k : ℕ) → k ≤ length s → Cut (i + k) (drop k s) (cut_from i k s)

module _ (b : ℕ) (s : List ℕ) (i : ℕ) (ih : Claim s) where
  abbrev after : Piece → Cutting
  after p = cut_from (i + 1) (more p) s

  -- after a token of n bytes
  next : (n : ℕ) → 1 ≤ n → n ≤ suc (length s) → Cut (i + n) (drop n (b ∷ s)) (cut_from (i + 1) (n - 1) s)
  next ℕ.zero l h = absurd (omega arith)
  next (suc n) l h =
      let e : suc n - 1 ≡ n = omega arith in
      let f : i + 1 + n ≡ i + suc n = omega arith in
      subst (λ (m : ℕ). Cut m (drop n s) (cut_from (i + 1) (suc n - 1) s)) f
      (subst (λ (m : ℕ). Cut (i + 1 + n) (drop n s) (cut_from (i + 1) m s)) (sym e) (ih (i + 1) n (omega arith)))

  on_run : 1 ≤ run_length (b ∷ s) → Cut i (b ∷ s) (put (run_piece (b ∷ s)) i (after (run_piece (b ∷ s))))
  unfolding run_piece
  on_run l = go (ltb 16 (run_length (b ∷ s))) refl
    where
      w : List ℕ
      w = take (run_length (b ∷ s)) (b ∷ s)

      size : length w ≡ run_length (b ∷ s)
      size = length-take-le (run_length (b ∷ s)) (b ∷ s) (run_fits (b ∷ s))

      whole : Run w (drop (run_length (b ∷ s)) (b ∷ s)) (b ∷ s)
      whole = record {
        split = sym (take-append-drop (run_length (b ∷ s)) (b ∷ s));
        some = omega (arith, size);
        all = run_all (b ∷ s);
        ends = run_ends (b ∷ s);
      }

      piece : Bool → Piece
      piece t = cond t Piece.LongName (Piece.Token (run_kind w) (run_length (b ∷ s)))

      go : (t : Bool) → ltb 16 (run_length (b ∷ s)) ≡ t → Cut i (b ∷ s) (put (piece t) i (after (piece t)))
      go true e = long_name whole (omega (arith, size, ltb-true 16 (run_length (b ∷ s)) e))
      go false e =
          subst (λ (n : ℕ). Cut i (b ∷ s) (with_token (token_of (run_kind w) i n) (after (piece false)))) size
          (run whole (omega (arith, size, ltb-false 16 (run_length (b ∷ s)) e))
          (subst (λ (n : ℕ). Cut (i + n) (drop (run_length (b ∷ s)) (b ∷ s)) (after (piece false))) (sym size) (next (run_length (b ∷ s)) l (run_fits (b ∷ s)))))

  on_meaning : class_of b ≡ Class.Sign → (x : Spelling) → Longest signs (b ∷ s) (match x) → (a : Meaning) → x.means ≡ a → Sized (meaning_piece a (length x.bytes)) (suc (length s))
      → Cut i (b ∷ s) (put (meaning_piece a (length x.bytes)) i (after (meaning_piece a (length x.bytes))))
  on_meaning c x h (token k) e z = sign c h e (next (length x.bytes) z.0 z.1)
  on_meaning c x h measured e z = measured_sign c h e

  on_match : class_of b ≡ Class.Sign → (m : Match) → Longest signs (b ∷ s) m → Sized (match_piece m) (suc (length s)) → Cut i (b ∷ s) (put (match_piece m) i (after (match_piece m)))
  on_match c nothing h z = no_sign c h
  on_match c (match x) h z = on_meaning c x h x.means refl z

  on_class : (c : Class) → class_of b ≡ c → Sized (by_class c (b ∷ s)) (suc (length s)) → Cut i (b ∷ s) (put (by_class c (b ∷ s)) i (after (by_class c (b ∷ s))))
  unfolding sign_piece run_length
  on_class Class.Blank e z = blank e (subst (λ (m : ℕ). Cut m s (cut_from (i + 1) 0 s)) (add-zero (i + 1)) (ih (i + 1) 0 (omega arith)))
  on_class Class.Alphanumeric e z = on_run (rw e (omega arith))
  on_class Class.Sign e z = on_match e (longest signs (b ∷ s)) (longest_is (b ∷ s) signs) z
  on_class Class.Foreign e z = foreign e

from : (s : List ℕ) → Claim s
unfolding cut_from piece_of
from [] i ℕ.zero h = end
from [] i (suc k) h = absurd (omega arith)
from (b ∷ s) i ℕ.zero h =
    subst (λ (m : ℕ). Cut m (b ∷ s) (put (by_class (class_of b) (b ∷ s)) i (cut_from (i + 1) (more (by_class (class_of b) (b ∷ s))) s))) (sym (add-zero i))
    (on_class b s i (from s) (class_of b) refl (sized b s))
from (b ∷ s) i (suc k) h = subst (λ (m : ℕ). Cut m (drop k s) (cut_from (i + 1) k s)) (omega arith) (from s (i + 1) k (omega arith))

pub sound : (s : List ℕ) → Cut 0 s (cutting s)
sound s = from s 0 0 (omega arith)
