-- What is meant determines the cutting: at each place one rule of the relation fits, with one longest sign or one whole run, and it gives
-- what the cutter computes there. Assumes nothing.
use mathlib.Core.Path.{◌≡◌, refl, sym, ap, ◌∙◌}
use mathlib.Core.Bool.{Bool, true, false, ◌&&◌, cond}
use mathlib.Core.List.{List, [], ◌∷◌, ◌++◌}
use Prim.Native.Nat.{ℕ, suc, ◌+◌, ◌≤◌, ◌<◌}
use native.Mathlib.Omega.{arith}
use lib.Dec.{ltb, eqb}
use lib.ListN.{length, take}
use lib.Seq.{take-append_seam, drop-append_seam}
use borrow.Author.Tests.{lt-ltb, le-ltb, eqb-true}
use Rattle.lists.proofs.Truth.{clash}
use Rattle.lexer.specs.Class.{class_of}
use Rattle.lexer.specs.Token.{token_of}
use Rattle.lexer.specs.Spelling.{Meaning, Spelling, signs, starts, run_kind}
use Rattle.lexer.specs.Cutting.{Cutting, refused, with_token, Match, nothing, match, Every, Longest, AllAlphanumeric, NoAlphanumericFirst, Run, Cut, end, blank, run, long_name, sign, measured_sign, no_sign, foreign}
use Rattle.lexer.specs.Cutter.{meaning_piece, match_piece, longest, sign_piece, in_run, run_length, run_piece, piece_of, cut_from}
use Rattle.lexer.specs.declared.Class.{Class}
use Rattle.lexer.specs.declared.Piece.{Piece}
use Rattle.lexer.specs.declared.LexError.TheVariants as LexError
use Rattle.lexer.proofs.Longest.{longest_is, every_at}
use Rattle.lexer.proofs.Pieces.{class_decides}
use Rattle.lexer.proofs.Advance.{by_piece, by_token}

-- ---- the longest spelling is one only

same_start : (w v s : List ℕ) → starts w s ≡ true → starts v s ≡ true → length w ≡ length v → w ≡ v
unfolding starts
same_start [] [] s p q e = refl
same_start [] (y ∷ v) s p q e = absurd (omega arith)
same_start (x ∷ w) [] s p q e = absurd (omega arith)
same_start (x ∷ w) (y ∷ v) [] p q e = clash p refl
same_start (x ∷ w) (y ∷ v) (b ∷ s) p q e = go (eqb b x) refl (eqb b y) refl p q (λ f g. same_start w v s f g (omega arith))
  where
    go : (t : Bool) → eqb b x ≡ t → (u : Bool) → eqb b y ≡ u → (t && starts w s) ≡ true → (u && starts v s) ≡ true
        → (starts w s ≡ true → starts v s ≡ true → w ≡ v) → x ∷ w ≡ y ∷ v
    go true f true g p q r = let a = eqb-true b x f in let c = eqb-true b y g in let d = r p q in cc
    go true f false g p q r = clash q refl
    go false f true g p q r = clash p refl
    go false f false g p q r = clash p refl

-- a sign's own bytes are that sign, so two signs differ in their bytes
signs_own : Every (λ (x : Spelling). longest signs x.bytes ≡ match x) signs
unfolding signs longest starts
signs_own = (refl, (refl, (refl, (refl, (refl, (refl, (refl, (refl, (refl, (refl, (refl, (refl, (refl, (refl, (refl, tt)))))))))))))))

module _ (s : List ℕ) where
  only : (x : Spelling) → Longest signs s (match x) → (m : Match) → Longest signs s m → m ≡ match x
  only x h nothing g = clash h.1 (every_at h.0 (λ (y : Spelling). starts y.bytes s ≡ false) g)
  only x h (match y) g =
      let a = every_at g.0 (λ (z : Spelling). starts z.bytes s ≡ true → length z.bytes ≤ length x.bytes) h.2 g.1 in
      let b = every_at h.0 (λ (z : Spelling). starts z.bytes s ≡ true → length z.bytes ≤ length y.bytes) g.2 h.1 in
      let e : length y.bytes ≡ length x.bytes = omega (arith, a, b) in
      let f = same_start y.bytes x.bytes s g.1 h.1 e in
      sym (every_at g.0 (λ (z : Spelling). longest signs z.bytes ≡ match z) signs_own)
      ∙ ap (longest signs) f
      ∙ every_at h.0 (λ (z : Spelling). longest signs z.bytes ≡ match z) signs_own

  only_none : Longest signs s nothing → (m : Match) → Longest signs s m → m ≡ nothing
  only_none h nothing g = refl
  only_none h (match y) g = clash g.1 (every_at g.0 (λ (y : Spelling). starts y.bytes s ≡ false) h)

  found : (m : Match) → Longest signs s m → longest signs s ≡ m
  found nothing h = only_none h (longest signs s) (longest_is s signs)
  found (match x) h = only x h (longest signs s) (longest_is s signs)

-- ---- runs
not_in_run : (c : Class) → (c ≡ Class.Alphanumeric → ⊥) → in_run c ≡ false
not_in_run Class.Blank n = refl
not_in_run Class.Alphanumeric n = absurd (n refl)
not_in_run Class.Sign n = refl
not_in_run Class.Foreign n = refl

run_none : (s : List ℕ) → NoAlphanumericFirst s → run_length s ≡ 0
unfolding run_length
run_none [] h = refl
run_none (b ∷ s) h = ap (λ (t : Bool). cond t (suc (run_length s)) 0) (not_in_run (class_of b) h)

run_whole : (w s : List ℕ) → AllAlphanumeric w → NoAlphanumericFirst s → run_length (w ++ s) ≡ length w
unfolding run_length
run_whole [] s a h = run_none s h
run_whole (b ∷ w) s a h = ap (λ (c : Class). cond (in_run c) (suc (run_length (w ++ s))) 0) a.0 ∙ ap suc (run_whole w s a.1 h)

-- ---- a sign at the start of a text
by_sign : (b : ℕ) (s : List ℕ) → class_of b ≡ Class.Sign → (m : Match) → Longest signs (b ∷ s) m → piece_of (b ∷ s) ≡ match_piece m
unfolding sign_piece
by_sign b s e m h = class_decides b s Class.Sign e ∙ ap match_piece (found (b ∷ s) m h)

-- ---- a run at the start of a text
run_at : (b : ℕ) (w s : List ℕ) → AllAlphanumeric (b ∷ w) → NoAlphanumericFirst s → length (b ∷ w) ≤ 16 → piece_of ((b ∷ w) ++ s) ≡ Piece.Token (run_kind (b ∷ w)) (length (b ∷ w))
unfolding run_piece
run_at b w s a h l =
    class_decides b (w ++ s) Class.Alphanumeric a.0
    ∙ ap (λ (n : ℕ). cond (ltb 16 n) Piece.LongName (Piece.Token (run_kind (take n ((b ∷ w) ++ s))) n)) (run_whole (b ∷ w) s a h)
    ∙ ap (λ (t : Bool). cond t Piece.LongName (Piece.Token (run_kind (take (length (b ∷ w)) ((b ∷ w) ++ s))) (length (b ∷ w)))) (le-ltb 16 (length (b ∷ w)) l)
    ∙ ap (λ (v : List ℕ). Piece.Token (run_kind v) (length (b ∷ w))) (take-append_seam (b ∷ w) s)

long_at : (b : ℕ) (w s : List ℕ) → AllAlphanumeric (b ∷ w) → NoAlphanumericFirst s → 16 < length (b ∷ w) → piece_of ((b ∷ w) ++ s) ≡ Piece.LongName
unfolding run_piece
long_at b w s a h l =
    class_decides b (w ++ s) Class.Alphanumeric a.0
    ∙ ap (λ (n : ℕ). cond (ltb 16 n) Piece.LongName (Piece.Token (run_kind (take n ((b ∷ w) ++ s))) n)) (run_whole (b ∷ w) s a h)
    ∙ ap (λ (t : Bool). cond t Piece.LongName (Piece.Token (run_kind (take (length (b ∷ w)) ((b ∷ w) ++ s))) (length (b ∷ w)))) (lt-ltb 16 (length (b ∷ w)) l)

on_run : (i : ℕ) (w s t : List ℕ) (r : Cutting) → Run w s t → length w ≤ 16 → r ≡ cut_from (i + length w) 0 s → with_token (token_of (run_kind w) i (length w)) r ≡ cut_from i 0 t
on_run i [] s t r h l e = absurd (omega (arith, h.some))
on_run i (b ∷ w) s t r h l e =
    by_token i b (w ++ s) (run_kind (b ∷ w)) (length (b ∷ w)) r (run_at b w s h.all h.ends l)
    (e ∙ ap (cut_from (i + length (b ∷ w)) 0) (sym (drop-append_seam (b ∷ w) s)))
    ∙ ap (cut_from i 0) (sym h.split)

on_long : (i : ℕ) (w s t : List ℕ) → Run w s t → 16 < length w → refused (LexError.LongName i) ≡ cut_from i 0 t
on_long i [] s t h l = absurd (omega arith)
on_long i (b ∷ w) s t h l = sym (by_piece i b (w ++ s) Piece.LongName (long_at b w s h.all h.ends l)) ∙ ap (cut_from i 0) (sym h.split)

-- a text that is cut as r is cut so by the definition
pub determined : {i : ℕ} {t : List ℕ} {r : Cutting} → Cut i t r → r ≡ cut_from i 0 t
unfolding cut_from
determined end = refl
determined (blank {i} {b} {s} {r} e c) = determined c ∙ sym (by_piece i b s Piece.Blank (class_decides b s Class.Blank e))
determined (run {i} {w} {s} {t} {r} h l c) = on_run i w s t r h l (determined c)
determined (long_name {i} {w} {s} {t} h l) = on_long i w s t h l
determined (sign {i} {b} {s} {x} {k} {r} e h p c) =
    by_token i b s k (length x.bytes) r (by_sign b s e (match x) h ∙ ap (λ (a : Meaning). meaning_piece a (length x.bytes)) p) (determined c)
determined (measured_sign {i} {b} {s} {x} e h p) = sym (by_piece i b s Piece.Measured (by_sign b s e (match x) h ∙ ap (λ (a : Meaning). meaning_piece a (length x.bytes)) p))
determined (no_sign {i} {b} {s} e h) = sym (by_piece i b s Piece.Foreign (by_sign b s e nothing h))
determined (foreign {i} {b} {s} e) = sym (by_piece i b s Piece.Foreign (class_decides b s Class.Foreign e))
