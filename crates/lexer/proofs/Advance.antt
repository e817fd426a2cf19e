-- How the cutting goes on from a place: past a blank byte or a token the rest is cut from there, and a token filled into the arrays or
-- still to come gives the same answer. Assumes nothing.
use Rattle.std.specs.Prelude.{Result, Err}
use mathlib.Core.Path.{◌≡◌, refl, sym, ap, subst, ◌∙◌}
use mathlib.Core.List.{List, [], ◌∷◌}
use Prim.Native.Nat.{ℕ, suc, ◌+◌, ◌-◌, ◌≤◌, ◌<◌}
use native.Mathlib.Omega.{arith}
use native.Mathlib.Nat.{add-zero}
use lib.ListN.{length, get_or, drop, drop_of_length-le}
use lib.Seq.{drop-drop}
use Rattle.lexer.specs.Token.{token_of}
use Rattle.lexer.specs.Cutting.{Cutting, tokens, refused, with_token}
use Rattle.lexer.specs.Cutter.{piece_of, more, put, cut_from}
use Rattle.lexer.specs.Steps.{push, fill, finish, resume}
use Rattle.lexer.specs.declared.Kind.{Kind}
use Rattle.lexer.specs.declared.Piece.{Piece}
use Rattle.lexer.specs.declared.LexError.{LexError}
use Rattle.lexer.specs.declared.Tokens.{Tokens}
use Rattle.lists.proofs.Lists.{rest}
use Rattle.lexer.specs.Arrays.{tokens_of}
use Rattle.lexer.proofs.Pieces.{Sized, sized, token_sized}

-- the bytes of the token before are skipped
skip : (k i : ℕ) (s : List ℕ) → k ≤ length s → cut_from i k s ≡ cut_from (i + k) 0 (drop k s)
unfolding cut_from
skip ℕ.zero i s h = ap (λ (j : ℕ). cut_from j 0 s) (sym (add-zero i))
skip (suc k) i [] h = absurd (omega arith)
skip (suc k) i (b ∷ s) h = skip k (i + 1) s (omega arith) ∙ ap (λ (j : ℕ). cut_from j 0 (drop k s)) (omega arith)

-- ---- one piece at the start of a text

module _ (i b : ℕ) (s : List ℕ) where
  pub by_piece : (p : Piece) → piece_of (b ∷ s) ≡ p → cut_from i 0 (b ∷ s) ≡ put p i (cut_from (i + 1) (more p) s)
  unfolding cut_from
  by_piece p e = ap (λ (q : Piece). put q i (cut_from (i + 1) (more q) s)) e

  pub by_token : (k : Kind) (n : ℕ) (r : Cutting) → piece_of (b ∷ s) ≡ Piece.Token k n → r ≡ cut_from (i + n) 0 (drop n (b ∷ s)) → with_token (token_of k i n) r ≡ cut_from i 0 (b ∷ s)
  by_token k n r e f = go n refl
    where
      z : Sized (Piece.Token k n) (suc (length s))
      z = subst (λ (p : Piece). Sized p (suc (length s))) e (sized b s)

      go : (m : ℕ) → n ≡ m → with_token (token_of k i n) r ≡ cut_from i 0 (b ∷ s)
      go ℕ.zero g = absurd (omega (arith, z.0))
      go (suc m) g =
          let j : n - 1 ≡ m = omega arith in
          let l : i + 1 + m ≡ i + n = omega arith in
          ap (with_token (token_of k i n))
          (f ∙ ap (λ (a : ℕ). cut_from (i + n) 0 (drop a (b ∷ s))) g ∙ ap (λ (a : ℕ). cut_from a 0 (drop m s)) (sym l)
          ∙ sym (skip m (i + 1) s (omega (arith, z.1))) ∙ ap (λ (a : ℕ). cut_from (i + 1) a s) (sym j))
          ∙ sym (by_piece (Piece.Token k n) e)

-- ---- one piece at a place of a text

resume_first : (t : Tokens) (k : Kind) (i n : ℕ) (r : Cutting) → resume t (with_token (token_of k i n) r) ≡ resume (push t k i n) r
unfolding resume fill
resume_first t k i n (tokens ts) = refl
resume_first t k i n (refused a) = refl

module _ (s : List ℕ) (i : ℕ) where
  -- the answer where t is filled already and the text is cut from place i on
  abbrev answer_from : Tokens → Result Tokens LexError
  answer_from t = resume t (cut_from i 0 (drop i s))

  pub at_end : length s ≤ i → (t : Tokens) → finish t ≡ answer_from t
  unfolding cut_from resume fill
  at_end h t = rw (drop_of_length-le s h)

  module _ (h : i < length s) where
    here : (p : Piece) → p ≡ piece_of (drop i s) → cut_from i 0 (drop i s) ≡ put p i (cut_from (i + 1) (more p) (drop (i + 1) s))
    here p e =
        let d = rest s i 0 h in
        ap (cut_from i 0) d ∙ by_piece i (get_or s i 0) (drop (i + 1) s) p (sym (e ∙ ap piece_of d))

    pub at_blank : (t : Tokens) → Piece.Blank ≡ piece_of (drop i s) → resume t (cut_from (i + 1) 0 (drop (i + 1) s)) ≡ answer_from t
    at_blank t e = sym (ap (resume t) (here Piece.Blank e))

    pub at_foreign : (t : Tokens) → Piece.Foreign ≡ piece_of (drop i s) → Err (LexError.ForeignByte i) ≡ answer_from t
    unfolding resume
    at_foreign t e = sym (ap (resume t) (here Piece.Foreign e))

    pub at_long : (t : Tokens) → Piece.LongName ≡ piece_of (drop i s) → Err (LexError.LongName i) ≡ answer_from t
    unfolding resume
    at_long t e = sym (ap (resume t) (here Piece.LongName e))

    pub at_measured : (t : Tokens) → Piece.Measured ≡ piece_of (drop i s) → Err (LexError.Measured i) ≡ answer_from t
    unfolding resume
    at_measured t e = sym (ap (resume t) (here Piece.Measured e))

    after_token : (k : Kind) (n : ℕ) → Piece.Token k n ≡ piece_of (drop i s) → cut_from i 0 (drop i s) ≡ with_token (token_of k i n) (cut_from (i + n) 0 (drop (i + n) s))
    after_token k n e =
        let d = rest s i 0 h in
        ap (cut_from i 0) d
        ∙ sym (by_token i (get_or s i 0) (drop (i + 1) s) k n (cut_from (i + n) 0 (drop (i + n) s)) (sym (e ∙ ap piece_of d))
        (ap (cut_from (i + n) 0) (sym (ap (drop n) (sym d) ∙ drop-drop n i s))))

    pub at_token : (t : Tokens) (k : Kind) (n : ℕ) → Piece.Token k n ≡ piece_of (drop i s) → resume (push t k i n) (cut_from (i + n) 0 (drop (i + n) s)) ≡ answer_from t
    at_token t k n e = sym (resume_first t k i n (cut_from (i + n) 0 (drop (i + n) s))) ∙ sym (ap (resume t) (after_token k n e))

-- ---- what the cutter starts with, and what it meets at a place of a text
pub none_yet : (tokens_of []).n ≡ 0
unfolding tokens_of
none_yet = refl

pub ruleset steps = (none_yet, at_end, at_blank, at_foreign, at_long, at_measured, at_token, token_sized)
