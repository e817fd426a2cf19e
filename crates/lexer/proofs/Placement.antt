-- Where the tokens lie follows from what is meant, rule by rule of the relation: a run or a sign is taken from the front of what is left
-- of the text, and the rest starts where it ends. Assumes nothing.
use mathlib.Core.Path.{◌≡◌, refl, sym, ap, subst, ◌∙◌}
use mathlib.Core.List.{List, [], ◌∷◌}
use Prim.Native.Nat.{ℕ, suc, ◌+◌, ◌≤◌, ◌<◌}
use native.Mathlib.Omega.{arith}
use lib.ListN.{length, take, drop, get_or, length-append, length-drop}
use lib.Seq.{drop-drop, take-append_seam, drop-append_seam}
use Rattle.lexer.specs.Token.{Token, token_of}
use Rattle.lexer.specs.Spelling.{token, Spelling, signs, run_kind}
use Rattle.lexer.specs.Cutting.{Cutting, tokens, refused, with_token, match, Longest, AllAlphanumeric, AllBlank, Run, Cut, end, blank, run, long_name, sign, measured_sign, no_sign, foreign}
use Rattle.lexer.specs.Placement.{TokenIn, Placed}
use Rattle.lexer.specs.Arrays.{code_of}
use Rattle.lexer.specs.declared.Kind.{Kind}
use Rattle.lexer.specs.declared.LexError.{LexError}
use Rattle.lexer.proofs.Longest.{every_at}
use Rattle.lexer.proofs.Pieces.{NoName, Shape, signs_shape, starts_fits}

-- tokens that start with one have others after it
pub after_first : (t : Token) (r : Cutting) (ts : List Token) → with_token t r ≡ tokens ts → (us : List Token) × (r ≡ tokens us) × (ts ≡ t ∷ us)
after_first t (tokens us) ts e = (us, refl, cc)
after_first t (refused a) ts e = let z : ◌≡◌ {A = ℕ} 0 1 = cc in absurd (omega arith)

-- a refusal is no tokens
pub no_tokens : (a : LexError) (ts : List Token) → refused a ≡ tokens ts → ⊥
no_tokens a ts e = let z : ◌≡◌ {A = ℕ} 0 1 = cc in omega arith

lower : (text : List ℕ) (i j : ℕ) (ts : List Token) → i ≤ j → Placed text j ts → Placed text i ts
lower text i j [] h p = tt
lower text i j (t ∷ ts) h p = (
  record { after = omega (arith, p.0.after); some = p.0.some; short = p.0.short; inside = p.0.inside; name = p.0.name },
  p.1,
)

module _ (text : List ℕ) (i : ℕ) where
  run_in : (w s t : List ℕ) → Run w s t → length w ≤ 16 → t ≡ drop i text → TokenIn text i (token_of (run_kind w) i (length w))
  run_in w s t h l e =
      record {
        after = omega arith;
        some = h.some;
        short = l;
        inside = omega (arith, h.some, length-append w s, ap length (sym h.split ∙ e), length-drop i text);
        name = λ _. subst AllAlphanumeric (sym (ap (take (length w)) (sym e ∙ h.split) ∙ take-append_seam w s)) h.all;
      }

  sign_in : (b : ℕ) (s : List ℕ) (x : Spelling) (k : Kind) → Longest signs (b ∷ s) (match x) → x.means ≡ token k → b ∷ s ≡ drop i text → TokenIn text i (token_of k i (length x.bytes))
  sign_in b s x k h p e =
      let z = every_at h.0 Shape signs_shape in
      let no : code_of k < 18 = subst NoName p z.2 in
      record {
        after = omega arith;
        some = z.0;
        short = z.1;
        inside = omega (arith, z.0, starts_fits x.bytes (b ∷ s) h.1, ap length e, length-drop i text);
        name = λ f. absurd (omega (arith, no, ap code_of f));
      }

  -- a token before tokens that are placed
  joined : (t : Token) (r : Cutting) (ts : List Token) → TokenIn text i t → ((us : List Token) → r ≡ tokens us → Placed text (t.start + t.len) us) → with_token t r ≡ tokens ts → Placed text i ts
  joined t r ts h p e = let f = after_first t r ts e in subst (Placed text i) (sym f.2) (h, p f.0 f.1)

pub placed_from : {i : ℕ} {t : List ℕ} {r : Cutting} → Cut i t r → (text : List ℕ) → t ≡ drop i text → (ts : List Token) → r ≡ tokens ts → Placed text i ts
placed_from (end {i}) text e ts f = let g : [] ≡ ts = cc in subst (Placed text i) g tt
placed_from (blank {i} {b} {s} {r} h c) text e ts f =
    lower text i (i + 1) ts (omega arith) (placed_from c text (ap (drop 1) e ∙ drop-drop 1 i text) ts f)
placed_from (run {i} {w} {s} {t} {r} h l c) text e ts f =
    joined text i (token_of (run_kind w) i (length w)) r ts (run_in text i w s t h l e)
    (λ us g. placed_from c text (sym (drop-append_seam w s) ∙ ap (drop (length w)) (sym h.split ∙ e) ∙ drop-drop (length w) i text) us g) f
placed_from (long_name {i} h l) text e ts f = absurd (no_tokens _ ts f)
placed_from (sign {i} {b} {s} {x} {k} {r} g h p c) text e ts f =
    joined text i (token_of k i (length x.bytes)) r ts (sign_in text i b s x k h p e)
    (λ us q. placed_from c text (ap (drop (length x.bytes)) e ∙ drop-drop (length x.bytes) i text) us q) f
placed_from (measured_sign g h p) text e ts f = absurd (no_tokens _ ts f)
placed_from (no_sign g h) text e ts f = absurd (no_tokens _ ts f)
placed_from (foreign g) text e ts f = absurd (no_tokens _ ts f)

-- ---- a text with no token and no refusal is blank

pub blank_cut : (s : List ℕ) (i : ℕ) → AllBlank s → Cut i s (tokens [])
blank_cut [] i h = end
blank_cut (b ∷ s) i h = blank h.0 (blank_cut s (i + 1) h.1)

no_first : (t : Token) (r : Cutting) → with_token t r ≡ tokens [] → ⊥
no_first t r e = let f = after_first t r [] e in let g : [] ≡ t ∷ f.0 = f.2 in let z : ◌≡◌ {A = ℕ} 0 1 = cc in omega arith

pub cut_blank : {i : ℕ} {s : List ℕ} {r : Cutting} → Cut i s r → r ≡ tokens [] → AllBlank s
cut_blank end e = tt
cut_blank (blank h c) e = (h, cut_blank c e)
cut_blank (run {i} {w} {s} {t} {r} h l c) e = absurd (no_first (token_of (run_kind w) i (length w)) r e)
cut_blank (long_name h l) e = absurd (no_tokens _ [] e)
cut_blank (sign {i} {b} {s} {x} {k} {r} g h p c) e = absurd (no_first (token_of k i (length x.bytes)) r e)
cut_blank (measured_sign g h p) e = absurd (no_tokens _ [] e)
cut_blank (no_sign g h) e = absurd (no_tokens _ [] e)
cut_blank (foreign g) e = absurd (no_tokens _ [] e)

-- ---- what follows for each token

module _ (text : List ℕ) where
  pub placed_at : (j : ℕ) (ts : List Token) → Placed text j ts → (i : ℕ) (d : Token) → i < length ts → TokenIn text j (get_or ts i d)
  placed_at j [] p i d h = absurd (omega arith)
  placed_at j (t ∷ ts) p ℕ.zero d h = p.0
  placed_at j (t ∷ ts) p (suc i) d h =
      placed_at j ts (lower text j (t.start + t.len) ts (omega (arith, p.0.after)) p.1) i d (omega arith)

  pub rising_at : (j : ℕ) (ts : List Token) → Placed text j ts → (i k : ℕ) (d : Token) → i < k → k < length ts → (get_or ts i d).start + (get_or ts i d).len ≤ (get_or ts k d).start
  rising_at j [] p i k d l h = absurd (omega arith)
  rising_at j (t ∷ ts) p i ℕ.zero d l h = absurd (omega arith)
  rising_at j (t ∷ ts) p ℕ.zero (suc k) d l h = (placed_at (t.start + t.len) ts p.1 k d (omega arith)).after
  rising_at j (t ∷ ts) p (suc i) (suc k) d l h = rising_at (t.start + t.len) ts p.1 i k d (omega arith) (omega arith)

  -- each token has a byte of its own
  pub few : (j : ℕ) (ts : List Token) → Placed text j ts → j ≤ length text → j + length ts ≤ length text
  few j [] p h = omega arith
  few j (t ∷ ts) p h = omega (arith, p.0.after, p.0.some, few (t.start + t.len) ts p.1 p.0.inside)
