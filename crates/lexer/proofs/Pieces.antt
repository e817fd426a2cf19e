-- What stands first in a text is decided by the class of its first byte; and a token has at least one byte and lies in the text, since
-- the text starts with its sign, or with its run. Assumes nothing.
use mathlib.Core.Path.{◌≡◌, refl, sym, ap, subst, ◌∙◌}
use mathlib.Core.Bool.{Bool, true, false, ◌&&◌, cond}
use mathlib.Core.List.{List, [], ◌∷◌}
use Prim.Native.Nat.{ℕ, suc, ◌+◌, ◌≤◌, ◌<◌}
use native.Mathlib.Omega.{arith}
use borrow.Author.Rules.{rules}
use lib.Dec.{eqb, ltb}
use lib.ListN.{length, take, drop, get_or, length-drop}
use lib.Seq.{get_or-drop}
use Rattle.lexer.specs.Class.{class_of}
use Rattle.lexer.specs.Spelling.{Meaning, token, measured, Spelling, signs, starts, run_kind}
use Rattle.lexer.specs.Cutting.{Match, nothing, match, Every, Longest}
use Rattle.lexer.specs.Cutter.{meaning_piece, match_piece, longest, sign_piece, run_length, run_piece, by_class, piece_of}
use Rattle.lexer.specs.Arrays.{code_of}
use Rattle.lexer.specs.Steps.{sign_of}
use Rattle.lexer.specs.declared.Class.{Class}
use Rattle.lexer.specs.declared.Kind.{Kind}
use Rattle.lexer.specs.declared.Piece.{Piece}
use Rattle.lexer.proofs.Longest.{longest_is, every_at}
use Rattle.lists.proofs.Lists.{rest}
use Rattle.lexer.proofs.Runs.{run_fits}
use Rattle.lexer.proofs.Signs.{sign_right}

pub class_decides : (b : ℕ) (s : List ℕ) (c : Class) → class_of b ≡ c → piece_of (b ∷ s) ≡ by_class c (b ∷ s)
unfolding piece_of
class_decides b s c e = ap (λ (d : Class). by_class d (b ∷ s)) e

-- the same at a place of a text
pub piece_here : (s : List ℕ) (i : ℕ) → i < length s → piece_of (drop i s) ≡ by_class (class_of (get_or s i 0)) (drop i s)
piece_here s i h = rw (rest s i 0 h) (class_decides (get_or s i 0) (drop (i + 1) s) (class_of (get_or s i 0)) refl)

pub sign_here : (s : List ℕ) (i : ℕ) → i < length s → sign_of (get_or s i 0) (get_or s (i + 1) 0) (get_or s (i + 2) 0) ≡ sign_piece (drop i s)
sign_here s i h =
    ap (λ (x : ℕ). sign_of (get_or s i 0) x (get_or s (i + 2) 0)) (sym (get_or-drop (i + 1) s 0 0 ∙ ap (λ (m : ℕ). get_or s m 0) (omega arith)))
    ∙ ap (λ (x : ℕ). sign_of (get_or s i 0) (get_or (drop (i + 1) s) 0 0) x) (sym (get_or-drop (i + 1) s 1 0 ∙ ap (λ (m : ℕ). get_or s m 0) (omega arith)))
    ∙ sign_right (get_or s i 0) (drop (i + 1) s) ∙ ap sign_piece (sym (rest s i 0 h))

-- ---- the signs

abbrev pub NoName : Meaning → Type 0
NoName (token k) = code_of k < 18
NoName measured = Unit {0}

-- every sign has 1 to 16 bytes and is no name
abbrev pub Shape : Spelling → Type 0
Shape x = (1 ≤ length x.bytes) × (length x.bytes ≤ 16) × NoName x.means

pub signs_shape : Every Shape signs
unfolding signs
signs_shape = search rules

pub starts_fits : (w s : List ℕ) → starts w s ≡ true → length w ≤ length s
unfolding starts
starts_fits [] s h = omega arith
starts_fits (x ∷ w) [] h = let z : ◌≡◌ {A = ℕ} 0 1 = cc in absurd (omega arith)
starts_fits (x ∷ w) (b ∷ s) h = go (eqb b x) (starts_fits w s) h
  where
    go : (t : Bool) → (starts w s ≡ true → length w ≤ length s) → (t && starts w s) ≡ true → suc (length w) ≤ suc (length s)
    go true r h = omega (arith, r h)
    go false r h = let z : ◌≡◌ {A = ℕ} 0 1 = cc in absurd (omega arith)

-- ---- a token of n bytes, out of m that there are
abbrev pub Sized : Piece → ℕ → Type 0
Sized Piece.Blank m = Unit {0}
Sized (Piece.Token k n) m = (1 ≤ n) × (n ≤ m)
Sized Piece.Foreign m = Unit {0}
Sized Piece.LongName m = Unit {0}
Sized Piece.Measured m = Unit {0}

meaning_sized : (a : Meaning) (n m : ℕ) → 1 ≤ n → n ≤ m → Sized (meaning_piece a n) m
meaning_sized (token k) n m l h = (l, h)
meaning_sized measured n m l h = tt

match_sized : (s : List ℕ) (m : Match) → Longest signs s m → Sized (match_piece m) (length s)
match_sized s nothing h = tt
match_sized s (match x) h = meaning_sized x.means (length x.bytes) (length s) (every_at h.0 Shape signs_shape).0 (starts_fits x.bytes s h.1)

sign_sized : (s : List ℕ) → Sized (sign_piece s) (length s)
unfolding sign_piece
sign_sized s = match_sized s (longest signs s) (longest_is s signs)

run_sized : (b : ℕ) (s : List ℕ) → class_of b ≡ Class.Alphanumeric → Sized (run_piece (b ∷ s)) (length (b ∷ s))
unfolding run_piece run_length
run_sized b s e = go (run_length (b ∷ s)) (rw e (omega arith)) (run_fits (b ∷ s))
  where
    go : (n : ℕ) → 1 ≤ n → n ≤ length (b ∷ s) → Sized (cond (ltb 16 n) Piece.LongName (Piece.Token (run_kind (take n (b ∷ s))) n)) (length (b ∷ s))
    go n l h = at (ltb 16 n)
      where
        at : (t : Bool) → Sized (cond t Piece.LongName (Piece.Token (run_kind (take n (b ∷ s))) n)) (length (b ∷ s))
        at true = tt
        at false = (l, h)

pub sized : (b : ℕ) (s : List ℕ) → Sized (piece_of (b ∷ s)) (length (b ∷ s))
unfolding piece_of
sized b s = go (class_of b) refl
  where
    go : (k : Class) → class_of b ≡ k → Sized (by_class k (b ∷ s)) (length (b ∷ s))
    go Class.Blank e = tt
    go Class.Alphanumeric e = run_sized b s e
    go Class.Sign e = sign_sized (b ∷ s)
    go Class.Foreign e = tt

pub token_sized : (s : List ℕ) (i : ℕ) → i < length s → (k : Kind) (n : ℕ) → piece_of (drop i s) ≡ Piece.Token k n → (1 ≤ n) × (i + n ≤ length s)
token_sized s i h k n e =
    let d = rest s i 0 h in
    let z = subst (λ (p : Piece). Sized p (length (get_or s i 0 ∷ drop (i + 1) s))) (sym (ap piece_of d) ∙ e) (sized (get_or s i 0) (drop (i + 1) s)) in
    (z.0, omega (arith, z.1, length-drop (i + 1) s))
