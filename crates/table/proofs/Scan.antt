-- One turn of each scan over a slice: a list from a place on is its element there and the rest. Assumes nothing.
use Prim.Native.Nat.{ℕ, suc, ◌+◌, ◌-◌, ◌≤◌, ◌<◌}
use mathlib.Core.Path.{◌≡◌, refl, sym, ap, ◌∙◌, fun_ext}
use mathlib.Core.List.{List, [], ◌∷◌, ◌++◌, append_assoc, append-nil}
use mathlib.Core.Bool.{Bool, true, false, cond}
use native.Mathlib.Omega.{arith}
use lib.ListN.{length, take, drop, get_or, drop_of_length-le, length-drop}
use lib.Seq.{get_or-drop, take-suc}
use lib.Dec.{eqb}
use borrow.Author.Tests.{eq-eqb, ne_eqb, le-leb, lt-leb}
use Rattle.lists.specs.Search.{all}
use Rattle.lists.proofs.Lists.{rest}
use Rattle.lexer.specs.Class.{is_blank}
use Rattle.lexer.proofs.Blanks.{blank_by}
use Rattle.table.specs.Sheet.{Text, blank_class, blank_byte, blank_line, lines_of, on_first}
use Rattle.table.specs.Calls.{lines_from}

-- a line is blank if each byte is: blank bytes are those of the class
pub blank_line_lem : (s : Text) → all is_blank s ≡ blank_line s
unfolding blank_line blank_byte
blank_line_lem s = ap (λ (p : ℕ → Bool). all p s) (fun_ext (blank_by blank_class refl refl refl refl))

-- the lines of a rest, with p in front of the first
abbrev pub on_head : Text → List Text → List Text
on_head p [] = p ∷ []
on_head p (l ∷ ls) = (p ++ l) ∷ ls

pub head_none : (s : Text) → on_head [] (lines_of s) ≡ lines_of s
unfolding lines_of on_first
head_none [] = refl
head_none (b ∷ s) = go (eqb b 10) (lines_of s)
  where
    go : (t : Bool) (ls : List Text) → on_head [] (cond t ([] ∷ ls) (on_first b ls)) ≡ cond t ([] ∷ ls) (on_first b ls)
    go true ls = refl
    go false [] = refl
    go false (l ∷ ls) = refl

head_more : (p : Text) (b : ℕ) (ls : List Text) → on_head p (on_first b ls) ≡ on_head (p ++ b ∷ []) ls
unfolding on_first
head_more p b [] = refl
head_more p b (l ∷ ls) = rw append_assoc

module _ (f : Text) (at i : ℕ) (low : at ≤ i) where
  part_more : i < length f → take (i - at) (drop at f) ++ get_or f i 0 ∷ [] ≡ take (i + 1 - at) (drop at f)
  part_more h =
      let e : i + 1 - at ≡ suc (i - at) = omega arith in
      let k : at + (i - at) ≡ i = omega arith in
      let g : i - at < length (drop at f) = simp length-drop (omega arith) in
      sym (ap (λ (n : ℕ). take n (drop at f)) e ∙ take-suc (drop at f) (i - at) 0 g ∙ ap (λ (b : ℕ). take (i - at) (drop at f) ++ b ∷ []) (get_or-drop at f (i - at) 0 ∙ ap (λ (n : ℕ). get_or f n 0) k))

  pub lines_next : i < length f → (get_or f i 0 ≡ 10 → ⊥)
      → on_head (take (i - at) (drop at f)) (lines_of (drop i f)) ≡ on_head (take (i + 1 - at) (drop at f)) (lines_of (drop (i + 1) f))
  unfolding lines_of
  lines_next h n =
      rw (rest f i 0 h, ne_eqb (get_or f i 0) 10 n)
      (head_more (take (i - at) (drop at f)) (get_or f i 0) (lines_of (drop (i + 1) f))
      ∙ ap (λ (p : Text). on_head p (lines_of (drop (i + 1) f))) (part_more h))

  pub lines_cut : i < length f → get_or f i 0 ≡ 10
      → on_head (take (i - at) (drop at f)) (lines_of (drop i f)) ≡ take (i - at) (drop at f) ∷ lines_from f (i + 1)
  unfolding lines_of lines_from
  lines_cut h e =
      let k : i + 1 ≤ length f = omega arith in
      rw (rest f i 0 h, eq-eqb (get_or f i 0) 10 e, le-leb (i + 1) (length f) k, append-nil)

  pub lines_last : i ≡ length f → on_head (take (i - at) (drop at f)) (lines_of (drop i f)) ≡ take (i - at) (drop at f) ∷ lines_from f (i + 1)
  unfolding lines_of lines_from
  lines_last e =
      let k : length f < i + 1 = omega arith in
      let m : length f ≤ i = omega arith in
      rw (drop_of_length-le f m, lt-leb (i + 1) (length f) k, append-nil)
