-- The arrays filled token by token are those of the list of tokens, and there are never more than 256. Assumes nothing.
use Rattle.std.specs.Prelude.{Err}
use mathlib.Core.Path.{◌≡◌, refl, sym, ap, ◌∙◌}
use mathlib.Core.List.{List, [], ◌∷◌, ◌++◌, map, map-append, append_assoc, append-nil}
use Prim.Native.Nat.{ℕ, ◌+◌, ◌≤◌, ◌<◌}
use native.Mathlib.Omega.{arith}
use lib.ListN.{length, set, get_or, length-append, length-map}
use lib.Dec.{eqb-suc-zero}
use borrow.Author.Tests.{lt-ltb, le-ltb}
use Rattle.lists.specs.Padded.{pad}
use Rattle.lexer.specs.Token.{Token}
use Rattle.lexer.specs.Cutting.{Cutting, tokens, refused}
use Rattle.lexer.specs.Cutter.{cutting}
use Rattle.lexer.specs.Arrays.{code_of, tokens_of, answer_of, lexed_of, lexed}
use Rattle.lexer.specs.Steps.{push, fill, finish, resume}
use Rattle.lexer.specs.declared.Tokens.{Tokens}
use Rattle.lexer.specs.declared.LexError.{LexError}
use Rattle.lists.proofs.Lists.{map_at}
use Rattle.lists.proofs.Padded.{pad_set, pad_at}
use Rattle.lexer.proofs.Sound.{sound}
use Rattle.lexer.proofs.Placement.{placed_from, few}

-- one array of a field of the tokens
field_set : (f : Token → ℕ) (xs : List Token) (x : Token) → length xs < 256 → set (pad 256 (map f xs)) (length xs) (f x) ≡ pad 256 (map f (xs ++ x ∷ []))
field_set f xs x h = pad_set 256 (map f xs) (length xs) (f x) (length-map xs f) h ∙ ap (pad 256) (sym (map-append f xs (x ∷ [])))

push_next : (xs : List Token) (x : Token) → length xs < 256 → push (tokens_of xs) x.kind x.start x.len ≡ tokens_of (xs ++ x ∷ [])
unfolding push tokens_of
push_next xs x h =
    cc (field_set (λ (t : Token). code_of t.kind) xs x h, field_set (λ (t : Token). t.start) xs x h, field_set (λ (t : Token). t.len) xs x h, length-append xs (x ∷ []))

fill_from : (ys xs : List Token) → length xs + length ys ≤ 256 → fill (tokens_of xs) ys ≡ tokens_of (xs ++ ys)
unfolding fill
fill_from [] xs h = ap tokens_of (sym (append-nil xs))
fill_from (y ∷ ys) xs h =
    ap (λ (t : Tokens). fill t ys) (push_next xs y (omega arith))
    ∙ fill_from ys (xs ++ y ∷ []) (omega (arith, length-append xs (y ∷ [])))
    ∙ ap tokens_of (append_assoc xs (y ∷ []) ys)

-- ---- the answer

finish_is : (ts : List Token) → finish (tokens_of ts) ≡ answer_of ts
unfolding finish tokens_of
finish_is [] = refl
finish_is (t ∷ ts) = simp (eqb-suc-zero)

resume_is : (r : Cutting) → ((ts : List Token) → r ≡ tokens ts → length ts ≤ 256) → resume (tokens_of []) r ≡ lexed_of r
unfolding resume
resume_is (tokens ts) h = let l = h ts refl in ap finish (fill_from ts [] (omega arith)) ∙ finish_is ts
resume_is (refused a) h = refl

pub lexed_long : (s : List ℕ) → 256 < length s → lexed s ≡ Err LexError.TooLong
unfolding lexed
lexed_long s h = simp (lt-ltb 256 (length s) h)

pub lexed_short : (s : List ℕ) → length s ≤ 256 → lexed s ≡ lexed_of (cutting s)
unfolding lexed
lexed_short s h = simp (le-ltb 256 (length s) h)

pub not_too_long : (s : List ℕ) → length s ≤ 256 → resume (tokens_of []) (cutting s) ≡ lexed s
not_too_long s h =
    resume_is (cutting s) (λ ts e. omega (arith, few s 0 ts (placed_from (sound s) s refl ts e) (omega arith)))
    ∙ sym (lexed_short s h)

-- ---- the arrays read back

pub field_at : (f : Token → ℕ) (ts : List Token) (i : ℕ) (d : Token) → i < length ts → get_or (pad 256 (map f ts)) i 0 ≡ f (get_or ts i d)
field_at f ts i d h = pad_at 256 (map f ts) i (omega (arith, length-map ts f)) ∙ map_at f ts i d 0 h
