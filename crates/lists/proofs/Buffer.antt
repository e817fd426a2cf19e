-- Words written one after the other over a buffer are their list written at once. Assumes nothing.
use mathlib.Core.Path.{◌≡◌, sym, ap, ap₂, ◌∙◌}
use mathlib.Core.List.{List, [], ◌∷◌, ◌++◌, append_assoc}
use Prim.Native.Nat.{ℕ, suc, ◌+◌, ◌≤◌, ◌<◌}
use native.Mathlib.Omega.{arith}
use native.Mathlib.Nat.{add-zero}
use lib.ListN.{length, take, drop, set, get_or, length-append, take-append-drop, length-drop}
use lib.Seq.{drop-cons, set_at, take_at, drop-drop, drop-append-add, length-take-le}
use Rattle.lists.specs.Buffer.{over}
use Rattle.lists.specs.Putting.{written}

pub written_none : (at : ℕ) (buf : List ℕ) → buf ≡ written at [] buf
unfolding written
written_none at buf = sym (ap (λ (x : ℕ). take at buf ++ drop x buf) (add-zero at) ∙ take-append-drop at buf)

head_length : (at : ℕ) (ws buf : List ℕ) → at ≤ length buf → length (take at buf ++ ws) ≡ at + length ws
head_length at ws buf h = length-append (take at buf) ws ∙ ap (λ (x : ℕ). x + length ws) (length-take-le at buf h)

pub written_length : (at : ℕ) (ws buf : List ℕ) → at + length ws ≤ length buf → length (written at ws buf) ≡ length buf
unfolding written
written_length at ws buf h =
    length-append (take at buf) (ws ++ drop (at + length ws) buf)
    ∙ ap (λ (x : ℕ). x + length (ws ++ drop (at + length ws) buf)) (length-take-le at buf (omega arith))
    ∙ omega (arith, length-append ws (drop (at + length ws) buf), length-drop (at + length ws) buf)

-- one word more
pub written_set : (at : ℕ) (ws buf : List ℕ) (w : ℕ) → at + length ws < length buf
    → set (written at ws buf) (at + length ws) w ≡ written at (ws ++ (w ∷ [])) buf
unfolding written
written_set at ws buf w h =
    let rest = drop (suc (at + length ws)) buf in
    let size : suc (at + length ws) ≡ at + length (ws ++ (w ∷ [])) = omega (arith, length-append ws (w ∷ [])) in
    ap (λ (l : List ℕ). set (take at buf ++ (ws ++ l)) (at + length ws) w) (drop-cons buf (at + length ws) 0 h)
    ∙ ap (λ (l : List ℕ). set l (at + length ws) w) (sym (append_assoc (take at buf) ws (get_or buf (at + length ws) 0 ∷ rest)))
    ∙ set_at (take at buf ++ ws) (get_or buf (at + length ws) 0) rest w (at + length ws) (head_length at ws buf (omega arith))
    ∙ append_assoc (take at buf) ws (w ∷ rest)
    ∙ ap (λ (l : List ℕ). take at buf ++ l) (sym (append_assoc ws (w ∷ []) rest))
    ∙ ap (λ (x : ℕ). take at buf ++ (ws ++ (w ∷ []) ++ drop x buf)) size

-- words after words
pub written_more : (at : ℕ) (ws vs buf : List ℕ) → at + length ws ≤ length buf
    → written (at + length ws) vs (written at ws buf) ≡ written at (ws ++ vs) buf
unfolding written
written_more at ws vs buf h =
    let n = at + length ws in
    let front = take at buf ++ ws in
    let size : length front ≡ n = head_length at ws buf (omega arith) in
    let total : n + length vs ≡ at + length (ws ++ vs) = omega (arith, length-append ws vs) in
    ap (λ (l : List ℕ). take n l ++ (vs ++ drop (n + length vs) l)) (sym (append_assoc (take at buf) ws (drop n buf)))
    ∙ ap₂ (λ (a b : List ℕ). a ++ (vs ++ b)) (take_at front (drop n buf) n size)
    (ap (λ (x : ℕ). drop (x + length vs) (front ++ drop n buf)) (sym size) ∙ drop-append-add front (drop n buf) (length vs)
    ∙ drop-drop (length vs) n buf)
    ∙ append_assoc (take at buf) ws (vs ++ drop (n + length vs) buf)
    ∙ ap (λ (l : List ℕ). take at buf ++ l) (sym (append_assoc ws vs (drop (n + length vs) buf)))
    ∙ ap (λ (x : ℕ). take at buf ++ (ws ++ vs ++ drop x buf)) total

pub written_over : (ws buf : List ℕ) → written 0 ws buf ≡ over ws buf
unfolding written over
written_over ws buf = go (length ws) buf
  where
    go : (n : ℕ) (buf : List ℕ) → take 0 buf ++ (ws ++ drop (0 + n) buf) ≡ ws ++ drop n buf
    go n [] = let e : 0 + n ≡ n = omega arith in ap (λ (x : ℕ). ws ++ drop x []) e
    go n (b ∷ bs) = let e : 0 + n ≡ n = omega arith in ap (λ (x : ℕ). ws ++ drop x (b ∷ bs)) e
