-- A list at the start of an array, which is taken from and put to at its end; and a text at the end of an array, which is put to at its
-- start. Assumes nothing.
use mathlib.Core.Path.{◌≡◌, sym, ap, ◌∙◌}
use mathlib.Core.List.{List, [], ◌∷◌, ◌++◌, append_assoc}
use Prim.Native.Nat.{ℕ, ◌+◌, ◌-◌, ◌≤◌, ◌<◌}
use native.Mathlib.Omega.{arith}
use lib.ListN.{length, take, drop, get_or, length-append, length-take, length-drop}
use lib.Seq.{sets, sets-eq, length-sets, length-take-le, take_at, drop_at, get_or_at, take-take, get_or-take}

-- the first n of 256 numbers are the list xs
pub record Held (array : List ℕ) (n : ℕ) (xs : List ℕ) : Type 0 where
  pub first : take n array ≡ xs
  pub count : n ≡ length xs
  pub room : length array ≡ 256

pub held_most : (array : List ℕ) (n : ℕ) (xs : List ℕ) → Held array n xs → n ≤ 256
held_most array n xs g = omega (arith, g.count, ap length g.first, length-take n array, g.room)

-- the last one
module _ (array : List ℕ) (n : ℕ) (xs : List ℕ) (x : ℕ) (g : Held array n (xs ++ x ∷ [])) where
  pub held_some : n ≡ length xs + 1
  held_some = omega (arith, g.count, length-append xs (x ∷ []))

  pub held_last : get_or array (n - 1) 0 ≡ x
  held_last =
      let m : length xs ≡ n - 1 = omega (arith, held_some) in
      let l : n - 1 < n = omega (arith, held_some) in
      sym (get_or-take n array (n - 1) 0 l) ∙ ap (λ (r : List ℕ). get_or r (n - 1) 0) g.first ∙ get_or_at xs x [] 0 (n - 1) m

  pub held_before : Held array (n - 1) xs
  held_before =
      let m : length xs ≡ n - 1 = omega (arith, held_some) in
      let l : n - 1 ≤ n = omega arith in
      record { first = sym (take-take (n - 1) n array l) ∙ ap (take (n - 1)) g.first ∙ take_at xs (x ∷ []) (n - 1) m; count = sym m; room = g.room }

-- some more
pub held_more : (array : List ℕ) (n : ℕ) (xs ws : List ℕ) → Held array n xs → n + length ws ≤ length array → Held (sets array n ws) (n + length ws) (xs ++ ws)
held_more array n xs ws g h =
    record {
      first =
          ap (take (n + length ws)) (sets-eq ws array n h)
          ∙ take_at (take n array ++ ws) (drop (n + length ws) array) (n + length ws) (length-append (take n array) ws ∙ ap (λ (m : ℕ). m + length ws) (length-take-le n array (omega arith)))
          ∙ ap (λ (l : List ℕ). l ++ ws) g.first;
      count = omega (arith, g.count, length-append xs ws);
      room = length-sets array n ws ∙ g.room;
    }

-- the text is ws and what stands from the place e on; it is no longer than the array
pub record Made (text made : List ℕ) (e : ℕ) (ws : List ℕ) : Type 0 where
  pub whole : ws ++ drop e made ≡ text
  pub fits : length text ≤ 256
  pub within : e ≤ 256
  pub room : length made ≡ 256

-- so there is room for ws
pub made_room : (text made : List ℕ) (e : ℕ) (ws : List ℕ) → Made text made e ws → length ws ≤ e
made_room text made e ws g = omega (arith, length-append ws (drop e made), length-drop e made, ap length g.whole, g.fits, g.within, g.room)

-- what stands last in ws is put
pub made_more : (text made : List ℕ) (e : ℕ) (ws vs : List ℕ) → Made text made e (ws ++ vs) → Made text (sets made (e - length vs) vs) (e - length vs) ws
made_more text made e ws vs g =
    let l : length vs ≤ e = omega (arith, made_room text made e (ws ++ vs) g, length-append ws vs) in
    let p : e - length vs + length vs ≡ e = omega arith in
    let q : e - length vs + length vs ≤ length made = omega (arith, g.within, g.room) in
    let d : drop (e - length vs) (sets made (e - length vs) vs) ≡ vs ++ drop e made =
    ap (drop (e - length vs)) (sets-eq vs made (e - length vs) q ∙ append_assoc (take (e - length vs) made) vs (drop (e - length vs + length vs) made))
    ∙ drop_at (take (e - length vs) made) (vs ++ drop (e - length vs + length vs) made) (e - length vs) (length-take-le (e - length vs) made (omega arith))
    ∙ ap (λ (i : ℕ). vs ++ drop i made) p in
    record {
      whole = ap (λ (r : List ℕ). ws ++ r) d ∙ sym (append_assoc ws vs (drop e made)) ∙ g.whole;
      fits = g.fits;
      within = omega (arith, g.within);
      room = length-sets made (e - length vs) vs ∙ g.room;
    }
