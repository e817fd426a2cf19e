-- One turn of each scan over the arrays: the lists are taken apart at the place that is looked at, and the rest is scanned on.
-- Assumes nothing.
use mathlib.Core.Path.{◌≡◌, sym, ap, ◌∙◌}
use mathlib.Core.Bool.{Bool, true, false, ◌&&◌, cond}
use mathlib.Core.List.{List, [], ◌∷◌}
use Prim.Native.Nat.{ℕ, suc, ◌+◌, ◌≤◌, ◌<◌}
use native.Mathlib.Omega.{arith}
use native.Mathlib.Numerals.{add-one}
use lib.ListN.{length, take, drop, get_or, drop_of_length-le, length-take}
use lib.Seq.{slice-cons}
use borrow.Author.Tests.{eq-eqb, ne_eqb, lt-ltb, le-ltb}
use Rattle.lists.proofs.Lists.{rest}
use Rattle.formula.specs.Formula.{Name}
use Rattle.contact.specs.Numbering.{same_name}
use Rattle.names.specs.declared.KeptName.{KeptName}
use Rattle.names.specs.declared.Names.{Names}
use Rattle.names.specs.Gather.{kept_name}
use Rattle.names.specs.Steps.{same_kept, place_in, push, with_kept}

-- ---- same

module _ (k : KeptName) (w : Name) where
  pub lengths_differ : (k.len ≡ length w → ⊥) → false ≡ same_kept k w
  unfolding same_kept
  lengths_differ n = sym (ap (λ (t : Bool). t && same_name (take (length w) k.bytes) w) (ne_eqb k.len (length w) n))

  pub lengths_agree : k.len ≡ length w → same_name (take (length w) k.bytes) w ≡ same_kept k w
  unfolding same_kept
  lengths_agree e = sym (ap (λ (t : Bool). t && same_name (take (length w) k.bytes) w) (eq-eqb k.len (length w) e))

-- the bytes from i on
module _ (bytes w : List ℕ) (i : ℕ) (full : length bytes ≡ 16) (short : length w ≤ 16) where
  abbrev pub same_from : Bool
  same_from = same_name (drop i (take (length w) bytes)) (drop i w)

  kept_rest : i < length w → drop i (take (length w) bytes) ≡ get_or bytes i 0 ∷ drop (i + 1) (take (length w) bytes)
  kept_rest h = rw (add-one, slice-cons i (length w) bytes 0 h (omega arith))

  pub byte_same : i < length w → get_or bytes i 0 ≡ get_or w i 0 → same_from ≡ same_name (drop (i + 1) (take (length w) bytes)) (drop (i + 1) w)
  byte_same h e = rw (kept_rest h, rest w i 0 h, eq-eqb (get_or bytes i 0) (get_or w i 0) e)

  pub byte_differs : i < length w → (get_or bytes i 0 ≡ get_or w i 0 → ⊥) → same_from ≡ false
  byte_differs h e = rw (kept_rest h, rest w i 0 h, ne_eqb (get_or bytes i 0) (get_or w i 0) e)

  pub bytes_end : length w ≤ i → same_from ≡ true
  bytes_end h =
      let l : length (take (length w) bytes) ≤ i = omega (arith, length-take (length w) bytes) in
      rw (drop_of_length-le (take (length w) bytes) l, drop_of_length-le w h)

-- ---- number_of

-- what is read past the end of a list of names
abbrev pub empty : KeptName
empty = record { bytes = []; len = 0 }

module _ (w : Name) (list : List KeptName) (count i : ℕ) (fits : count ≤ length list) where
  -- the name's place among the first `count`, searched from j on
  abbrev place_from : ℕ → ℕ
  place_from j = j + place_in w (drop j (take count list))

  pub number_here : i < count → same_kept (get_or list i empty) w ≡ true → place_from i ≡ i
  unfolding place_in
  number_here h e =
      let z : place_in w (drop i (take count list)) ≡ 0 = rw (slice-cons i count list empty h fits, e) in
      omega arith

  pub number_next : i < count → same_kept (get_or list i empty) w ≡ false → place_from i ≡ place_from (i + 1)
  unfolding place_in
  number_next h e =
      let z : place_in w (drop i (take count list)) ≡ suc (place_in w (drop (i + 1) (take count list))) = rw (add-one, slice-cons i count list empty h fits, e) in
      omega arith

  pub number_end : count ≤ i → place_from i ≡ i
  unfolding place_in
  number_end h =
      let past : length (take count list) ≤ i = omega (arith, length-take count list) in
      let z : place_in w (drop i (take count list)) ≡ 0 = rw (drop_of_length-le (take count list) past) in
      omega arith

-- ---- with_name

module _ (ns : Names) (w : Name) (n : ℕ) where
  pub name_there : n < ns.count → ns ≡ with_kept ns w n
  unfolding with_kept
  name_there h = sym (ap (λ (t : Bool). cond t ns (push ns (kept_name w))) (lt-ltb n ns.count h))

  pub name_new : ns.count ≤ n → (k : KeptName) → k ≡ kept_name w → push ns k ≡ with_kept ns w n
  unfolding with_kept
  name_new h k e = ap (push ns) e ∙ sym (ap (λ (t : Bool). cond t ns (push ns (kept_name w))) (le-ltb n ns.count h))
