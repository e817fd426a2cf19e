-- Words of contacts and of points, written one after the other over a buffer. Assumes nothing.
use mathlib.Core.Path.{◌≡◌, refl, sym, ap, ap₂, ◌∙◌, subst}
use mathlib.Core.List.{List, [], ◌∷◌, ◌++◌, map, map-append}
use Prim.Native.Nat.{ℕ, ◌+◌, ◌≤◌, ◌<◌}
use native.Mathlib.Omega.{arith}
use native.Mathlib.Nat.{add-zero}
use lib.ListN.{length, take, set, get_or, length-append, length-map}
use lib.Seq.{length-take-le}
use Rattle.lists.specs.Putting.{written}
use Rattle.lists.proofs.Lists.{take_next}
use Rattle.lists.proofs.Buffer.{written_none, written_length, written_set, written_more}
use Rattle.plan.specs.Words.{contact_word, point_word}
use Rattle.plan.specs.Private.{Wrote}

-- ---- words of contacts, one piece after another
pub wrote_none : (at : ℕ) (buf : List ℕ) → Wrote at [] buf buf at
wrote_none at buf = record { place = sym (add-zero at); words = written_none at buf }

wrote_more : (at : ℕ) (ks js buf mid exit : List ℕ) (end last : ℕ) → at + length ks ≤ length buf
    → Wrote at ks buf mid end → Wrote end js mid exit last → Wrote at (ks ++ js) buf exit last
wrote_more at ks js buf mid exit end last h a b =
    let size : length (map contact_word ks) ≡ length ks = length-map ks contact_word in
    record {
      place = omega (arith, a.place, b.place, length-append ks js);
      words = b.words
          ∙ ap₂ (λ (x : ℕ) (l : List ℕ). written x (map contact_word js) l) (a.place ∙ ap (λ (x : ℕ). at + x) (sym size)) a.words
          ∙ written_more at (map contact_word ks) (map contact_word js) buf (omega (arith, size))
          ∙ ap (λ (l : List ℕ). written at l buf) (sym (map-append contact_word ks js));
    }

pub wrote_next : (at : ℕ) (ks js ls buf mid : List ℕ) (end : ℕ) → ks ++ js ≡ ls → at + length ks ≤ length buf
    → Wrote at ks buf mid end
    → (exit : List ℕ) (last : ℕ) → Wrote end js mid exit last → Wrote at ls buf exit last
wrote_next at ks js ls buf mid end e h a exit last b =
    subst (λ (l : List ℕ). Wrote at l buf exit last) e (wrote_more at ks js buf mid exit end last h a b)

pub wrote_length : (at : ℕ) (ks buf exit : List ℕ) (end : ℕ) → at + length ks ≤ length buf → Wrote at ks buf exit end
    → length exit ≡ length buf
wrote_length at ks buf exit end h a =
    ap length a.words ∙ written_length at (map contact_word ks) buf (omega (arith, length-map ks contact_word))

pub wrote_one : (at k : ℕ) (buf : List ℕ) → at < length buf → Wrote at (k ∷ []) buf (set buf at (contact_word k)) (at + 1)
wrote_one at k buf h = record {
  place = refl;
  words = ap₂ (λ (l : List ℕ) (x : ℕ). set l x (contact_word k)) (written_none at buf) (sym (add-zero at))
      ∙ written_set at [] buf (contact_word k) (omega arith);
}

-- ---- the points
-- one point's word more
pub points_more : (pts buf : List ℕ) (i : ℕ) → i < length pts → 1 + i < length buf
    → set (written 1 (map point_word (take i pts)) buf) (1 + i) (point_word (get_or pts i 0)) ≡ written 1
    (map point_word (take (i + 1) pts)) buf
points_more pts buf i h k =
    let w = point_word (get_or pts i 0) in
    let ws = map point_word (take i pts) in
    let size : length ws ≡ i = length-map (take i pts) point_word ∙ length-take-le i pts (omega arith) in
    ap (λ (x : ℕ). set (written 1 ws buf) (1 + x) w) (sym size)
    ∙ written_set 1 ws buf w (omega (arith, size))
    ∙ ap (λ (l : List ℕ). written 1 l buf)
    (sym (map-append point_word (take i pts) (get_or pts i 0 ∷ []))
    ∙ ap (map point_word) (sym (take_next pts i 0 h)))
