-- The atoms' values at the nodes of a block: those before the block's node are the same at each, and of the five after it the masks have them,
-- which a test of all 63 nodes shows. So a run of a rule's code gives the nodes where it is false. Assumes nothing.
use mathlib.Core.Bool.{Bool, true, false, not, ◌&&◌, beq, and-eq-true_iff}
use mathlib.Core.Path.{◌≡◌, refl, sym, ap, ap₂, ◌∙◌, subst}
use mathlib.Core.List.{List, [], ◌∷◌, ◌++◌, map, map-append}
use Prim.Native.Nat.{ℕ, zero, suc, ◌+◌, ◌-◌, ◌^◌, ◌≤◌, ◌<◌}
use native.Mathlib.Decide.{ℕ_discrete as dec_eq}
use native.Mathlib.Omega.{arith}
use mathlib.Core.Logic.{⊎_elim}
use lib.ListN.{length, get_or, set, replicate, length-set, length-map, length-replicate, get_or-append, get_or-eq_default}
use lib.Pow.{pow_mono}
use lib.Seq.{get_or-set_same, get_or-set_other, get_or-append-add}
use Rattle.formula.specs.Formula.{Form}
use Rattle.lists.proofs.Lists.{map_at}
use Rattle.lists.proofs.Truth.{beq_same, side}
use Rattle.evalset.specs.Bit.{bit}
use Rattle.evalset.proofs.Bits.{bit_none, bit_under}
use Rattle.contact.specs.Row.{Row, Three, is, unknown}
use Rattle.kleene.specs.Rails.{Duo, duo, yes_of, no_of, sure, duo_of, exec, word_rows, rails_at}
use Rattle.kleene.proofs.Claims.{rails_refuted}
use Rattle.search.specs.Rows.{row_bits, row_number}
use Rattle.search.proofs.Rows.{row_at, row_back}
use Rattle.solver.specs.Coded.{part}
use Rattle.prefixes.specs.Heap.{place_of}
use Rattle.prefixes.proofs.Filling.{place_is}
use Rattle.trees.specs.Closed.{value_in}
use Rattle.trees.specs.Checker.{false_there}
use Rattle.trees.specs.Branch.{start_of}
use Rattle.trees.proofs.Rules.{coded_at, coded_length}
use Rattle.explaining.specs.Nodes.{MaskSays, LeafSays, LeavesSay, FalseUnder, FalsesSay}

-- ---- places

pub place_one : (row : Row) → place_of row ≡ 2 ^ length row + row_number row
place_one row = place_is 1 row ∙ omega arith

-- a block goes down to five atoms more
short : (ext : Row) → place_of ext < word_rows → length ext ≤ 5
short ext l =
    ⊎_elim (λ h. absurd (omega (arith, place_one ext, pow_mono {i = 6} {j = length ext} h))) (λ h. h) (side 5 (length ext))

-- ---- masks

-- a test of all rows of at most d atoms
unfoldable pub all_under : ℕ → (Row → Bool) → Bool
all_under zero p = p []
all_under (suc d) p = p [] && (all_under d (λ r. p (true ∷ r)) && all_under d (λ r. p (false ∷ r)))

all_under_lem : (d : ℕ) (p : Row → Bool) (ext : Row) → length ext ≤ d → all_under d p ≡ true → p ext ≡ true
unfolding all_under
all_under_lem zero p [] l h = h
all_under_lem zero p (b ∷ ext) l h = absurd (omega arith)
all_under_lem (suc d) p [] l h = ((and-eq-true_iff (p []) _).0 h).0
all_under_lem (suc d) p (true ∷ ext) l h =
    all_under_lem d (λ r. p (true ∷ r)) ext (omega arith) ((and-eq-true_iff (all_under d (λ r. p (true ∷ r))) _).0 ((and-eq-true_iff (p []) _).0 h).1).0
all_under_lem (suc d) p (false ∷ ext) l h =
    all_under_lem d (λ r. p (false ∷ r)) ext (omega arith) ((and-eq-true_iff (all_under d (λ r. p (true ∷ r))) _).0 ((and-eq-true_iff (p []) _).0 h).1).1

-- the mask has the atom's rail at a node
unfoldable pub right : (Duo → Bool) → ℕ → ℕ → Row → Bool
right rail u w ext = beq (bit w (place_of ext)) (rail (duo_of (value_in (map is ext) u)))

pub mask_says : (rail : Duo → Bool) (u v w : ℕ) → u ≡ v → all_under 5 (right rail v w) ≡ true → MaskSays rail u w
unfolding MaskSays right
mask_says rail u v w e h ext l =
    beq_same (bit w (place_of ext)) (rail (duo_of (value_in (map is ext) v))) (all_under_lem 5 (right rail v w) ext (short ext l) h)
    ∙ ap (λ (x : ℕ). rail (duo_of (value_in (map is ext) x))) (sym e)

pub mask_none : (rail : Duo → Bool) (u : ℕ) → rail (duo false false) ≡ false → 5 ≤ u → MaskSays rail u 0
unfolding MaskSays
mask_none rail u z l ext m =
    bit_none (place_of ext) ∙ sym z
    ∙ ap (λ (t : Three). rail (duo_of t)) (sym (get_or-eq_default (map is ext) unknown {n = u} (omega (arith, short ext m, length-map ext is))))

-- ---- leaves

module _ (rail : Duo → Bool) (h k i r : ℕ) where
  -- an atom after the block's node
  pub leaf_after : k ≤ i → MaskSays rail (i - k) r → LeafSays rail h k i r
  unfolding MaskSays LeafSays
  leaf_after l says row ext long place m =
      let z : i ≡ length (map is row) + (i - k) = omega (arith, long, length-map row is) in
      says ext m
      ∙ ap (λ (t : Three). rail (duo_of t))
      (sym (ap₂ (λ (xs : List Three) (x : ℕ). get_or xs x unknown) (map-append is row ext) z ∙ get_or-append-add (map is row) (map is ext) (i - k) unknown))

  -- the row that is decided
  value_before : (row : Row) → length row ≡ k → place_of row ≡ h → i < k → get_or (row_bits k h) i false ≡ get_or row i false
  value_before row long place l =
      let z : h ≡ 2 ^ k + row_number row = sym place ∙ place_one row ∙ ap (λ (x : ℕ). 2 ^ x + row_number row) long in
      row_at k h i l
      ∙ ap (λ (x : ℕ). not (bit x (k - 1 - i))) z
      ∙ ap not (bit_under k (row_number row) (k - 1 - i) (omega arith))
      ∙ sym (row_at k (row_number row) i l)
      ∙ ap (λ (x : ℕ). get_or (row_bits x (row_number row)) i false) (sym long)
      ∙ ap (λ (rs : Row). get_or rs i false) (row_back row)

  -- one before it
  pub leaf_before : (v : Bool) → i < k → v ≡ get_or (row_bits k h) i false → ((e : ℕ) → e < word_rows → bit r e ≡ rail (sure v)) → LeafSays rail h k i r
  unfolding LeafSays
  leaf_before v l q f row ext long place m =
      f (place_of ext) m
      ∙ ap (λ (t : Three). rail (duo_of t))
      (ap is (q ∙ value_before row long place l)
      ∙ sym (ap (λ (xs : List Three). get_or xs i unknown) (map-append is row ext)
      ∙ get_or-append (map is row) (map is ext) unknown i (omega (arith, long, length-map row is))
      ∙ map_at is row i false unknown (omega (arith, long))))

pub leaves_none : (rail : Duo → Bool) (h k : ℕ) → LeavesSay rail h k 0 (replicate 16 0)
leaves_none rail h k = record { size = length-replicate {A = ℕ} 16 0; are = λ i l. absurd (omega arith) }

pub leaves_more : (rail : Duo → Bool) (h k i r : ℕ) (out : List ℕ) → i < 16 → LeavesSay rail h k i out → LeafSays rail h k i r
    → LeavesSay rail h k (i + 1) (set out i r)
leaves_more rail h k i r out l s f = record { size = length-set out i r ∙ s.size; are = λ m b. each m b (dec_eq m i) }
  where
    each : (m : ℕ) → m < i + 1 → Dec (m ≡ i) → LeafSays rail h k m (get_or (set out i r) m 0)
    each m b (yes e) =
        let z : get_or (set out i r) m 0 ≡ r = ap (λ (x : ℕ). get_or (set out i r) x 0) e ∙ get_or-set_same out i r 0 (omega (arith, s.size)) in
        subst (λ (x : ℕ). LeafSays rail h k m x) (sym z) (subst (λ (x : ℕ). LeafSays rail h k x r) (sym e) f)
    each m b (no e) = subst (LeafSays rail h k m) (sym (get_or-set_other out i m r 0 e)) (s.are m (omega (arith, e)))

-- ---- rules

whole : (d : Duo) → duo (yes_of d) (no_of d) ≡ d
whole (duo y n) = refl

module _ (code ends : List ℕ) (h k : ℕ) where
  pub falses_none : (words : List ℕ) → FalsesSay code ends h k 0 words
  unfolding FalsesSay
  falses_none words many rules few coded row long place = record { counted = omega arith; are = λ ext b i l. absurd (omega arith) }

  module _ (ts fs : List ℕ) (yes-are : LeavesSay yes_of h k 16 ts) (no-are : LeavesSay no_of h k 16 fs) where
    -- the values of the atoms at a node
    rails : (row ext : Row) → length row ≡ k → place_of row ≡ h → place_of ext < word_rows → (a : ℕ) → a < 16
        → rails_at ts fs (place_of ext) a ≡ duo_of (value_in (map is (row ++ ext)) a)
    unfolding LeafSays
    rails row ext long place b a l =
        ap₂ duo (yes-are.are a l row ext long place b) (no-are.are a l row ext long place b) ∙ whole (duo_of (value_in (map is (row ++ ext)) a))

    pub falses_more : (i from end y n : ℕ) (words : List ℕ) → i < length ends → length words ≡ 16 → length ends ≤ 16 → from ≡ start_of 0 ends i
        → end ≡ get_or ends i 0
        → ((e : ℕ) → e < word_rows → exec (rails_at ts fs e) (part code from end) [] ≡ duo (bit y e) (bit n e) ∷ [])
        → FalsesSay code ends h k i words → FalsesSay code ends h k (i + 1) (set words i n)
    unfolding FalsesSay
    falses_more i from end y n words l size few ef ee ran says many rules most coded row long place =
        record {
          counted = omega (arith, coded_length many code 0 ends rules coded);
          are = λ ext b m q. each ext b m q (dec_eq m i);
        }
      where
        old : FalseUnder words i 1 row rules
        old = says many rules most coded row long place

        each : (ext : Row) → place_of ext < word_rows → (m : ℕ) → m < i + 1 → Dec (m ≡ i)
            → bit (get_or (set words i n) m 0) (place_of ext) ≡ false_there rules (map is (row ++ ext)) (suc m)
        each ext b m q (yes e) =
            let at = coded_at many code 0 ends rules i coded l in
            let rule = get_or rules i Form.truth in
            ap (λ (x : ℕ). bit x (place_of ext)) (ap (λ (x : ℕ). get_or (set words i n) x 0) e ∙ get_or-set_same words i n 0 (omega (arith, size)))
            ∙ rails_refuted rule ts fs (place_of ext) y n (value_in (map is (row ++ ext)))
            (ap (λ (cs : List ℕ). exec (rails_at ts fs (place_of ext)) cs []) (sym (ap₂ (part code) ef ee ∙ at.is_code)) ∙ ran (place_of ext) b)
            (λ a j. rails row ext long place b a (omega (arith, at.atoms_below a j)))
            ∙ ap (λ (x : ℕ). false_there rules (map is (row ++ ext)) (suc x)) (sym e)
        each ext b m q (no e) =
            ap (λ (x : ℕ). bit x (place_of ext)) (get_or-set_other words i m n 0 e) ∙ old.are ext b m (omega (arith, e))
