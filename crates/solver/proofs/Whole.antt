-- Where every atom is decided a rule is refuted where it is false. So the rows in which every rule is true are those that no rule
-- refutes: part by part, as for two rails, each part's word cutting those that are left. Assumes nothing.
use mathlib.Core.Bool.{Bool, false, not, ◌||◌, not-not}
use mathlib.Core.Logic.{⊎_elim}
use mathlib.Core.Path.{◌≡◌, sym, ap, ◌∙◌, subst}
use mathlib.Core.List.{List, [], ◌∷◌}
use Prim.Native.Nat.{ℕ, ◌+◌, ◌-◌, ◌^◌, ◌≤◌, ◌<◌}
use native.Mathlib.Decide.{ℕ_discrete as dec_eq}
use native.Mathlib.Omega.{arith}
use lib.Bits.{bit_and}
use lib.ListN.{length, get_or, set}
use lib.Seq.{get_or-set_same, get_or-set_other}
use borrow.Author.Tests.{lt-ltb}
use Rattle.lists.proofs.Truth.{side, morgan}
use Rattle.evalset.specs.Bit.{word_levels, bit}
use Rattle.formula.specs.Formula.{Form}
use Rattle.evalset.proofs.Bits.{bit_and_lem, bit_none, bit_ones}
use Rattle.contact.specs.Row.{is, unknown, PartialRow}
use Rattle.kleene.specs.Rails.{sure, exec, word_rows, whole_at}
use Rattle.kleene.proofs.Claims.{whole_refuted}
use Rattle.search.specs.Rows.{row_bits}
use Rattle.solver.specs.Coded.{part, PartIs, Coded, Decided, TrueSays}
use Rattle.solver.specs.Tree.{extended, RowLeaves, WordLeaves, WholeSays}
use Rattle.solver.proofs.Codes.{Joined, RefutedIn, joined_now, joined_all}
use Rattle.solver.proofs.Blocks.{value_first, value_second, in_word, RowsAre}

-- what is known of row e of a word
abbrev pub Known : ℕ → List ℕ → ℕ → PartialRow → Type 0
Known many leaves e row = (e < word_rows) × Decided many leaves e row

-- the rows that are not in the word
abbrev pub outside : ℕ → ℕ → Bool
outside w e = not (bit w e)

-- ---- the leaves

-- one entry more of an array is as it should be
pub set_next : (P : ℕ → ℕ → Type 0) (low i w : ℕ) (out : List ℕ) → i < length out → ((j : ℕ) → low ≤ j → j < i → P j (get_or out j 0)) → P i w
    → (j : ℕ) → low ≤ j → j < i + 1 → P j (get_or (set out i w) j 0)
set_next P low i w out l h p j a b = go (dec_eq j i)
  where
    go : Dec (j ≡ i) → P j (get_or (set out i w) j 0)
    go (yes q) =
        subst (λ (m : ℕ). P m (get_or (set out i w) m 0)) (sym q) (subst (P i) (sym (get_or-set_same out i w 0 l)) p)
    go (no q) = subst (P j) (sym (get_or-set_other out i j w 0 q)) (h j a (omega (arith, q)))

-- an entry is the row's, or the word's
abbrev pub OfRow : ℕ → ℕ → ℕ → ℕ → Type 0
OfRow row k i w = (e : ℕ) → e < word_rows → bit w e ≡ get_or (row_bits k row) i false

abbrev pub OfWord : ℕ → ℕ → ℕ → ℕ → Type 0
OfWord k d i w = (e : ℕ) → e < word_rows → bit w e ≡ not (bit e (k + d - 1 - i))

module _ (row k d : ℕ) (before leaves : List ℕ) (b : WordLeaves k d before) (r : RowLeaves row k before leaves) where
  -- the row's leaves leave the word's
  pub word_kept : WordLeaves k d leaves
  word_kept = record {
    size = r.size;
    are = λ i l m e n. ap (λ (w : ℕ). bit w e) (r.kept i l) ∙ b.are i l m e n;
  }

  -- the rows that both give
  pub both_decided : d ≤ word_levels → (e : ℕ) → e < 2 ^ d → Decided (k + d) leaves e (extended (row_bits k row) d e)
  both_decided few e l i m = ⊎_elim first second (side i k)
    where
      first : i < k → is (bit (get_or leaves i 0) e) ≡ get_or (extended (row_bits k row) d e) i unknown
      first n = ap is (r.are i n e (in_word d e few l)) ∙ sym (value_first k d row e i n)

      second : k ≤ i → is (bit (get_or leaves i 0) e) ≡ get_or (extended (row_bits k row) d e) i unknown
      second n = ap is (word_kept.are i n m e (in_word d e few l)) ∙ sym (value_second k d row e i n m)

-- ---- part by part

pub all_in : (e : ℕ) → e < word_rows → outside (2 ^ word_rows - 1) e ≡ false
all_in e l = ap not (bit_ones word_rows e ∙ lt-ltb e word_rows l)

pub cut_by : (a b e : ℕ) → outside (bit_and a b) e ≡ (outside a e || outside b e)
cut_by a b e = ap not (bit_and_lem a b e) ∙ sym (morgan (bit a e) (bit b e))

-- a run of a rule's part
pub rule_outside : (many : ℕ) (code leaves : List ℕ) (from end r : ℕ)
    → ((e : ℕ) → e < word_rows → exec (whole_at leaves e) (part code from end) [] ≡ sure (bit r e) ∷ [])
    → (rule : Form ℕ) → PartIs many code from end rule → RefutedIn (Known many leaves) rule (outside r)
rule_outside many code leaves from end r runs rule p e row v =
    whole_refuted rule leaves e r (λ i. get_or row i unknown)
    (ap (λ (cs : List ℕ). exec (whole_at leaves e) cs []) (sym p.is_code) ∙ runs e v.0)
    (λ i m. v.1 i (p.atoms_below i m))

module _ (code ends leaves : List ℕ) (from left : ℕ) where
  -- what is so far outside, of any rules that the code is of
  abbrev pub SoFar : List ℕ → Type 0
  SoFar rest = (many : ℕ) (rules : List (Form ℕ)) → Coded many code ends rules
      → Joined (Known many leaves) many code from rest (outside left) rules

  -- no row is left
  pub none_true : (rest : List ℕ) → SoFar rest → left ≡ 0 → TrueSays code ends leaves 0
  unfolding TrueSays
  none_true rest j z many rules h e l row v =
      bit_none e
      ∙ sym (ap not (joined_now (Known many leaves) many code rules from rest (outside left) (j many rules h) e row (l, v)
      (ap (λ (w : ℕ). outside w e) z ∙ ap not (bit_none e))))

  -- no part is left
  pub rest_true : SoFar [] → TrueSays code ends leaves left
  unfolding TrueSays
  rest_true j many rules h e l row v =
      sym (not-not (bit left e))
      ∙ ap not (joined_all (Known many leaves) many code rules from (outside left) (j many rules h) e row (l, v))

-- ---- the rows of a word by one run

module _ (code ends leaves : List ℕ) (row k d left : ℕ) (few : d ≤ word_levels)
    (are : (e : ℕ) → e < 2 ^ d → Decided (k + d) leaves e (extended (row_bits k row) d e)) (says : TrueSays code ends leaves left) where
  pub true_rows : (r : ℕ) → RowsAre d r (bit left) → WholeSays code ends row k d r
  unfolding TrueSays
  true_rows r rows = record {
    low = rows.low;
    are = λ many rules coded within e l.
        rows.are e l ∙ says many rules coded e (in_word d e few l) (extended (row_bits k row) d e) (λ i m. are e l i (omega arith));
  }
