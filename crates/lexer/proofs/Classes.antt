-- The table has the class of each byte below 128, computed once, and from 128 on a byte is foreign. Assumes nothing.
use mathlib.Core.List.{List, map}
use mathlib.Core.Bool.{false, and-false}
use mathlib.Core.Path.{◌≡◌, refl, ap, ◌∙◌}
use Prim.Native.Nat.{ℕ, ◌≤◌, ◌<◌}
use native.Mathlib.Omega.{arith}
use lib.Dec.{eqb, leb, ltb}
use lib.ListN.{get_or}
use borrow.Author.Tests.{eqb-true, ltb-true, ne_eqb, lt-leb}
use Rattle.std.specs.List.{range_with_len}
use Rattle.std.proofs.lemmas.List.FromFn.{get_or-map-range_with_len}
use Rattle.lexer.specs.Class.{within, is_blank, is_alphanumeric, is_sign, class_of}
use Rattle.lexer.specs.Text.{bytes}
use Rattle.lexer.specs.ClassTable.{ClassTable}
use Rattle.lexer.specs.declared.Class.{Class}
use Rattle.lexer.specs.declared.TheConstants.{CLASSES}
use Rattle.lists.proofs.Search.{none_intro, all_elim}

-- ---- below 128

-- a table is right if one test, computed over its 128 entries, passes
pub table_right : (table : List Class) → table ≡ map class_of (range_with_len 0 128) → ClassTable table
table_right table e = record {
  right = λ b h past. ap (λ (t : List Class). get_or t b past) e ∙ get_or-map-range_with_len class_of 0 128 b b past h (omega arith);
}

pub classes_right : ClassTable CLASSES
unfolding class_of is_blank is_alphanumeric is_sign
classes_right = table_right CLASSES refl

-- ---- from 128 on

module _ (b : ℕ) (h : 128 ≤ b) where
  other : (k : ℕ) → k < 128 → eqb b k ≡ false
  other k l = ne_eqb b k (λ e. omega arith)

  outside : (a z : ℕ) → z < 128 → within a z b ≡ false
  outside a z l = rw (lt-leb b z (omega arith), and-false (leb a b))

  no_sign : is_sign b ≡ false
  unfolding is_sign
  no_sign =
      none_intro (eqb b) (bytes "(),*+-&|~<=>")
      (λ k i e.
      let l : k < 128 = ltb-true k 128 (all_elim (λ k. ltb k 128) i refl) in
      let q : b ≡ k = eqb-true b k e in
      omega arith)

  -- "every value above is foreign" (T-05 of document 02)
  pub above_foreign : class_of b ≡ Class.Foreign
  unfolding class_of is_blank is_alphanumeric
  above_foreign =
      rw (other 32 (omega arith), other 9 (omega arith), other 13 (omega arith), outside 65 90 (omega arith), outside 97 122 (omega arith), outside 48 57 (omega arith), no_sign)
