-- A byte is blank exactly if its class is. Assumes nothing.
use mathlib.Core.Path.{◌≡◌, refl, sym}
use mathlib.Core.Bool.{Bool, true, false, cond, ◌&&◌}
use mathlib.Core.List.{List}
use Prim.Native.Nat.{ℕ}
use Rattle.std.specs.List.{list_all}
use Rattle.std.proofs.lemmas.List.Recursion.{same_from_clauses}
use Rattle.lists.specs.Search.{all}
use Rattle.lexer.specs.Class.{is_blank, is_alphanumeric, is_sign, class_of}
use Rattle.lexer.specs.declared.Class.{Class}

-- a test of classes that blanks alone pass
module _ (f : Class → Bool) (blank : f Class.Blank ≡ true) (alphanumeric : f Class.Alphanumeric ≡ false) (sign : f Class.Sign ≡ false) (foreign : f Class.Foreign ≡ false) where
  pub blank_by : (b : ℕ) → is_blank b ≡ f (class_of b)
  unfolding class_of
  blank_by b = go (is_blank b) (is_alphanumeric b) (is_sign b)
    where
      go : (x y z : Bool) → x ≡ f (cond x Class.Blank (cond y Class.Alphanumeric (cond z Class.Sign Class.Foreign)))
      go true y z = sym blank
      go false true z = sym alphanumeric
      go false false true = sym sign
      go false false false = sym foreign

abbrev pub of_blanks : Class → Bool
of_blanks Class.Blank = true
of_blanks Class.Alphanumeric = false
of_blanks Class.Sign = false
of_blanks Class.Foreign = false

pub blank_class : (b : ℕ) → of_blanks (class_of b) ≡ is_blank b
blank_class b = sym (blank_by of_blanks refl refl refl refl b)

-- the library's word for a test that every element passes
pub all_is : {A : Type 0} (p : A → Bool) (xs : List A) → list_all p xs ≡ all p xs
all_is p xs = same_from_clauses (list_all p) (all p) (λ x r. p x && r) refl (λ x ys. refl) (λ x ys. refl) xs
