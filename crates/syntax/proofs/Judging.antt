-- What tokens alone are: up to 256 are what their reading is, without the order; more are too many. Assumes nothing.
use Rattle.std.specs.Prelude.{Ok, Err}
use mathlib.Core.Path.{◌≡◌, sym, ap, ◌∙◌}
use mathlib.Core.List.{List}
use Prim.Native.Nat.{ℕ, ◌≤◌, ◌<◌}
use native.Mathlib.Omega.{arith}
use lib.ListN.{length}
use borrow.Author.Tests.{lt-ltb, le-ltb}
use Rattle.syntax.specs.Machine.{Sym, accepted, refused, reading}
use Rattle.syntax.specs.Reader.{codes, without_order, judged_of}
use Rattle.syntax.specs.declared.NotAFormula.{NotAFormula}
use Rattle.syntax.proofs.Heads.{length_codes}

pub judged_few : (xs : List Sym) → length xs ≤ 256 → judged_of xs ≡ without_order (reading xs)
unfolding judged_of
judged_few xs h = simp (le-ltb 256 (length xs) h)

judged_many : (xs : List Sym) → 256 < length xs → judged_of xs ≡ Err NotAFormula.TooMany
unfolding judged_of
judged_many xs h = simp (lt-ltb 256 (length xs) h)

-- by the kinds that are given
module _ (xs : List Sym) (ks : List ℕ) (e : codes xs ≡ ks) where
  as_many : length xs ≡ length ks
  as_many = sym (length_codes xs) ∙ ap length e

  pub too_many : 256 < length ks → Err NotAFormula.TooMany ≡ judged_of xs
  too_many h = sym (judged_many xs (omega (arith, as_many)))

  module _ (h : length ks ≤ 256) where
    few : without_order (reading xs) ≡ judged_of xs
    few = sym (judged_few xs (omega (arith, as_many)))

    pub value_judged : (o : List Sym) → reading xs ≡ accepted o → Ok tt ≡ judged_of xs
    value_judged o f = sym (ap without_order f) ∙ few

    pub refused_judged : (q : ℕ) → reading xs ≡ refused q → Err (NotAFormula.At q) ≡ judged_of xs
    refused_judged q f = sym (ap without_order f) ∙ few
