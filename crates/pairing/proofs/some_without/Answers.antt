-- `pairing::some_without` meets its contract: `any` of the library is `any` of the words. Assumes nothing.
use Rattle.std.proofs.Common.{ℕ, ◌≡◌, ◌/◌, ◌^◌, ◌∙◌, ◌||◌, Bool, List, [], ◌∷◌, refl, ap, eqb, rules, tests}
use Rattle.std.specs.List.{list_any}
use Rattle.std.proofs.lemmas.Iterator.{YieldsList-from_slice}
use Rattle.std.proofs.lemmas.Iterator.Search.{any_from_yields_List}
use Rattle.lists.specs.Search.{any}
use Rattle.pairing.specs.Words.{lone}
use Rattle.pairing.proofs.some_without.Goals as goal

same_any : (p : ℕ → Bool) (xs : List ℕ) → list_any p xs ≡ any p xs
same_any p [] = refl
same_any p (x ∷ xs) = ap (λ (b : Bool). p x || b) (same_any p xs)

pub returns : goal.returns
unfolding lone
returns c =
    let xs = c.args.list.now in
    let p : ℕ → Bool = λ w. eqb (w / 2 ^ c.args.s) 0 in
    any_from_yields_List p _ _ _ c.any.ensures.ran (YieldsList-from_slice xs cc) (λ x b q k. search (rules, tests)) ∙ same_any p xs
