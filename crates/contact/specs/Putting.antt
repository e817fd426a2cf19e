-- What is computed: an element put last in a list where it is not there yet. Put so one after the other, the elements of a list become its
-- distinct ones (`IsDistinct-append` of proofs/Distinct.antt). Assumes nothing.
use Rattle.std.specs.Prelude.{Bool, cond, List, [], ◌∷◌, ◌++◌}
use Rattle.lists.specs.Search.{any}

module _ {N : Type 0} (same : N → N → Bool) where
  -- one of them is the same
  abbrev pub is_in : List N → N → Bool
  is_in ks w = any (λ k. same k w) ks

  -- put last, if it is not among them
  abbrev pub put : List N → N → List N
  put ks w = cond (is_in ks w) ks (ks ++ w ∷ [])
