-- Of rows that pass the check, the first that some piece meets: the rows of the set below the next one are tried, and none of them is met, so
-- the first that is met is the first of all. Assumes nothing.
use mathlib.Core.Bool.{Bool, true, false, ◌&&◌}
use mathlib.Core.Logic.{⊎_elim}
use mathlib.Core.Path.{◌≡◌, sym, ap, ap₂, ◌∙◌}
use mathlib.Core.List.{List}
use Prim.Native.Nat.{ℕ, ◌+◌, ◌≤◌, ◌<◌}
use native.Mathlib.Omega.{arith}
use Rattle.std.specs.Prelude.{None, Some}
use Rattle.lists.specs.Search.{first, below}
use Rattle.lists.proofs.Below.{first_at, first_none_below}
use Rattle.lists.proofs.Truth.{side}
use Rattle.evalset.specs.Bit.{bit}
use Rattle.kleene.specs.Rails.{word_rows}
use Rattle.formula.specs.Formula.{Atom}
use Rattle.evalset.specs.Sets.{drop_of, from_of, found_of}
use Rattle.evalset.proofs.Walk.{from_zero, Step, stop}
use Rattle.contact.specs.Question.{building}
use Rattle.search.specs.declared.Chart.{Chart}
use Rattle.search.specs.Compiled.{Compiled}
use Rattle.search.specs.Planned.{marks_in}
use Rattle.search.specs.Building.{BuildingSays}
use Rattle.search.proofs.Claims.{building_is}
use Rattle.solver.specs.Tree.{answer_of, counts, ChosenSays}

module _ (chart : Chart) (set : ℕ) (start : ℕ) where
  -- row e of the set is met
  abbrev met : List (Atom ℕ) → ℕ → Bool
  met atoms e = bit set e && counts building chart.names (marks_in chart atoms (start + e))

  -- the rows of the set below `at` are tried, and the others are left
  pub record Tried (rest : ℕ) (at : ℕ) : Type 0 where
    pub rest_is : bit rest ≡ from_of at (bit set)
    pub none : (atoms : List (Atom ℕ)) → Compiled chart atoms → (e : ℕ) → e < at → met atoms e ≡ false

  pub tried_none : Tried set 0
  tried_none = record { rest_is = from_zero (bit set); none = λ atoms h e l. absurd (omega arith) }

  module _ (rest : ℕ) (at : ℕ) (t : Tried rest at) where
    -- none is left
    pub none_met : ((e : ℕ) → at ≤ e → e < word_rows → bit set e ≡ false) → ChosenSays building chart (bit set) start None
    unfolding ChosenSays
    none_met out = λ atoms h.
        sym (ap (answer_of start) (first_none_below (met atoms) word_rows
        (λ e l. ⊎_elim (t.none atoms h e)
        (λ m. ap (λ (b : Bool). b && counts building chart.names (marks_in chart atoms (start + e))) (out e m l)) (side e at))))

    pub none_left : found_of (first (bit rest) (below word_rows)) ≡ None → ChosenSays building chart (bit set) start None
    none_left f = none_met (stop word_rows at (bit set) (bit rest) t.rest_is f)

    module _ (e : ℕ) (s : Step word_rows at e (bit set) (bit rest)) (r : Bool) (says : BuildingSays chart (start + e) r) where
      before : (atoms : List (Atom ℕ)) → Compiled chart atoms → (d : ℕ) → d < e → met atoms d ≡ false
      before atoms h d l =
          ⊎_elim (t.none atoms h d)
          (λ m. ap (λ (b : Bool). b && counts building chart.names (marks_in chart atoms (start + d))) (s.between d m l)) (side d at)

      here : (atoms : List (Atom ℕ)) → Compiled chart atoms → met atoms e ≡ r
      here atoms h = ap₂ ◌&&◌ s.passes (sym (building_is chart atoms h r (start + e) says))

      -- the row that is taken is met: it is the first
      pub met_first : r ≡ true → ChosenSays building chart (bit set) start (Some (start + e))
      unfolding ChosenSays
      met_first q = λ atoms h.
          sym (ap (answer_of start) (first_at (met atoms) word_rows e (record { within = s.within; passes = here atoms h ∙ q; before = before atoms h })))

      -- or it is passed too
      pub tried_more : r ≡ false → (less : ℕ) → bit less ≡ drop_of (bit rest) e → Tried less (e + 1)
      tried_more q less m = record {
        rest_is = m ∙ s.rest;
        none = λ atoms h d l. ⊎_elim (before atoms h d) (λ k. let z : d ≡ e = omega arith in ap (met atoms) z ∙ here atoms h ∙ q) (side d e);
      }
