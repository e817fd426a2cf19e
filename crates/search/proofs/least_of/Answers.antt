-- `search::least_of` meets its contract: the set of the one evaluation found, or the empty set. Assumes nothing.
use mathlib.Core.Bool.{Bool}
use mathlib.Core.Path.{sym, ap, ◌∙◌}
use mathlib.Mathlib.Logic.Function.Defs.{congr_fun}
use Prim.Native.Nat.{ℕ}
use Rattle.evalset.proofs.Walk.{found_least, found_nothing}
use Rattle.evalset.specs.Sets.{room, add_of}
use Rattle.search.proofs.Walks.{one_found, none_found}
use Rattle.search.proofs.least_of.Goals as goal

pub returns-in-Some : goal.returns-in-Some
returns-in-Some c = λ e.
    let p = c.in-Some.e in
    congr_fun (c.insert.ensures ∙ ap (λ (s : ℕ → Bool). add_of s p) c.empty.ensures) e
    ∙ one_found _ p (found_least _ room p (sym c.least.ensures ∙ c.in-Some.is)) e

pub returns-in-None : goal.returns-in-None
returns-in-None c = λ e.
    congr_fun c.empty-in-None.ensures e
    ∙ none_found _ (found_nothing _ room (sym c.least.ensures ∙ c.in-None.is)) e
