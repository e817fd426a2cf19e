-- The members of the set, in rising order, are the plan's points: what a question gives is allowed, and so below 2 ^ names. Assumes nothing.
use mathlib.Core.Bool.{Bool}
use mathlib.Core.Path.{◌≡◌, ap, ◌∙◌, fun_ext}
use mathlib.Core.List.{List}
use Prim.Native.Nat.{ℕ, ◌^◌, ◌≤◌, ◌<◌}
use lib.ListN.{length, get_or}
use Rattle.lists.specs.Search.{keep, below, elem}
use Rattle.lists.proofs.Search.{placed, elem_elim}
use Rattle.evalset.specs.declared.EvalSet.{EvalSet}
use Rattle.evalset.specs.Sets.{room, mem}
use Rattle.evalset.specs.Most.{most}
use Rattle.evalset.proofs.Members.{keep_names}
use Rattle.contact.specs.Question.{Question}
use Rattle.contact.specs.Plan.{Mark}
use Rattle.contact.specs.Check.{given_by, points_for}
use Rattle.contact.proofs.Floors.{given_allowed, point_allowed}
use Rattle.search.proofs.Fitting.{allowed_low}

pub point_low : (q : Question) (n : ℕ) (ms : List Mark) (i : ℕ) → i < length (points_for q n ms) → get_or (points_for q n ms) i 0 < 2 ^ n
point_low q n ms i l = allowed_low n ms _ (point_allowed q n ms _ (placed 0 (points_for q n ms) i l))

pub points_are : (q : Question) (n : ℕ) → n ≤ most → (ms : List Mark) (g : EvalSet) → ((e : ℕ) → mem g e ≡ elem e (given_by q n ms))
    → keep (mem g) (below room) ≡ points_for q n ms
unfolding points_for
points_are q n few ms g h =
    ap (λ (p : ℕ → Bool). keep p (below room)) (fun_ext h)
    ∙ keep_names (λ e. elem e (given_by q n ms)) n few
    (λ e i. allowed_low n ms e (given_allowed q n ms e (elem_elim e (given_by q n ms) i)))
