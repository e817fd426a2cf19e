-- An answer whose case is one of the nine refusals is not Added: Added is the first case of the enum. An outcome whose case is another than
-- Refused is the same on a line. Assumes nothing.
use Prim.Native.Nat.{ℕ}
use mathlib.Core.Path.{◌≡◌, refl, subst}
use mathlib.Core.List.{List, [], ◌∷◌}
use types.Run.{OneOf, miss}
use denote.Enum.Declared.{tag_of}
use Rattle.table.specs.declared.AddAnswer.{AddAnswer}
use Rattle.table.specs.declared.Outcome.{Outcome}
use Rattle.table.specs.Numbers.{on_line}
use Rattle.table.specs.contracts.AddAnswer.{the_type}
use Rattle.table.specs.contracts.Outcome.{the_type as outcome-type}
use Rattle.table.proofs.Standing.{NotAdded}

abbrev refusals : List ℕ
refusals = 1 ∷ 2 ∷ 3 ∷ 4 ∷ 5 ∷ 6 ∷ 7 ∷ 8 ∷ 9 ∷ []

pub told_refused : (a : AddAnswer) → OneOf refusals (tag_of the_type a) → NotAdded a
told_refused a h e = miss refusals 0 tt (subst (λ (x : AddAnswer). OneOf refusals (tag_of the_type x)) e h)

abbrev others : List ℕ
others = 0 ∷ 1 ∷ 2 ∷ 3 ∷ 4 ∷ 5 ∷ 6 ∷ 7 ∷ 8 ∷ 9 ∷ 10 ∷ 12 ∷ []

pub told_other : (n : ℕ) (o : Outcome) → OneOf others (tag_of outcome-type o) → o ≡ on_line n o
told_other n Outcome.Done h = refl
told_other n (Outcome.Plan w) h = refl
told_other n Outcome.NoPlan h = refl
told_other n Outcome.Yes h = refl
told_other n (Outcome.Unmet k) h = refl
told_other n (Outcome.Text b) h = refl
told_other n (Outcome.Tree w) h = refl
told_other n Outcome.Closed h = refl
told_other n Outcome.AsDrawn h = refl
told_other n Outcome.No h = refl
told_other n (Outcome.Clash m) h = refl
told_other n (Outcome.Refused k p) h = absurd (miss others 11 tt h)
told_other n (Outcome.RefusedLine k l p) h = refl
