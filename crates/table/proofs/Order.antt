-- Texts that can stand can stand in any order: as many rules, each of them read, and no more different names and atoms. Where the same texts
-- stand in another order, no floor that counts meets the ones exactly where none meets the others. Assumes nothing.
use mathlib.Core.List.{List}
use native.Mathlib.Omega.{arith}
use Rattle.formula.specs.Same.{name_discrete}
use Rattle.lists.specs.Search.{In}
use Rattle.lists.specs.Often.{EquallyOften}
use Rattle.lists.proofs.Often.{often_in, often_length, often_back}
use Rattle.contact.specs.Question.{Question, NoFloor}
use Rattle.contact.proofs.Claims.{no_plan_order}
use Rattle.table.specs.Sheet.{Text}
use Rattle.table.specs.Calls.{formulas_of}
use Rattle.table.specs.Rules.{CanStand}
use Rattle.table.proofs.Standing.{formulas_among, stand_part}

-- a text is a list of bytes, as a name is
module _ (rs ss : List Text) (often : EquallyOften rs ss) where
  into : (s : Text) → In s rs → In s ss
  into = often_in name_discrete rs ss often

  back : (s : Text) → In s ss → In s rs
  back = often_in name_discrete ss rs (often_back rs ss often)

  pub stand_order : CanStand rs → CanStand ss
  stand_order h = stand_part ss rs h back (omega (arith, often_length name_discrete rs ss often))

  pub no_floor_order : (q : Question) → NoFloor q (formulas_of rs) → NoFloor q (formulas_of ss)
  no_floor_order q = (no_plan_order (formulas_of rs) (formulas_of ss) (formulas_among rs ss into) (formulas_among ss rs back) q).0
