-- Rules that are all among others have no more different names. Assumes nothing.
use Prim.Native.Nat.{◌≤◌}
use mathlib.Core.List.{List}
use lib.ListN.{length}
use Rattle.formula.specs.Formula.{Formula, Name}
use Rattle.lists.specs.Search.{In}
use Rattle.contact.specs.Numbering.{same_name, names_of}
use Rattle.contact.proofs.Naming.{name_alike, names_among}
use Rattle.contact.proofs.Distinct.{distinct_fewer}

pub names_fewer : (fs gs : List (Formula Name)) → ((f : Formula Name) → In f fs → In f gs) → length (names_of fs) ≤ length (names_of gs)
names_fewer fs gs s = distinct_fewer same_name name_alike _ _ (names_among fs gs s)
