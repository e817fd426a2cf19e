-- A name that is kept in an array is the one of its number. Assumes nothing.
use mathlib.Core.Path.{◌≡◌, sym, ap, ◌∙◌}
use mathlib.Core.Bool.{true, false}
use mathlib.Core.List.{List, [], append-nil}
use Prim.Native.Nat.{ℕ, min, ◌<◌}
use native.Mathlib.Omega.{arith}
use lib.ListN.{length, get_or, take, length-map, length-take}
use lib.Seq.{get_or-take}
use Rattle.formula.specs.Formula.{Name}
use Rattle.evalset.specs.Bit.{bit}
use Rattle.lists.specs.Search.{collect}
use Rattle.lists.proofs.Lists.{map_at}
use Rattle.names.specs.Gather.{bytes_in, known_of}
use Rattle.names.specs.declared.Names.{Names}
use Rattle.names.proofs.Scans.{empty}
use Rattle.report.specs.Lines.{name_if, blanked}

module _ (names : Names) where
  -- as many as are counted, and no more than there are
  pub known_count : length (known_of names) ≡ min names.count (length names.list)
  unfolding known_of
  known_count = length-map (take names.count names.list) bytes_in ∙ length-take names.count names.list

  module _ (i : ℕ) (h : i < length (known_of names)) where
    known_name : get_or (known_of names) i [] ≡ bytes_in (get_or names.list i empty)
    unfolding known_of
    known_name =
        map_at bytes_in (take names.count names.list) i empty [] (omega (arith, h, length-map (take names.count names.list) bytes_in))
        ∙ ap bytes_in (get_or-take names.count names.list i empty (omega (arith, known_count)))

    pub name_set : (e : ℕ) → bit e i ≡ true → blanked (bytes_in (get_or names.list i empty)) ≡ collect blanked (name_if (known_of names) e i)
    name_set e b = rw b (sym (append-nil (blanked (get_or (known_of names) i [])) ∙ ap blanked known_name))

pub name_clear : (names : List Name) (e i : ℕ) → bit e i ≡ false → [] ≡ collect blanked (name_if names e i)
name_clear names e i b = rw b
