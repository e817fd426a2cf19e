-- A table gives back the list that it was made of: a line holds its text and its length, and a table its lines and their number.
-- Assumes nothing.
use mathlib.Core.Path.{◌≡◌, refl}
use mathlib.Core.List.{List, map}
use mathlib.Mathlib.Data.List.Basic.Function
use lib.ListN.{length, length-map}
use lib.Seq.{take_at}
use Rattle.lists.proofs.Padded.{pad_taken}
use Rattle.table.specs.Store.{table_of, rules_of, kept_line, text_of}
use Rattle.table.specs.Sheet.{Text}
use Rattle.table.specs.Calls.{FromUs}
use Rattle.table.specs.Rules.{CanStand}

pub text_line : (s : Text) → text_of (kept_line s) ≡ s
unfolding text_of kept_line
text_line s = pad_taken 256 s (length s) refl

pub rules_table : (rs : List Text) → rules_of (table_of rs) ≡ rs
unfolding rules_of table_of
rules_table rs = rw (take_at (map kept_line rs) _ (length rs) (length-map rs kept_line)) (Function.LeftInverse-list-map text_of kept_line text_line rs)

-- the table of a list that can stand came from us
pub from_us_table : (rs : List Text) → CanStand rs → FromUs (table_of rs)
from_us_table rs h = record { same = rw rules_table; standing = rw rules_table h }
