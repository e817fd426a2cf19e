-- For proofs: the bounds of a sheet and of the numbers of a form's atoms, by which callers stay within the arrays. Assumes nothing.
use Rattle.std.specs.Prelude.{◌≤◌, length}
use Rattle.small_sheets.specs.declared.Sheet.{Sheet}
use Rattle.small_sheets.specs.declared.Numbers.{Numbers}

-- Text and form end within their arrays, and a sheet has at most three names.
pub record Bounded (s : Sheet) : Type 0 where
  pub text : s.end ≤ length s.text
  pub form : s.last ≤ length s.form
  pub names : s.names ≤ 3

-- Atoms, and the different ones among them, are no more than their arrays hold.
pub record Few (n : Numbers) : Type 0 where
  pub places : n.places ≤ 32
  pub count : n.count ≤ 32
