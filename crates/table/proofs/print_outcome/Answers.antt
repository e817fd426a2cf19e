-- `table::print_outcome` meets its contract: each arm knows its answer, whose outcome the definition gives. Assumes nothing.
use mathlib.Core.Path.{sym, ap}
use Rattle.table.specs.Numbers.{print_outcome}
use Rattle.table.proofs.print_outcome.Goals as goal

pub returns-in-Text : goal.returns-in-Text
returns-in-Text c = sym (ap print_outcome c.in-Text.is)

pub returns-in-NoSuchRule : goal.returns-in-NoSuchRule
returns-in-NoSuchRule c = sym (ap print_outcome c.in-NoSuchRule.is)

pub returns-in-ShortBuffer : goal.returns-in-ShortBuffer
returns-in-ShortBuffer c = sym (ap print_outcome c.in-ShortBuffer.is)
