-- `table::add_outcome` meets its contract: each arm knows its answer, whose outcome the definition gives. Assumes nothing.
use mathlib.Core.Path.{sym, ap}
use Rattle.table.specs.Numbers.{add_outcome}
use Rattle.table.proofs.add_outcome.Goals as goal

pub returns-in-ForeignByte : goal.returns-in-ForeignByte
returns-in-ForeignByte c = sym (ap add_outcome c.in-ForeignByte.is)

pub returns-in-LongName : goal.returns-in-LongName
returns-in-LongName c = sym (ap add_outcome c.in-LongName.is)

pub returns-in-Measured : goal.returns-in-Measured
returns-in-Measured c = sym (ap add_outcome c.in-Measured.is)

pub returns-in-GrammarAt : goal.returns-in-GrammarAt
returns-in-GrammarAt c = sym (ap add_outcome c.in-GrammarAt.is)

pub returns-in-TooManyNames : goal.returns-in-TooManyNames
returns-in-TooManyNames c = sym (ap add_outcome c.in-TooManyNames.is)
