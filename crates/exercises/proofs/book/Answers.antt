-- `exercises::book` meets its contract: what is put at the first byte, or nothing. Assumes nothing.
use Rattle.exercises.specs.Book.{text}
use Rattle.exercises.proofs.Given.{gives_needed, gives_text}
use Rattle.exercises.proofs.Sizes.{text_length}
use Rattle.exercises.proofs.book.Goals as goal

pub returns-then-out-lt-ROOM : goal.returns-then-out-lt-ROOM
returns-then-out-lt-ROOM c = gives_needed (text 6) _ 56520 text_length c.if-out-lt-ROOM.true

pub returns : goal.returns
returns c = gives_text c.put_book-len.ensures
