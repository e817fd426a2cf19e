-- For proofs: what the code asks, as a question: which floors count. Contracts within our own crates name it. Assumes nothing.
use Rattle.contact.specs.Question.{Question, plain, building}
use Rattle.search.specs.declared.Asked.{Asked}

abbrev pub question_of : Asked → Question
question_of Asked.Plain = plain
question_of Asked.Building = building
