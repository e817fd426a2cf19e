-- What is meant: the text of the book: "prints all rules of at most 6 tokens over the names a and b, each once, tokens parted by one blank, shorter ones
-- first and then by token order". Assumes nothing.
use Rattle.std.specs.Prelude.{◌≡◌, List, ℕ}
use Rattle.lists.specs.Search.{In, collect}
use Rattle.exercises.specs.Meant.{Exercise}
use Rattle.exercises.specs.Order.{Earlier, Rising}
use Rattle.exercises.specs.Lines.{line}

-- the bytes are the lines of the exercises of at most n tokens, one after the other: all of them and no other, each before those that come later
pub record IsBook (n : ℕ) (out : List ℕ) : Type 0 where
  pub strings : List (List ℕ)
  pub every : (ks : List ℕ) → Exercise n ks → In ks strings
  pub no_other : (ks : List ℕ) → In ks strings → Exercise n ks
  pub in_order : Rising Earlier strings
  pub lines : out ≡ collect line strings
