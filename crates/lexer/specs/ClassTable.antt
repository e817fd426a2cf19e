-- What is computed: the classes of the byte values below 128 in a table. A number for each class is for proofs, by which classes are told
-- apart. Assumes nothing.
use Rattle.std.specs.Prelude.{◌≡◌, List, ℕ, ◌<◌, get_or}
use Rattle.lexer.specs.Class.{class_of}
use Rattle.lexer.specs.declared.Class.{Class}

-- a table that has the class of each byte value below 128
pub record ClassTable (table : List Class) : Type 0 where
  pub right : (b : ℕ) → b < 128 → (past : Class) → get_or table b past ≡ class_of b

abbrev pub class_number : Class → ℕ
class_number Class.Blank = 0
class_number Class.Alphanumeric = 1
class_number Class.Sign = 2
class_number Class.Foreign = 3
