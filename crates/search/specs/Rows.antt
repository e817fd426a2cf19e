-- What is computed: rows as numbers in the order of "of two rows the first is the one with true at the lowest atom where they differ". Of k
-- atoms, atom i is true where bit k - 1 - i is clear. Assumes nothing.
use Rattle.std.specs.Prelude.{true, false, not, [], ◌∷◌, ℕ, zero, suc, ◌+◌, ◌^◌, length}
use Rattle.evalset.specs.Bit.{bit}
use Rattle.contact.specs.Row.{Row}

-- the row of k atoms with the number p
unfoldable pub row_bits : ℕ → ℕ → Row
row_bits zero p = []
row_bits (suc k) p = not (bit p k) ∷ row_bits k p

-- the number of a row
unfoldable pub row_number : Row → ℕ
row_number [] = 0
row_number (true ∷ row) = row_number row
row_number (false ∷ row) = 2 ^ length row + row_number row
