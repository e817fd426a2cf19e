-- For proofs: what a private function computes, how many names a formula's order has. Assumes nothing.
use Rattle.std.specs.Prelude.{List, [], ◌∷◌, ℕ, ◌+◌}
use Rattle.compile.specs.Kinds.{names_by}

unfoldable pub name_count : List ℕ → ℕ
name_count [] = 0
name_count (kind ∷ kinds) = names_by kind + name_count kinds
