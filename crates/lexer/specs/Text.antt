-- What is meant: a quoted text as its bytes, for texts whose bytes are below 128. Assumes nothing.
use Rattle.std.specs.Prelude.{List, [] as nil, ◌∷◌ as ◌then◌, ℕ}
use Prim.Native.Char.{code}
use Prim.Native.String.{String, [], ◌∷◌}

abbrev pub bytes : String → List ℕ
bytes [] = nil
bytes (c ∷ s) = ◌then◌ (code c) (bytes s)

-- the byte of a text of one byte
abbrev pub byte : String → ℕ
byte [] = 0
byte (c ∷ s) = code c
