-- What is meant: the words of a plan by document 01's text alone, where the first word is of kind 1. Assumes nothing.
use Rattle.std.specs.Prelude.{List, [], ◌∷◌, ◌++◌, map, ℕ, length}
use Rattle.plan.specs.Words.{Plan, short_first, point_word, contact_word, last_word}

-- the words before the last one
unfoldable pub short_before : Plan → List ℕ
short_before p = short_first p.names (length p.points) ∷ (map point_word p.points ++ map contact_word p.contacts)

-- the words of a plan
unfoldable pub short_words : Plan → List ℕ
short_words p = short_before p ++ (last_word (length (short_before p)) ∷ [])
