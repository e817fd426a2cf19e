-- What is meant: document 01, 'Plan words'. Assumes nothing.
use Rattle.std.specs.Prelude.{◌≡◌, cond, List, [], ◌∷◌, ◌++◌, map, ℕ, suc, ◌+◌, ◌*◌, ◌^◌, ◌/◌, ◌%◌, ◌≤◌, ◌<◌, leb, length}
use Rattle.evalset.specs.Most.{most}

-- A plan as it is written: the number of names, the points' evaluations, and the contacts of two points. A contact is one
-- number, the smaller position times 256 and the larger one, so that its order is "by smaller then larger".
pub record Plan : Type 0 where
  pub names : ℕ
  pub points : List ℕ
  pub contacts : List ℕ

-- "strictly ascending", from low on, and below high
abbrev pub Ascends : ℕ → ℕ → List ℕ → Type 0
Ascends low high [] = Unit {0}
Ascends low high (e ∷ es) = (low ≤ e) × (e < high) × Ascends (suc e) high es

-- "the smaller position .. the larger .. in strictly rising order by smaller then larger", positions below n
abbrev pub Rises : ℕ → ℕ → List ℕ → Type 0
Rises low n [] = Unit {0}
Rises low n (k ∷ ks) = (low ≤ k) × (k / 256 < k % 256) × (k % 256 < n) × Rises (suc k) n ks

-- the most points of a plan: as many as there are evaluations
abbrev pub most_points : ℕ
most_points = 256

-- "names (0 to 6)", and 7 or 8 (document 02's T-08: "Names go up to 8"), ".. points (1 to 2^names) .. strictly ascending: .. the
-- evaluation, below 2^names"; at most 2^names points follow from that
pub record IsPlan (p : Plan) : Type 0 where
  pub few : p.names ≤ most
  pub some : 0 < length p.points
  pub ascend : Ascends 0 (2 ^ p.names) p.points
  pub rise : Rises 0 (length p.points) p.contacts

-- "Kind 1, first: bits 15..8 names (0 to 6), bits 7..0 points (1 to 2^names)"
abbrev pub short_first : ℕ → ℕ → ℕ
short_first names count = 0x10000000 + (names * 256 + count)

-- document 02's T-08: "For 7 or 8 names the first word is of kind 8: bits 19..16 names, bits 15..0 points (1 to 2^names)"
abbrev pub long_first : ℕ → ℕ → ℕ
long_first names count = 0x80000000 + (names * 65536 + count)

-- "Plans of up to 6 names keep their words"
abbrev pub first_word : ℕ → ℕ → ℕ
first_word names count = cond (leb names 6) (short_first names count) (long_first names count)

-- "Kind 2, once a point, strictly ascending: bits 7..0 the evaluation"
abbrev pub point_word : ℕ → ℕ
point_word e = 0x20000000 + e

-- "Kind 3, once a contact of two points: bits 15..8 the smaller position, 7..0 the larger, from 0"
abbrev pub contact_word : ℕ → ℕ
contact_word k = 0x30000000 + k

-- "Kind 4, last: bits 27..0 the number of words before it"
abbrev pub last_word : ℕ → ℕ
last_word n = 0x40000000 + n

-- the words before the last one
unfoldable pub before : Plan → List ℕ
before p = first_word p.names (length p.points) ∷ (map point_word p.points ++ map contact_word p.contacts)

-- the words of a plan
unfoldable pub words_of : Plan → List ℕ
words_of p = before p ++ (last_word (length (before p)) ∷ [])

-- "Words begin a plan only if some plan has them as its first words"
pub record Begins (ws : List ℕ) : Type 0 where
  pub plan : Plan
  pub is : IsPlan plan
  pub rest : List ℕ
  pub words : ws ++ rest ≡ words_of plan

-- the words are no plan and no words after them make them one, because of what stands next: nothing does, and they are no
-- plan ("end early"), or a word does, and with it they begin none ("words up to here begin no plan")
abbrev pub Stops : List ℕ → List ℕ → Type 0
Stops pre [] = (p : Plan) → IsPlan p → words_of p ≡ pre → ⊥
Stops pre (w ∷ rest) = Begins (pre ++ w ∷ []) → ⊥

-- refusal 13 at index j: "words up to here begin no plan, or end early | word index, or the length"
pub record Refusal (ws : List ℕ) (j : ℕ) : Type 0 where
  pub pre : List ℕ
  pub post : List ℕ
  pub parts : pre ++ post ≡ ws
  pub place : j ≡ length pre
  pub begins : Begins pre
  pub stops : Stops pre post
