-- What is computed: a square of bits in words that are lent, a row for each evaluation or each point. With 64 words a row is one word, and
-- there are 64 of them; with 1,024 it is four words, and there are 256. Assumes nothing.
use Rattle.std.specs.Prelude.{Bool, false, ◌&&◌, ◌||◌, cond, ◌≡◌, List, ◌⊎◌, ℕ, ◌+◌, ◌*◌, ◌/◌, ◌%◌, ◌<◌, ltb, eqb, length, get_or}
use Rattle.evalset.specs.Bit.{word_bits, bit}

-- the words of a row
unfoldable pub wide : List ℕ → ℕ
wide ws = cond (eqb (length ws) word_bits) 1 4

-- the words are those of a square
abbrev pub Square : List ℕ → Type 0
Square ws = (length ws ≡ 64) ⊎ (length ws ≡ 1024)

-- bit q of row p
unfoldable pub square_at : List ℕ → ℕ → ℕ → Bool
square_at ws p q = ltb q (word_bits * wide ws) && bit (get_or ws (wide ws * p + q / word_bits) 0) (q % word_bits)

-- how many rows there are, and how many bits each has
abbrev pub reach : List ℕ → ℕ
reach ws = word_bits * wide ws

-- no bit is set
abbrev pub Clear : List ℕ → Type 0
Clear ws = (p q : ℕ) → square_at ws p q ≡ false

-- row p has the members of x too, as far as the rows reach; the others are as they were
pub record Joined (p : ℕ) (x : ℕ → Bool) (ws ws' : List ℕ) : Type 0 where
  pub long : length ws' ≡ length ws
  pub here : (q : ℕ) → q < word_bits * wide ws → square_at ws' p q ≡ (square_at ws p q || x q)
  pub others : (i q : ℕ) → (i ≡ p → ⊥) → square_at ws' i q ≡ square_at ws i q

-- the same of a row that may be outside the square: then nothing changes
pub record JoinedIn (p : ℕ) (x : ℕ → Bool) (ws ws' : List ℕ) : Type 0 where
  pub long : length ws' ≡ length ws
  pub here : (q : ℕ) → p < reach ws → q < reach ws → square_at ws' p q ≡ (square_at ws p q || x q)
  pub others : (i q : ℕ) → (i ≡ p → ⊥) → square_at ws' i q ≡ square_at ws i q
