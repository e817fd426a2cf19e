-- For proofs: what the private functions compute, the masks of evaluations, the classes of those that lie in the same terms, and the words
-- of pairs of classes. Assumes nothing.
use Rattle.std.specs.Prelude.{Bool, true, false, ◌≡◌, List, [], ◌∷◌, ℕ, zero, suc, ◌+◌, ◌*◌, ◌/◌, ◌%◌, ◌^◌, ◌≤◌, ◌<◌, length, take}
use Rattle.std.specs.Int.Bits.{bit_and, bit_or}
use Rattle.lists.specs.Search.{In, collect, below}
use Rattle.evalset.specs.declared.EvalSet.{EvalSet}
use Rattle.evalset.specs.Bit.{bit}
use Rattle.evalset.specs.Sets.{mem, mem_at}
use Rattle.pairing.specs.Sums.{entry}
use Rattle.pairing.specs.Words.{Spelt}

-- ---- the mask of an evaluation

-- e is in the i-th set
abbrev pub member_of : List EvalSet → ℕ → ℕ → Bool
member_of sets e i = mem_at sets i e

-- one digit more
abbrev pub digit : Bool → ℕ
digit true = 1
digit false = 0

-- a mask has two halves of 16 bits, and room for one digit more in each
abbrev pub Spare : ℕ → Type 0
Spare m = (m % 65536 < 32768) × (m / 65536 < 32768)

-- r is m with one digit more in each half: of the first terms in the high one, of the second in the low one
pub record Marked (first second : Bool) (m r : ℕ) : Type 0 where
  pub high : r / 65536 ≡ m / 65536 * 2 + digit first
  pub low : r % 65536 ≡ m % 65536 * 2 + digit second

-- the masks of n evaluations from one on have one atom more, whose terms have the words x and y there; the others are as before
pub record MarkedIn (x y from n : ℕ) (masks masks' : List ℕ) : Type 0 where
  pub long : length masks' ≡ length masks
  pub marked : (e : ℕ) → e < n → Marked (bit x e) (bit y e) (entry masks (from + e)) (entry masks' (from + e))
  pub before : (e : ℕ) → e < from → entry masks' e ≡ entry masks e
  pub behind : (e : ℕ) → from + n ≤ e → entry masks' e ≡ entry masks e

-- so are the masks of the evaluations below n, by the terms x and y; the others are as they were
pub record MarkedTo (x y : EvalSet) (n : ℕ) (masks masks' : List ℕ) : Type 0 where
  pub long : length masks' ≡ length masks
  pub marked : (e : ℕ) → e < n → Marked (mem x e) (mem y e) (entry masks e) (entry masks' e)
  pub others : (e : ℕ) → n ≤ e → entry masks' e ≡ entry masks e

-- the mask of e: which of the first n atoms have it in their first term, and in their second
pub record MaskIs (xs ys : List EvalSet) (n e m : ℕ) : Type 0 where
  pub first_is : Spelt n (member_of xs e) (m / 65536)
  pub second_is : Spelt n (member_of ys e) (m % 65536)

-- those of the evaluations below top
abbrev pub MasksAre : List EvalSet → List EvalSet → ℕ → ℕ → List ℕ → Type 0
MasksAre xs ys n top masks = (e : ℕ) → e < top → MaskIs xs ys n e (entry masks e)

-- ---- classes

-- the least evaluation that a point may have
abbrev pub lowest_of : ℕ → ℕ
lowest_of zero = 0
lowest_of (suc names) = 1

-- the first r places have the different ones of the masks from `low` up to n, each once
pub record Kept (low n : ℕ) (masks masks' : List ℕ) (r : ℕ) : Type 0 where
  pub long : length masks' ≡ length masks
  pub few : r ≤ n
  pub only : {m : ℕ} → In m (take r masks') → (e : ℕ) × (low ≤ e) × (e < n) × (entry masks e ≡ m)
  pub there : (e : ℕ) → low ≤ e → e < n → In (entry masks e) (take r masks')
  pub once : (i j : ℕ) → i < j → j < r → entry masks' i ≡ entry masks' j → ⊥

-- ---- pairs

-- the word of two masks: the atoms with one of them in the first term, and one in the second or no second term, as `zeros` has it
unfoldable pub pair_word : ℕ → ℕ → ℕ → ℕ
pair_word zeros a b = bit_and (bit_or (bit_or a zeros) b / 2 ^ 16) (bit_or (bit_or a zeros) b)

-- those of the mask at e with the first n masks
unfoldable pub pairs_of : ℕ → List ℕ → ℕ → ℕ → List ℕ
pairs_of zeros masks e n = collect (λ f. pair_word zeros (entry masks e) (entry masks f) ∷ []) (below n)

-- those of the first n masks, each with those up to it
unfoldable pub all_pairs : ℕ → List ℕ → ℕ → List ℕ
all_pairs zeros masks n = collect (λ e. pairs_of zeros masks e (e + 1)) (below n)

-- those of the mask at e with the first n stand in an array
pub record PairsIn (zeros : ℕ) (masks : List ℕ) (e n : ℕ) (words : List ℕ) : Type 0 where
  pub long : length words ≡ 256
  pub are : (f : ℕ) → f < n → entry words f ≡ pair_word zeros (entry masks e) (entry masks f)
