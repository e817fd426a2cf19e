-- What is computed: the pieces of the allowed evaluations. A set grows by what is unseparated from one of its own, as often as there are
-- allowed evaluations; `piece_exactly` and `points_exactly` of proofs/Claims.antt tie this to `IsPiece` and `IsThePiece` of Plan. Assumes nothing.
use Rattle.std.specs.Prelude.{Bool, not, ◌&&◌, List, [], ◌∷◌, ℕ, zero, suc, length}
use Rattle.lists.specs.Search.{any, all, first, keep, collect}
use Rattle.contact.specs.Plan.{Mark, evaluations, separated, allowed, met}

-- the allowed evaluations, ascending
unfoldable pub allowed_ones : ℕ → List Mark → List ℕ
allowed_ones names ms = keep (allowed names ms) (evaluations names)

-- those of es that are unseparated from one of the set; an allowed evaluation is so from itself
unfoldable pub grown : List Mark → List ℕ → List ℕ → List ℕ
grown ms es set = keep (λ f. any (λ e. not (separated ms e f)) set) es

-- the set, grown k times
unfoldable pub grown_by : List Mark → List ℕ → ℕ → List ℕ → List ℕ
grown_by ms es zero set = set
grown_by ms es (suc k) set = grown_by ms es k (grown ms es set)

-- the piece of e, ascending
unfoldable pub whole_piece : ℕ → List Mark → ℕ → List ℕ
whole_piece names ms e = let es = allowed_ones names ms in grown_by ms es (length es) (e ∷ [])

-- e is allowed, and its piece meets every mark
unfoldable pub piece_meets : ℕ → List Mark → ℕ → Bool
piece_meets names ms e = let meets = (let piece = whole_piece names ms e in all (met ms piece) ms) in allowed names ms e && meets

-- the check for one building: some piece meets every mark
unfoldable pub check_pieces : ℕ → List Mark → Bool
check_pieces names ms = any (piece_meets names ms) (evaluations names)

-- the piece of the least evaluation whose piece meets every mark
unfoldable pub piece_given : ℕ → List Mark → List ℕ
piece_given names ms = collect (whole_piece names ms) (first (piece_meets names ms) (evaluations names))
