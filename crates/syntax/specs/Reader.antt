-- For proofs, but for `codes`, the kinds of symbols, and `judged_of`, the answer for tokens alone, which are computed: what the recursive
-- readers are asked and answer, over the machine: a reader lent the kinds of the tokens answers how the machine goes on, whatever frames
-- wait and whatever order is written before. Assumes nothing.
use Rattle.std.specs.Prelude.{Result as Answer, Ok, Err, Option, Some, None, Bool, true, false, cond, List, [], ◌∷◌, map, ◌≡◌, ℕ, ◌+◌, ◌≤◌, ◌<◌, eqb, ltb, length, get_or, drop, set, replicate}
use Rattle.std.specs.Bool.{beq}
use Rattle.lists.specs.Padded.{pad}
use Rattle.formula.specs.declared.Sign.TheVariants.{Implies, Iff, Or, And, Plus, Times}
use Rattle.lexer.specs.Arrays.{code_of}
use Rattle.syntax.specs.Symbol.{Relation, kind_of, leaf, minus, tilde, opening, closing, comma, is_zero, binary, constant, relation}
use Rattle.syntax.specs.Machine.{Sym, Frame, in_parenthesis, need, allow, want, have, call, Result, accepted, refused, run, reading}
use Rattle.syntax.specs.declared.NotAFormula.{NotAFormula}
use Rattle.syntax.specs.declared.Value.{Value as ValueRead}

-- ---- symbols as numbers

abbrev pub code : Sym → ℕ
code x = code_of (kind_of x)

unfoldable pub codes : List Sym → List ℕ
codes xs = map code xs

-- the kind at a place, 19 past the last
abbrev pub kind_at : List ℕ → ℕ → ℕ
kind_at ks p = get_or ks p 19

-- ---- what goes on a value

-- the rank of the frame that waits first
abbrev pub top : List Frame → ℕ
top [] = 0
top (f ∷ K) = need f

-- one more than the rank of a sign that goes on a term (true) or a formula; 0 for any other token
abbrev pub goes : Bool → Sym → ℕ
goes t (leaf x) = 0
goes t minus = 0
goes t tilde = 0
goes t opening = 0
goes t closing = 0
goes t comma = 0
goes t (constant c) = 0
goes t (relation c) = 0
goes true is_zero = 4
goes false is_zero = 0
goes true (binary Implies) = 0
goes true (binary Iff) = 0
goes true (binary Or) = 0
goes true (binary And) = 0
goes true (binary Plus) = 5
goes true (binary Times) = 6
goes false (binary Implies) = 1
goes false (binary Iff) = 1
goes false (binary Or) = 2
goes false (binary And) = 3
goes false (binary Plus) = 0
goes false (binary Times) = 0

-- the same of what stands first
abbrev pub goes_on : Bool → List Sym → ℕ
goes_on t [] = 0
goes_on t (x ∷ l) = goes t x

-- the same of a kind, for binary signs only
unfoldable pub binding_of : Bool → ℕ → ℕ
binding_of t c =
    cond (eqb c 0) (goes t (binary Implies))
    (cond (eqb c 1) (goes t (binary Iff))
    (cond (eqb c 2) (goes t (binary Or))
    (cond (eqb c 3) (goes t (binary And))
    (cond (eqb c 4) (goes t (binary Plus)) (cond (eqb c 5) (goes t (binary Times)) 0)))))

-- the rank of what goes on a value, 0 where nothing does
abbrev pub or_zero : Option ℕ → ℕ
or_zero None = 0
or_zero (Some b) = b

-- the same with =0
unfoldable pub goes_at : Bool → ℕ → ℕ
goes_at t c = cond (eqb c 10) (cond t 4 0) (binding_of t c)

-- ---- answers

-- what a reader answers: a value, by its sort, true for a term, the place after it and the length of the order so far; or the token that
-- is refused
pub data Read : Type 0 where
  Value : Bool → ℕ → ℕ → Read
  Refused : ℕ → Read

abbrev pub value_of : ValueRead → Read
value_of v = Value v.term v.at v.len

abbrev pub read_of : Answer ValueRead ℕ → Read
read_of (Ok v) = value_of v
read_of (Err p) = Refused p

-- the array holds the kinds of the order o and zeros
abbrev pub Holds : List ℕ → ℕ → List Sym → Type 0
Holds A n o = (A ≡ pad 256 (codes o)) × (length o ≡ n)

-- the run ends as one from the place of the answer on, where the frames K wait
abbrev pub EndsAs : List Sym → Result → List Frame → Read → List ℕ → Type 0
EndsAs xs R K (Value t p n) A = (o : List Sym) × Holds A n o × (R ≡ run (drop p xs) p (have t K o))
EndsAs xs R K (Refused p) A = R ≡ refused p

-- no sign of rank k or tighter goes on the value
abbrev pub StopsBelow : List ℕ → ℕ → Read → Type 0
StopsBelow ks k (Value t p n) = goes_at t (kind_at ks p) ≤ k
StopsBelow ks k (Refused p) = Unit {0}

-- a formula only where one may stand (w)
abbrev pub Sorted : Bool → Read → Type 0
Sorted w (Value t p n) = w ≡ false → t ≡ true
Sorted w (Refused p) = Unit {0}

-- of l tokens, those from at on are read, and at most one number a token is written after m
abbrev pub Within : ℕ → ℕ → ℕ → Read → Type 0
Within l at m (Value t p n) = (at < p) × (p ≤ l) × (n + at ≤ m + p)
Within l at m (Refused p) = Unit {0}

-- the place is one of l tokens or their end, and at most one number a token is written
abbrev pub Inside : ℕ → Read → Type 0
Inside l (Value t p n) = (p ≤ l) × (n ≤ p)
Inside l (Refused p) = Unit {0}

-- there is room for one number more
abbrev pub Room : Read → Type 0
Room (Value t p n) = n < 256
Room (Refused p) = Unit {0}

-- ---- the functions that call no reader

-- the rank of the right value of a binary sign of rank k or tighter that goes on the value
abbrev pub above : ℕ → ℕ → Option ℕ
above k b = cond (ltb k b) (Some b) None

abbrev pub follows_of : List ℕ → ℕ → Read → Option ℕ
follows_of ks k (Value t p n) = above k (binding_of t (kind_at ks p))
follows_of ks k (Refused p) = None

-- a value with the kind c after it
abbrev pub expected_of : List ℕ → ℕ → Read → Read
expected_of ks c (Value t p n) = cond (eqb (kind_at ks p) c) (Value t (p + 1) n) (Refused p)
expected_of ks c (Refused p) = Refused p

-- a sign after its last value, which must be of the sort that is wanted
abbrev pub ended_of : Bool → Read → Read
ended_of term (Value t p n) = cond (beq t term) (Value t p (n + 1)) (Refused p)
ended_of term (Refused p) = Refused p

abbrev pub ended_in : Bool → ℕ → Read → List ℕ → List ℕ
ended_in term c (Value t p n) A = cond (beq t term) (set A n c) A
ended_in term c (Refused p) A = A

-- C or <= after its second term
abbrev pub related_of : Read → Read
related_of (Value t p n) = Value false p (n + 1)
related_of (Refused p) = Refused p

abbrev pub related_in : ℕ → Read → List ℕ → List ℕ
related_in c (Value t p n) A = set A n c
related_in c (Refused p) A = A

-- =0 after a term
abbrev pub zeroed_of : List ℕ → Read → Read
zeroed_of ks (Value true p n) = cond (eqb (kind_at ks p) 10) (Value false (p + 1) (n + 1)) (Value true p n)
zeroed_of ks (Value false p n) = Value false p n
zeroed_of ks (Refused p) = Refused p

abbrev pub zeroed_in : List ℕ → Read → List ℕ → List ℕ
zeroed_in ks (Value true p n) A = cond (eqb (kind_at ks p) 10) (set A n 10) A
zeroed_in ks (Value false p n) A = A
zeroed_in ks (Refused p) A = A

-- ---- the readers that call each other

-- a value of rank k or tighter is asked for from the place at on, n numbers being written; w: a formula may stand here
pub record Asked (ks : List ℕ) (at k : ℕ) (w : Bool) (n : ℕ) : Type 0 where
  pub inside : at ≤ length ks
  pub short : length ks ≤ 256
  pub deep : k ≤ 6
  pub formula : k < 4 → w ≡ true
  pub room : n ≤ at
  pub plain : 4 ≤ k → w ≡ true → (kind_at ks at ≡ 7 → ⊥) × (12 ≤ kind_at ks at → 16 ≤ kind_at ks at)

pub record Said (ks : List ℕ) (at k : ℕ) (w : Bool) (n : ℕ) (A : List ℕ) (r : Read) (B : List ℕ) : Type 0 where
  pub says : (xs : List Sym) → codes xs ≡ ks → (K : List Frame) → allow K ≡ w → top K ≤ k → (o : List Sym) → Holds A n o → EndsAs xs (run (drop at xs) at (want K o)) K r B
  pub stops : StopsBelow ks k r
  pub sorted : Sorted w r
  pub within : Within (length ks) at n r

-- the binary signs of rank k or tighter are asked for after the answer s
pub record MoreAsked (ks : List ℕ) (k : ℕ) (s : Read) : Type 0 where
  pub short : length ks ≤ 256
  pub deep : k ≤ 6
  pub inside : Inside (length ks) s
  pub stopped : k < 4 → StopsBelow ks 3 s

pub record MoreSaid (ks : List ℕ) (k : ℕ) (s : Read) (A : List ℕ) (r : Read) (B : List ℕ) : Type 0 where
  pub says : (xs : List Sym) → codes xs ≡ ks → (K : List Frame) → top K ≤ k → (R : Result) → EndsAs xs R K s A → EndsAs xs R K r B
  pub stops : StopsBelow ks k r
  pub sorted : (w : Bool) → Sorted w s → Sorted w r
  pub within : (at m : ℕ) → Within (length ks) at m s → Within (length ks) at m r

pub record ParenthesisSaid (ks : List ℕ) (at : ℕ) (w : Bool) (n : ℕ) (A : List ℕ) (r : Read) (B : List ℕ) : Type 0 where
  pub says : (xs : List Sym) → codes xs ≡ ks → (K : List Frame) → allow K ≡ w → (o : List Sym) → Holds A n o → EndsAs xs (run (drop at xs) at (want (in_parenthesis ∷ K) o)) K r B
  pub sorted : Sorted w r
  pub within : Within (length ks) at n r

-- the two terms of C or <= are asked for
pub record RelationAsked (ks : List ℕ) (at n : ℕ) : Type 0 where
  pub inside : at ≤ length ks
  pub short : length ks ≤ 256
  pub room : n < at

pub record RelationSaid (ks : List ℕ) (at c n : ℕ) (A : List ℕ) (r : Read) (B : List ℕ) : Type 0 where
  pub says : (xs : List Sym) → codes xs ≡ ks → (d : Relation) → code (relation d) ≡ c → (K : List Frame) → allow K ≡ true → (o : List Sym) → Holds A n o → EndsAs xs (run (drop at xs) at (call d K o)) K r B
  pub stops : StopsBelow ks 3 r
  pub within : Within (length ks) at (n + 1) r

-- the rank at which what stands in a parenthesis is read
abbrev pub start_of : Bool → ℕ
start_of true = 0
start_of false = 4

-- all tokens are read into an array of zeros
abbrev pub Parsed : List Sym → Answer ℕ ℕ → List ℕ → Type 0
Parsed xs (Ok n) B = (o : List Sym) × Holds B n o × (reading xs ≡ accepted o)
Parsed xs (Err p) B = reading xs ≡ refused p

abbrev pub ParseSaid : List ℕ → List ℕ → Answer ℕ ℕ → List ℕ → Type 0
ParseSaid ks A r B = (xs : List Sym) → codes xs ≡ ks → A ≡ replicate 256 0 → Parsed xs r B

-- the result without the order
abbrev pub without_order : Result → Answer (Unit {0}) NotAFormula
without_order (accepted o) = Ok tt
without_order (refused i) = Err (NotAFormula.At i)

-- what tokens are; more than 256 stand in no rule text
unfoldable pub judged_of : List Sym → Answer (Unit {0}) NotAFormula
judged_of xs = cond (ltb 256 (length xs)) (Err NotAFormula.TooMany) (without_order (reading xs))
