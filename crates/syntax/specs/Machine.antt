-- What is computed: the reader: tokens are read one by one, with a stack of the signs that wait for a value and the postfix order so far. A
-- parenthesis may open a term or a formula: it allows a formula inside where it may itself be one. Assumes nothing.
use Rattle.std.specs.Prelude.{Bool, true, false, not, cond, List, [], ◌∷◌, ◌++◌, ℕ, suc, ◌+◌, ltb}
use Rattle.std.specs.Bool.{beq}
use Rattle.formula.specs.declared.Sign.{Sign}
use Rattle.formula.specs.Sign.{level_of, joins_terms}
use Rattle.formula.specs.Formula.{Name}
use Rattle.syntax.specs.Symbol.{Relation, Symbol, leaf, minus, tilde, opening, closing, comma, is_zero, binary, constant, relation}

-- a symbol whose name is its bytes
abbrev pub Sym : Type 0
Sym = Symbol Name

-- terms bind tighter than formulas, since "=0" takes a whole term and is then as tight as ~: ranks 0 to 3 are the levels
-- of formulas, 4 to 6 the levels 1 to 3 of terms
abbrev pub pick_rank : Bool → ℕ → ℕ
pick_rank true l = 3 + l
pick_rank false l = l

abbrev pub rank_of : Sign → ℕ
rank_of b = pick_rank (joins_terms b) (level_of b)

-- the loosest rank of a term (true), of a formula
abbrev pub loosest : Bool → ℕ
loosest true = 4
loosest false = 0

-- what is begun and waits for a value: a parenthesis, -, ~, a binary sign with its left value, the first and the second
-- term of C or <=
pub data Frame : Type 0 where
  in_parenthesis : Frame
  after_minus : Frame
  after_tilde : Frame
  after_binary : Sign → Frame
  first_of : Relation → Frame
  second_of : Relation → Frame

-- the loosest rank of the value that a frame waits for; 0 for a parenthesis and for C and <=, which take none before their ) or ,
abbrev pub need : Frame → ℕ
need in_parenthesis = 0
need after_minus = 6
need after_tilde = 3
need (after_binary b) = suc (rank_of b)
need (first_of c) = 0
need (second_of c) = 0

-- the sign that is written once a frame has its value
abbrev pub sign_of : Frame → Sym
sign_of in_parenthesis = opening
sign_of after_minus = minus
sign_of after_tilde = tilde
sign_of (after_binary b) = binary b
sign_of (first_of c) = relation c
sign_of (second_of c) = relation c

-- may a formula stand here
abbrev pub allow : List Frame → Bool
allow [] = true
allow (in_parenthesis ∷ K) = allow K
allow (after_minus ∷ K) = false
allow (after_tilde ∷ K) = true
allow (after_binary b ∷ K) = not (joins_terms b)
allow (first_of c ∷ K) = false
allow (second_of c ∷ K) = false

-- a value is wanted; a value is had, a term (true) or a formula; C or <= was read, and its parenthesis is wanted; the
-- token at a place was refused
pub data State : Type 0 where
  want : List Frame → List Sym → State
  have : Bool → List Frame → List Sym → State
  call : Relation → List Frame → List Sym → State
  dead : ℕ → State

pub record Popped : Type 0 where
  pub stack : List Frame
  pub order : List Sym

-- the frames that wait for a value of a rank above l get it
abbrev pub pop : ℕ → List Frame → List Sym → Popped
pop l [] o = record { stack = []; order = o }
pop l (f ∷ K) o = cond (ltb l (need f)) (pop l K (o ++ sign_of f ∷ [])) (record { stack = f ∷ K; order = o })

abbrev pub guard : Bool → State → ℕ → State
guard true s i = s
guard false s i = dead i

-- ) after a value
abbrev pub shut : Bool → List Frame → List Sym → ℕ → State
shut t [] o i = dead i
shut t (in_parenthesis ∷ K) o i = have t K o
shut t (after_minus ∷ K) o i = dead i
shut t (after_tilde ∷ K) o i = dead i
shut t (after_binary b ∷ K) o i = dead i
shut t (first_of c ∷ K) o i = dead i
shut t (second_of c ∷ K) o i = guard t (have false K (o ++ relation c ∷ [])) i

abbrev pub close : Bool → Popped → ℕ → State
close t p i = shut t p.stack p.order i

-- =0 after a term
abbrev pub zeroed : Popped → ℕ → State
zeroed p i = guard (allow p.stack) (have false p.stack (p.order ++ is_zero ∷ [])) i

-- , after a term
abbrev pub parted : List Frame → List Sym → ℕ → State
parted [] o i = dead i
parted (in_parenthesis ∷ K) o i = dead i
parted (after_minus ∷ K) o i = dead i
parted (after_tilde ∷ K) o i = dead i
parted (after_binary b ∷ K) o i = dead i
parted (first_of c ∷ K) o i = want (second_of c ∷ K) o
parted (second_of c ∷ K) o i = dead i

abbrev pub part_at : Popped → ℕ → State
part_at p i = parted p.stack p.order i

-- a binary sign after its left value
abbrev pub join : Sign → Popped → State
join b p = want (after_binary b ∷ p.stack) p.order

-- the state after the token x at place i
abbrev pub step : State → Sym → ℕ → State
step (dead j) x i = dead j
step (want K o) (leaf x) i = have true K (o ++ leaf x ∷ [])
step (want K o) minus i = want (after_minus ∷ K) o
step (want K o) tilde i = guard (allow K) (want (after_tilde ∷ K) o) i
step (want K o) opening i = want (in_parenthesis ∷ K) o
step (want K o) closing i = dead i
step (want K o) comma i = dead i
step (want K o) is_zero i = dead i
step (want K o) (binary b) i = dead i
step (want K o) (constant c) i = guard (allow K) (have false K (o ++ constant c ∷ [])) i
step (want K o) (relation c) i = guard (allow K) (call c K o) i
step (call d K o) (leaf x) i = dead i
step (call d K o) minus i = dead i
step (call d K o) tilde i = dead i
step (call d K o) opening i = want (first_of d ∷ K) o
step (call d K o) closing i = dead i
step (call d K o) comma i = dead i
step (call d K o) is_zero i = dead i
step (call d K o) (binary b) i = dead i
step (call d K o) (constant c) i = dead i
step (call d K o) (relation c) i = dead i
step (have t K o) (leaf x) i = dead i
step (have t K o) minus i = dead i
step (have t K o) tilde i = dead i
step (have t K o) opening i = dead i
step (have t K o) closing i = close t (pop (loosest t) K o) i
step (have t K o) comma i = guard t (part_at (pop 4 K o) i) i
step (have t K o) is_zero i = guard t (zeroed (pop 4 K o) i) i
step (have t K o) (binary b) i = guard (beq t (joins_terms b)) (join b (pop (rank_of b) K o)) i
step (have t K o) (constant c) i = dead i
step (have t K o) (relation c) i = dead i

-- what the tokens are found to be: a formula, by its postfix order, or refused at the place of a token
pub data Result : Type 0 where
  accepted : List Sym → Result
  refused : ℕ → Result

abbrev pub done : List Frame → List Sym → ℕ → Result
done [] o i = accepted o
done (f ∷ K) o i = refused i

abbrev pub unless_term : Bool → Result → ℕ → Result
unless_term true r i = refused i
unless_term false r i = r

-- the end of the text at place i
abbrev pub finish : State → ℕ → Result
finish (dead j) i = refused j
finish (want K o) i = refused i
finish (call c K o) i = refused i
finish (have t K o) i = unless_term t (done (pop 0 K o).stack (pop 0 K o).order i) i

unfoldable pub run : List Sym → ℕ → State → Result
run [] i s = finish s i
run (x ∷ xs) i s = run xs (i + 1) (step s x i)

-- the reading of a list of tokens
unfoldable pub reading : List Sym → Result
reading xs = run xs 0 (want [] [])
