-- What is computed: how plan words are read, by a machine that takes a word at a time. It is dead as soon as no plan has the words so far
-- as its first words. Assumes nothing.
use Rattle.std.specs.Prelude.{◌≡◌, ◌&&◌, cond, List, [], ◌∷◌, ◌++◌, ℕ, zero, suc, ◌+◌, ◌-◌, ◌*◌, ◌^◌, ◌/◌, ◌%◌, eqb, ltb, leb, length}
use Rattle.plan.specs.declared.Word.{Word}
use Rattle.plan.specs.declared.Word.TheVariants.{First, Point, Contact, Last, Other}
use Rattle.plan.specs.Words.{Plan, IsPlan, words_of, Refusal}
use Rattle.evalset.specs.Most.{most}

-- a word by its kind and the rest of its bits; Other where an unnamed bit is set, and where the names are not those of the kind: "kind 1
-- with such names is refused, and kind 8 with fewer too"
abbrev pub by_kind : ℕ → ℕ → Word
by_kind k b =
    cond (eqb k 1) (cond (leb b 0x6FF) (First (b / 256) (b % 256)) Other)
    (cond (eqb k 2) (cond (leb b 0xFF) (Point b) Other)
    (cond (eqb k 3) (cond (leb b 0xFFFF) (Contact (b / 256) (b % 256)) Other)
    (cond (eqb k 4) (Last b)
    (cond (eqb k 8) (cond (leb 0x70000 b && leb b 0x8FFFF) (First (b / 65536) (b % 65536)) Other) Other))))

-- "the kind in the top four bits decides what the rest means"
unfoldable pub kind_of : ℕ → Word
kind_of w = by_kind (w / 0x10000000) (w % 0x10000000)

-- how far the words have been read
pub data State : Type 0 where
  -- no word yet
  start : State
  -- names; a point and so many more are to come; the points so far; the least evaluation that may come
  pointing : ℕ → ℕ → List ℕ → ℕ → State
  -- names; the points; the contacts so far; the least contact that may come
  linking : ℕ → List ℕ → List ℕ → ℕ → State
  whole : Plan → State
  dead : State

-- after the first word
abbrev pub opened : Word → State
opened (First n c) = cond (leb n most && (leb 1 c && leb c (2 ^ n))) (pointing n (c - 1) [] 0) dead
opened (Point e) = dead
opened (Contact i j) = dead
opened (Last c) = dead
opened Other = dead

-- after a point
abbrev pub went : ℕ → ℕ → List ℕ → ℕ → State
went n zero pts e = linking n pts [] 0
went n (suc m) pts e = pointing n m pts (suc e)

-- a point is not below low, and leaves room for those still to come
abbrev pub pointed : ℕ → ℕ → List ℕ → ℕ → Word → State
pointed n m pts low (First i c) = dead
pointed n m pts low (Point e) = cond (leb low e && ltb (e + m) (2 ^ n)) (went n m (pts ++ (e ∷ [])) e) dead
pointed n m pts low (Contact i j) = dead
pointed n m pts low (Last c) = dead
pointed n m pts low Other = dead

-- after a contact, or the last word
abbrev pub linked : ℕ → List ℕ → List ℕ → ℕ → Word → State
linked n pts ks low (First i c) = dead
linked n pts ks low (Point e) = dead
linked n pts ks low (Contact i j) =
    cond (leb low (i * 256 + j) && (ltb i j && ltb j (length pts)))
    (linking n pts (ks ++ ((i * 256 + j) ∷ [])) (suc (i * 256 + j))) dead
linked n pts ks low (Last c) =
    cond (eqb c (1 + (length pts + length ks))) (whole (record { names = n; points = pts; contacts = ks })) dead
linked n pts ks low Other = dead

-- after one word
abbrev pub step : State → Word → State
step start w = opened w
step (pointing n m pts low) w = pointed n m pts low w
step (linking n pts ks low) w = linked n pts ks low w
step (whole p) w = dead
step dead w = dead

-- the state after some words
unfoldable pub run : State → List ℕ → State
run s [] = s
run s (w ∷ ws) = run (step s (kind_of w)) ws

-- a plan, or the index of refusal 13
pub data Reading : Type 0 where
  plan : Plan → Reading
  refused : ℕ → Reading

-- the words end here
abbrev pub ended : ℕ → State → Reading
ended i start = refused i
ended i (pointing n m pts low) = refused i
ended i (linking n pts ks low) = refused i
ended i (whole p) = plan p
ended i dead = refused i

-- after word i: refused there, or what the rest gives
abbrev pub unless : State → ℕ → Reading → Reading
unless start i r = r
unless (pointing n m pts low) i r = r
unless (linking n pts ks low) i r = r
unless (whole p) i r = r
unless dead i r = refused i

-- what the words from index i on give
unfoldable pub read_from : ℕ → State → List ℕ → Reading
read_from i s [] = ended i s
read_from i s (w ∷ ws) = let t = step s (kind_of w) in let r = read_from (suc i) t ws in unless t i r

-- what the words give
unfoldable pub read_of : List ℕ → Reading
read_of ws = read_from 0 start ws

-- what a reading says of the words
abbrev pub ReadingSays : List ℕ → Reading → Type 0
ReadingSays ws (plan p) = IsPlan p × (words_of p ≡ ws)
ReadingSays ws (refused i) = Refusal ws i
