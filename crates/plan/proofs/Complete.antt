-- Every plan is read from its words: each word passes its step's test, and ascending evaluations leave room for those to come.
-- Assumes nothing.
use mathlib.Core.Path.{◌≡◌, refl, sym, ap, ◌∙◌}
use mathlib.Core.List.{List, [], ◌∷◌, ◌++◌, map, append-nil, append_assoc}
use Prim.Native.Nat.{ℕ, suc, ◌+◌, ◌-◌, ◌*◌, ◌^◌, ◌/◌, ◌%◌, ◌≤◌, ◌<◌}
use native.Mathlib.Omega.{arith}
use lib.ListN.{length, length-append, length-map}
use lib.Pow.{pow_mono}
use borrow.Author.Tests.{le-leb, lt-ltb, eq-eqb}
use Rattle.plan.specs.declared.Word.{Word}
use Rattle.plan.specs.declared.Word.TheVariants.{First, Point, Contact, Last}
use Rattle.plan.specs.Words.{Plan, Ascends, Rises, IsPlan, first_word, point_word, contact_word, last_word, before, words_of, most_points}
use Rattle.plan.specs.Reader.{kind_of, State, start, pointing, linking, whole, opened, went, pointed, linked, step, run}
use Rattle.plan.proofs.Spelling.{first_kind, point_kind, contact_kind, last_kind}
use Rattle.evalset.specs.Most.{most}

-- ascending points leave room: there are at most high - low of them
pub ascends_room : (low high : ℕ) (es : List ℕ) → low ≤ high → Ascends low high es → low + length es ≤ high
ascends_room low high [] h a = omega arith
ascends_room low high (e ∷ es) h a = omega (arith, a.0, ascends_room (suc e) high es a.1 a.2)

-- ---- one step by each kind
pub open_by : (n c : ℕ) → n ≤ most → 1 ≤ c → c ≤ 2 ^ n → opened (First n c) ≡ pointing n (c - 1) [] 0
open_by n c a b d = rw (le-leb n most a, le-leb 1 c b, le-leb c (2 ^ n) d)

pub point_by : (n m : ℕ) (pts : List ℕ) (low e : ℕ) → low ≤ e → e + m < 2 ^ n
    → pointed n m pts low (Point e) ≡ went n m (pts ++ (e ∷ [])) e
point_by n m pts low e a b = rw (le-leb low e a, lt-ltb (e + m) (2 ^ n) b)

pub link_by : (n : ℕ) (pts ks : List ℕ) (low i j : ℕ) → low ≤ i * 256 + j → i < j → j < length pts
    → linked n pts ks low (Contact i j) ≡ linking n pts (ks ++ ((i * 256 + j) ∷ [])) (suc (i * 256 + j))
link_by n pts ks low i j a b c = rw (le-leb low (i * 256 + j) a, lt-ltb i j b, lt-ltb j (length pts) c)

pub last_by : (n : ℕ) (pts ks : List ℕ) (low c : ℕ) → c ≡ 1 + (length pts + length ks)
    → linked n pts ks low (Last c) ≡ whole (record { names = n; points = pts; contacts = ks })
last_by n pts ks low c h = rw (eq-eqb c (1 + (length pts + length ks)) h)

-- ---- runs
pub run_append : (s : State) (xs ys : List ℕ) → run s (xs ++ ys) ≡ run (run s xs) ys
unfolding run
run_append s [] ys = refl
run_append s (x ∷ xs) ys = run_append (step s (kind_of x)) xs ys

run_cons : (s t : State) (w : ℕ) (k : Word) (ws : List ℕ) → kind_of w ≡ k → step s k ≡ t → run s (w ∷ ws) ≡ run t ws
unfolding run
run_cons s t w k ws a b = ap (λ (x : State). run x ws) (ap (step s) a ∙ b)

-- the points, of which there is one at least
run_points : (n : ℕ) → n ≤ most → (low : ℕ) (pts : List ℕ) (e : ℕ) (es ws : List ℕ) → Ascends low (2 ^ n) (e ∷ es)
    → run (pointing n (length es) pts low) (map point_word (e ∷ es) ++ ws) ≡ run (linking n (pts ++ (e ∷ es)) [] 0) ws
run_points n few low pts e [] ws a =
    run_cons _ _ (point_word e) (Point e) ws (point_kind e (omega (arith, a.1, pow_mono few)))
    (point_by n 0 pts low e a.0 (omega (arith, a.1)))
run_points n few low pts e (f ∷ fs) ws a =
    run_cons _ _ (point_word e) (Point e) (map point_word (f ∷ fs) ++ ws) (point_kind e (omega (arith, a.1, pow_mono few)))
    (point_by n (suc (length fs)) pts low e a.0 (omega (arith, ascends_room (suc e) (2 ^ n) (f ∷ fs) a.1 a.2)))
    ∙ run_points n few (suc e) (pts ++ (e ∷ [])) f fs ws a.2
    ∙ ap (λ (l : List ℕ). run (linking n l [] 0) ws) (append_assoc pts (e ∷ []) (f ∷ fs))

-- the least contact that may come after these
abbrev after : ℕ → List ℕ → ℕ
after low [] = low
after low (k ∷ ks) = after (suc k) ks

run_links : (n : ℕ) (pts : List ℕ) → length pts ≤ most_points → (low : ℕ) (js ks ws : List ℕ) → Rises low (length pts) ks
    → run (linking n pts js low) (map contact_word ks ++ ws) ≡ run (linking n pts (js ++ ks) (after low ks)) ws
run_links n pts few low js [] ws r = ap (λ (l : List ℕ). run (linking n pts l low) ws) (sym (append-nil js))
run_links n pts few low js (k ∷ ks) ws r =
    let back : k / 256 * 256 + k % 256 ≡ k = omega arith in
    let a = r.0 in
    let b = r.1 in
    let c = r.2 in
    run_cons _ _ (contact_word k) (Contact (k / 256) (k % 256)) (map contact_word ks ++ ws) (contact_kind k (omega arith))
    (link_by n pts js low (k / 256) (k % 256) (omega arith) b c
    ∙ ap (λ (x : ℕ). linking n pts (js ++ (x ∷ [])) (suc x)) back)
    ∙ run_links n pts few (suc k) (js ++ (k ∷ [])) ks ws r.3
    ∙ ap (λ (l : List ℕ). run (linking n pts l (after (suc k) ks)) ws) (append_assoc js (k ∷ []) ks)

-- how many contacts there can be
rises_room : (low n : ℕ) (ks : List ℕ) → n ≤ most_points → low ≤ 65536 → Rises low n ks → low + length ks ≤ 65536
rises_room low n [] f h r = omega arith
rises_room low n (k ∷ ks) f h r =
    let b = r.1 in
    let c = r.2 in
    omega (arith, r.0, rises_room (suc k) n ks f (omega arith) r.3)

pub before_length : (p : Plan) → length (before p) ≡ 1 + (length p.points + length p.contacts)
unfolding before
before_length p =
    omega (
      arith,
      length-append (map point_word p.points) (map contact_word p.contacts),
      length-map
          p.points point_word,
      length-map p.contacts contact_word,
    )

spelt : (d : Plan)
    → words_of d ≡ first_word d.names (length d.points) ∷
    (map point_word d.points ++ (map contact_word d.contacts ++ (last_word (length (before d)) ∷ [])))
unfolding before words_of
spelt d =
    ap (λ (l : List ℕ). first_word d.names (length d.points) ∷ l)
    (append_assoc (map point_word d.points) (map contact_word d.contacts) (last_word (length (before d)) ∷ []))

end : (s : State) → run s [] ≡ s
unfolding run
end s = refl

-- a plan's words lead to the plan
run_whole : (n : ℕ) (pts ks : List ℕ) → IsPlan (record { names = n; points = pts; contacts = ks })
    → run start (words_of (record { names = n; points = pts; contacts = ks })) ≡ whole
    (record { names = n; points = pts; contacts = ks })
run_whole n [] ks p = absurd (omega (arith, p.some))
run_whole n (e ∷ es) ks p = shown
  where
    d : Plan
    d = record { names = n; points = e ∷ es; contacts = ks }

    few : 2 ^ n ≤ most_points
    few = pow_mono p.few

    size : length (e ∷ es) ≤ 2 ^ n
    size = omega (arith, ascends_room 0 (2 ^ n) (e ∷ es) (omega arith) p.ascend)

    less : suc (length es) - 1 ≡ length es
    less = omega arith

    tail : List ℕ
    tail = last_word (length (before d)) ∷ []

    shown : run start (words_of d) ≡ whole d
    shown =
        ap (run start) (spelt d)
        ∙ run_cons start (pointing n (length es) [] 0) (first_word n (suc (length es))) (First n (suc (length es)))
        (map point_word (e ∷ es) ++ (map contact_word ks ++ tail))
        (first_kind n (suc (length es)) p.few size)
        (open_by n (suc (length es)) p.few (omega arith) size ∙ ap (λ (x : ℕ). pointing n x [] 0) less)
        ∙ run_points n p.few 0 [] e es (map contact_word ks ++ tail) p.ascend
        ∙ run_links n (e ∷ es) (omega (arith, size, few)) 0 [] ks tail p.rise
        ∙ run_cons (linking n (e ∷ es) ks (after 0 ks)) (whole d) (last_word (length (before d))) (Last (length (before d))) []
        (last_kind (length (before d))
        (omega (
          arith,
          before_length d,
          size,
          few,
          rises_room 0 (length (e ∷ es)) ks (omega (arith, size, few)) (omega arith)
              p.rise,
        )))
        (last_by n (e ∷ es) ks (after 0 ks) (length (before d)) (before_length d))
        ∙ end (whole d)

pub complete : (p : Plan) → IsPlan p → run start (words_of p) ≡ whole p
complete p h = run_whole p.names p.points p.contacts h
