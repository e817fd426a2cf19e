-- Plans of up to six names keep their words, and a first word whose names are not those of its kind begins no plan. Assumes nothing.
use mathlib.Core.Path.{◌≡◌, sym, ap, ◌∙◌}
use mathlib.Core.List.{List, [], ◌∷◌, ◌++◌, map}
use mathlib.Core.Logic.{◌⊎◌, ⊎_elim}
use Prim.Native.Nat.{ℕ, suc, ◌*◌, ◌+◌, ◌%◌, ◌/◌, ◌≤◌, ◌<◌}
use native.Mathlib.Omega.{arith}
use lib.ListN.{length}
use Rattle.plan.specs.declared.Word.TheVariants.{Other}
use Rattle.plan.specs.declared.Word.{Word}
use Rattle.plan.specs.Words.{Plan, IsPlan, short_first, long_first, point_word, contact_word, last_word, before, words_of}
use Rattle.plan.specs.Short.{short_before, short_words}
use Rattle.plan.specs.Reader.{kind_of, opened, plan, refused, unless, read_from, read_of}
use Rattle.plan.proofs.Spelling.{short_is, no_first, low_long, high_long}
use Rattle.plan.proofs.Exact.{plan_read}

pub short_words_lem : (p : Plan) → p.names ≤ 6 → words_of p ≡ short_words p
unfolding before words_of short_before short_words
short_words_lem p h =
    let rest = map point_word p.points ++ map contact_word p.contacts in
    ap (λ (w : ℕ). (w ∷ rest) ++ (last_word (length (w ∷ rest)) ∷ [])) (short_is p.names (length p.points) h)

pub short_read : (p : Plan) → IsPlan p → p.names ≤ 6 → read_of (short_words p) ≡ plan p
short_read p h few = sym (ap read_of (short_words_lem p few)) ∙ plan_read p h

-- a first word of no kind
no_plan : (w : ℕ) (ws : List ℕ) → kind_of w ≡ Other → read_of (w ∷ ws) ≡ refused 0
unfolding read_of read_from
no_plan w ws e = ap (λ (k : Word). unless (opened k) 0 (read_from (suc 0) (opened k) ws)) e

pub short_many : (n c : ℕ) (ws : List ℕ) → 6 < n → n < 256 → c < 256 → read_of (short_first n c ∷ ws) ≡ refused 0
short_many n c ws many top small =
    let w = short_first n c in
    let r : w % 0x10000000 ≡ n * 256 + c = omega arith in
    no_plan w ws (no_first w (omega arith) (omega arith))

pub long_other : (n c : ℕ) (ws : List ℕ) → (n ≤ 6) ⊎ (8 < n) → n < 4096 → c < 65536 → read_of (long_first n c ∷ ws) ≡ refused 0
long_other n c ws names top small =
    let w = long_first n c in
    let r : w % 0x10000000 ≡ n * 65536 + c = omega arith in
    let k : w / 0x10000000 ≡ 8 = omega arith in
    ⊎_elim (λ h. no_plan w ws (low_long w k (omega arith))) (λ h. no_plan w ws (high_long w k (omega arith))) names
