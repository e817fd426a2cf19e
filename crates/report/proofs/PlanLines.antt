-- Word by word the lines of a plan's words are its text: a word's kind and its other bits say what was put into it. Assumes nothing.
use mathlib.Core.Path.{◌≡◌, refl, sym, ap, ap₂, ◌∙◌}
use mathlib.Core.Bool.{Bool, cond}
use mathlib.Core.Logic.{⊎_elim}
use mathlib.Core.List.{List, [], ◌∷◌, ◌++◌, map, append-nil, append_assoc}
use Prim.Native.Nat.{ℕ, suc, ◌+◌, ◌-◌, ◌*◌, ◌/◌, ◌%◌, ◌^◌, ◌≤◌, ◌<◌}
use native.Mathlib.Omega.{arith}
use lib.ListN.{length, get_or, drop, length-append, length-map}
use lib.Pow.{pow_mono}
use borrow.Author.Tests.{ne_eqb, le-leb, lt-leb}
use Rattle.formula.specs.Formula.{Name}
use Rattle.lists.specs.Search.{collect, from}
use Rattle.lists.proofs.Truth.{side}
use Rattle.plan.specs.Words.{Plan, IsPlan, Ascends, Rises, short_first, long_first, first_word, point_word, contact_word, last_word, before, words_of}
use Rattle.plan.proofs.Complete.{before_length}
use Rattle.report.specs.Lines.{head_line, point_line, point_lines, contact_line, plan_text}
use Rattle.report.specs.Pieces.{kind_line, plan_line, plan_line_at, lines_from}
use Rattle.report.proofs.Pieces.{first_there, behind_it, behind_part, lines_more}

module _ (names : List Name) where
  -- ---- one word

  pub by_kind : (i kind k body : ℕ) → kind ≡ k → kind_line names i k body ≡ kind_line names i kind body
  by_kind i kind k body e = sym (ap (λ (x : ℕ). kind_line names i x body) e)

  pub no_line : (i kind body : ℕ) → (kind ≡ 1 → ⊥) → (kind ≡ 8 → ⊥) → (kind ≡ 2 → ⊥) → (kind ≡ 3 → ⊥) → [] ≡ kind_line names i kind body
  no_line i kind body a b d e = rw (ne_eqb kind 1 a, ne_eqb kind 8 b, ne_eqb kind 2 d, ne_eqb kind 3 e)

  -- the line of the word that is made of a kind and other bits
  made : (i w kind body : ℕ) → w ≡ kind * 0x10000000 + body → body < 0x10000000 → plan_line names i w ≡ kind_line names i kind body
  unfolding plan_line
  made i w kind body e h =
      let k : w / 0x10000000 ≡ kind = omega arith in
      let b : w % 0x10000000 ≡ body = omega arith in
      ap₂ (kind_line names i) k b

  first_said : (n count : ℕ) → n ≤ 8 → count ≤ 255 → plan_line names 0 (first_word n count) ≡ head_line n count
  first_said n count h few = ⊎_elim long short (side 6 n)
    where
      short : n ≤ 6 → plan_line names 0 (first_word n count) ≡ head_line n count
      short l =
          let a : (n * 256 + count) / 256 ≡ n = omega arith in
          let b : (n * 256 + count) % 256 ≡ count = omega arith in
          ap (λ (x : Bool). plan_line names 0 (cond x (short_first n count) (long_first n count))) (le-leb n 6 l)
          ∙ made 0 (short_first n count) 1 (n * 256 + count) refl (omega arith) ∙ ap₂ head_line a b

      long : 6 < n → plan_line names 0 (first_word n count) ≡ head_line n count
      long l =
          let a : (n * 65536 + count) / 65536 ≡ n = omega arith in
          let b : (n * 65536 + count) % 65536 ≡ count = omega arith in
          ap (λ (x : Bool). plan_line names 0 (cond x (short_first n count) (long_first n count))) (lt-leb n 6 l)
          ∙ made 0 (long_first n count) 8 (n * 65536 + count) refl (omega arith) ∙ ap₂ head_line a b

  point_said : (i e : ℕ) → e < 256 → plan_line names (suc i) (point_word e) ≡ point_line names i e
  point_said i e h =
      let a : suc i - 1 ≡ i = omega arith in
      let b : e % 256 ≡ e = omega arith in
      made (suc i) (point_word e) 2 e refl (omega arith) ∙ ap₂ (point_line names) a b

  -- ---- where they stand

  module _ (words : List ℕ) where
    abbrev lines : ℕ → ℕ → List ℕ
    lines at n = lines_from (plan_line_at names words) at n

    line_there : {w : ℕ} {ws text : List ℕ} (at : ℕ) → drop at words ≡ w ∷ ws → plan_line names at w ≡ text → plan_line_at names words at ≡ text
    unfolding plan_line_at
    line_there at e s = ap (plan_line names at) (first_there words at e) ∙ s

    points_lines : (all points : List ℕ) (i low high : ℕ) (later : List ℕ) → high ≤ 256 → Ascends low high points → drop i all ≡ points
        → drop (suc i) words ≡ map point_word points ++ later
        → lines (suc i) (length points) ≡ collect (λ j. point_line names j (get_or all j 0)) (from i (length points))
    unfolding lines_from
    points_lines all [] i low high later h a d e = refl
    points_lines all (x ∷ points) i low high later h a d e =
        ap₂ (λ (xs ys : List ℕ). xs ++ ys)
        (line_there (suc i) e (point_said i x (omega (arith, a.1))) ∙ ap (point_line names i) (sym (first_there all i d)))
        (points_lines all points (suc i) (suc x) high later h a.2 (behind_it all i d) (behind_it words (suc i) e))

    contact_lines : (contacts : List ℕ) (at low n : ℕ) (later : List ℕ) → n ≤ 256 → Rises low n contacts → drop at words ≡ map contact_word contacts ++ later
        → lines at (length contacts) ≡ collect contact_line contacts
    unfolding lines_from
    contact_lines [] at low n later h r e = refl
    contact_lines (k ∷ contacts) at low n later h r e =
        ap₂ (λ (xs ys : List ℕ). xs ++ ys)
        (line_there at e (made at (contact_word k) 3 k refl (omega (arith, r.1, r.2))))
        (contact_lines contacts (suc at) (suc k) n later h r.3 (behind_it words at e))

    pub plan_lines : (p : Plan) → IsPlan p → length p.points ≤ 255 → length (words_of p) ≤ 32642 → (later : List ℕ) → words ≡ words_of p ++ later
        → lines 0 (length (words_of p)) ≡ plan_text names p
    unfolding lines_from words_of before plan_text point_lines
    plan_lines p is few short later e =
        let points = map point_word p.points in
        let contacts = map contact_word p.contacts in
        let last = last_word (length (before p)) ∷ [] in
        let m = length p.points in
        let k = length p.contacts in
        let size : length (words_of p) ≡ suc (m + (k + 1)) = omega (arith, before_length p, length-append (before p) last) in
        let start : drop 0 words ≡ first_word p.names m ∷ (((points ++ contacts) ++ last) ++ later) = e in
        let behind = behind_it words 0 start in
        let parts = behind ∙ append_assoc (points ++ contacts) last later in
        let high : 2 ^ p.names ≤ 2 ^ 8 = pow_mono {i = p.names} {j = 8} is.few in
        ap (lines 0) size
        ∙ ap₂ (λ (xs ys : List ℕ). xs ++ ys) (line_there 0 start (first_said p.names m is.few few))
        (lines_more (plan_line_at names words) 1 m (k + 1)
        ∙ ap₂ (λ (xs ys : List ℕ). xs ++ ys)
        (points_lines p.points p.points 0 0 (2 ^ p.names) (contacts ++ (last ++ later)) high is.ascend refl (parts ∙ append_assoc points contacts (last ++ later)))
        (lines_more (plan_line_at names words) (1 + m) k 1
        ∙ ap₂ (λ (xs ys : List ℕ). xs ++ ys)
        (contact_lines p.contacts (1 + m) 0 m (last ++ later) (omega arith) is.rise
        (behind_part words 1 m points contacts (last ++ later) parts (sym (length-map p.points point_word))))
        (ap (λ (xs : List ℕ). xs ++ []) (line_there (1 + m + k)
        (ap (λ (n : ℕ). drop n words) (let z : 1 + m + k ≡ 1 + (m + k) = omega arith in z)
        ∙ behind_part words 1 (m + k) (points ++ contacts) last later behind
        (omega (arith, length-append points contacts, length-map p.points point_word, length-map p.contacts contact_word)))
        (made (1 + m + k) (last_word (length (before p))) 4 (length (before p)) refl (omega (arith, before_length p, size)))))
        ∙ append-nil (collect contact_line p.contacts)))
        ∙ sym (append_assoc (head_line p.names m) (point_lines names p.points) (collect contact_line p.contacts))
