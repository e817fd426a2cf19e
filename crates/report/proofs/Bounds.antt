-- A text is at most as long as its parts may be: numbers have few digits, names at most 16 bytes, and a plan that is given few points
-- and contacts. Assumes nothing.
use mathlib.Core.Path.{ap}
use mathlib.Core.Bool.{Bool, true, false, cond}
use mathlib.Core.List.{List, [], ◌∷◌}
use Prim.Native.Nat.{ℕ, suc, ◌+◌, ◌*◌, ◌/◌, ◌%◌, ◌^◌, ◌≤◌, ◌<◌}
use native.Mathlib.Omega.{arith}
use lib.ListN.{length, get_or, length-append}
use Rattle.lists.proofs.Below.{collect_small}
use Rattle.formula.specs.Formula.{Name}
use Rattle.lexer.specs.Text.{bytes}
use Rattle.evalset.specs.Bit.{bit}
use Rattle.lists.specs.Search.{collect, below, or_else}
use Rattle.plan.specs.Words.{Plan, Rises, IsPlan, before, last_word, words_of}
use Rattle.plan.proofs.Complete.{before_length}
use Rattle.plan.proofs.SamePlan.{in_rises}
use Rattle.lists.proofs.Search.{collect_few, from_length, below_elim}
use Rattle.report.specs.Lines.{head_line, blanked, name_if, point_names, names_or_none, point_line, point_lines, contact_line, plan_text, refused_text}
use Rattle.report.proofs.Digits.{decimal_few}
use Rattle.report.proofs.Parts.{names_parts}

-- ---- a plan

-- by the digits of its numbers
pub head_few : (j k names points : ℕ) → names < 10 ^ suc j → points < 10 ^ suc k → length (head_line names points) ≤ 22 + (j + k)
unfolding head_line
head_few j k names points h l = simp length-append (omega (arith, decimal_few j names h, decimal_few k points l))

module _ (names : List Name) (few : length names ≤ 8) (short : (i : ℕ) → length (get_or names i []) ≤ 16) where
  name_few : (e i : ℕ) → length (collect blanked (name_if names e i)) ≤ 17
  name_few e i = go (bit e i)
    where
      go : (b : Bool) → length (collect blanked (cond b (get_or names i [] ∷ []) [])) ≤ 17
      go true = omega (arith, length-append (blanked (get_or names i [])) [], short i)
      go false = omega arith

  names_few : (e : ℕ) → length (collect blanked (names_or_none names e)) ≤ 136
  unfolding names_or_none
  names_few e =
      go (point_names names e)
      (omega (arith, ap length (names_parts names e), collect_small (λ i. collect blanked (name_if names e i)) 17 (name_few e) 0 (length names)))
    where
      go : (words : List Name) → length (collect blanked words) ≤ 136 → length (collect blanked (or_else words (bytes "-" ∷ []))) ≤ 136
      go [] h = omega arith
      go (w ∷ ws) h = h

  point_few : (i e : ℕ) → i < 256 → length (point_line names i e) ≤ 147
  unfolding point_line
  point_few i e h = simp length-append (omega (arith, decimal_few 2 i (omega arith), names_few e))

  points_few : (points : List ℕ) → length points ≤ 256 → length (point_lines names points) ≤ length points * 147
  unfolding point_lines
  points_few points h =
      let f : ℕ → List ℕ = λ i. point_line names i (get_or points i 0) in
      omega (
        arith,
        from_length 0 (length points),
        collect_few f 147 (below (length points)) (λ i at. point_few i (get_or points i 0) (omega (arith, below_elim (length points) i at))),
      )

-- by the digits of the first position
pub contact_few : (j k : ℕ) → k / 256 < 10 ^ suc j → length (contact_line k) ≤ 14 + j
unfolding contact_line
contact_few j k h = simp length-append (omega (arith, decimal_few j (k / 256) h, decimal_few 2 (k % 256) (omega arith)))

contacts_few : (low n : ℕ) (ks : List ℕ) → n ≤ 256 → Rises low n ks → length (collect contact_line ks) ≤ length ks * 16
contacts_few low n ks h r = collect_few contact_line 16 ks (λ k i. let w = in_rises k low n ks r i in contact_few 2 k (omega (arith, w.1, w.2)))

-- a plan of at most n points and so many contacts
pub plan_few : (names : List Name) → length names ≤ 8 → ((i : ℕ) → length (get_or names i []) ≤ 16) → (p : Plan) → IsPlan p
    → (n contacts : ℕ) → n ≤ 256 → length p.points ≤ n → length (words_of p) ≤ 2 + n + contacts → length (plan_text names p) ≤ 24 + n * 147 + contacts * 16
unfolding plan_text words_of
plan_few names few short p is n contacts room points words =
    let small : length p.points ≤ 256 = omega arith in
    simp length-append
    (omega (
      arith,
      head_few 0 2 p.names (length p.points) (omega (arith, is.few)) (omega arith),
      points_few names few short p.points small,
      contacts_few 0 (length p.points) p.contacts small is.rise,
      before_length p,
      length-append (before p) (last_word (length (before p)) ∷ []),
    ))

-- ---- a refusal

pub refused_few : (number line place : ℕ) → number < 2 ^ 64 → line < 2 ^ 64 → place < 2 ^ 64 → length (refused_text number line place) ≤ 79
unfolding refused_text
refused_few number line place a b d =
    simp length-append
    (omega (arith, decimal_few 19 number (omega arith), decimal_few 19 line (omega arith), decimal_few 19 place (omega arith)))
