-- Pieces of lines, one after the other, are the whole, whatever the lines are, and lines that are short enough are one piece. Also: what stands
-- in a list from an index on. Assumes nothing.
use mathlib.Core.Path.{◌≡◌, refl, sym, ap, ap₂, ◌∙◌, subst}
use mathlib.Core.Bool.{Bool, cond}
use mathlib.Core.Logic.{⊎_elim}
use mathlib.Core.List.{List, [], ◌∷◌, ◌++◌, append-nil, append_assoc, nil≢cons, head-eq_of_cons-eq, tail-eq_of_cons-eq}
use Prim.Native.Nat.{ℕ, zero, suc, ◌+◌, ◌-◌, ◌≤◌, ◌<◌}
use native.Mathlib.Omega.{arith}
use lib.Dec.{ltb}
use lib.ListN.{length, get_or, take, drop, length-append}
use borrow.Author.Tests.{lt-ltb, le-ltb}
use lib.Seq.{drop-drop, drop_at, take-append_seam}
use Rattle.lists.specs.Search.{collect, from}
use Rattle.lists.proofs.Search.{collect_append, from_append}
use Rattle.lists.proofs.Truth.{side}
use Rattle.lists.specs.Buffer.{over}
use Rattle.lists.specs.Putting.{Puts}
use Rattle.report.specs.declared.Piece.{Piece}
use Rattle.report.specs.declared.TextAnswer.{TextAnswer}
use Rattle.report.specs.Pieces.{lines_from, fitting, piece_lines, Answers, GivesPiece, Pieces}
use Rattle.report.specs.Putting.{Reports}
use Rattle.report.proofs.Putting.{puts_over}

-- the first of what stands from an index on, and what stands behind it
pub first_there : {x : ℕ} {later : List ℕ} (xs : List ℕ) (at : ℕ) → drop at xs ≡ x ∷ later → get_or xs at 0 ≡ x
first_there [] zero e = absurd (nil≢cons e)
first_there [] (suc at) e = absurd (nil≢cons e)
first_there (y ∷ xs) zero e = head-eq_of_cons-eq e
first_there (y ∷ xs) (suc at) e = first_there xs at e

pub behind_it : {x : ℕ} {later : List ℕ} (xs : List ℕ) (at : ℕ) → drop at xs ≡ x ∷ later → drop (suc at) xs ≡ later
behind_it [] zero e = absurd (nil≢cons e)
behind_it [] (suc at) e = absurd (nil≢cons e)
behind_it (y ∷ xs) zero e = tail-eq_of_cons-eq e
behind_it (y ∷ xs) (suc at) e = behind_it xs at e

-- of two parts that stand there, the second stands behind the first
pub behind_part : (xs : List ℕ) (at n : ℕ) (a b later : List ℕ) → drop at xs ≡ (a ++ b) ++ later → n ≡ length a → drop (at + n) xs ≡ b ++ later
behind_part xs at n a b later e l = sym (drop-drop n at xs) ∙ ap (drop n) (e ∙ append_assoc a b later) ∙ drop_at a (b ++ later) n (sym l)

-- ---- lines

module _ (line : ℕ → List ℕ) where
  pub lines_more : (at m n : ℕ) → lines_from line at (m + n) ≡ lines_from line at m ++ lines_from line (at + m) n
  unfolding lines_from
  lines_more at m n = ap (collect line) (from_append at m n) ∙ collect_append line (from at m) (from (at + m) n)

  pub joined : {count : ℕ} (at : ℕ) (pieces : List (List ℕ)) → Pieces line count at pieces → at ≤ count → collect (λ p. p) pieces ≡ lines_from line at (count - at)
  unfolding lines_from over
  joined {count} at pieces (Pieces.none l) h =
      let z : 0 ≡ count - at = omega arith in
      ap (lines_from line at) z
  joined {count} at pieces (Pieces.more {buffer = buffer} {exit = exit} {r = r} {pieces = later} l g p) h =
      let w = g.within h in
      let n = piece_lines line count at in
      let z : n + (count - r.next) ≡ count - at = omega (arith, g.next, w) in
      ap₂ (λ (x y : List ℕ). x ++ y)
      (ap (take r.len) g.reports.bytes ∙ ap (λ (k : ℕ). take k (over (lines_from line at n) buffer)) g.reports.counted ∙ take-append_seam (lines_from line at n) _)
      (joined r.next later p w ∙ ap (λ (k : ℕ). lines_from line k (count - r.next)) g.next)
      ∙ sym (lines_more at n (count - r.next)) ∙ ap (lines_from line at) z

  pub lines_none : (at : ℕ) → [] ≡ lines_from line at (at - at)
  unfolding lines_from
  lines_none at = let z : 0 ≡ at - at = omega arith in ap (lines_from line at) z

  -- one line more
  pub lines_next : (at next : ℕ) → at ≤ next → lines_from line at (next - at) ++ line next ≡ lines_from line at (next + 1 - at)
  unfolding lines_from
  lines_next at next h =
      let here : at + (next - at) ≡ next = omega arith in
      let more : next - at + 1 ≡ next + 1 - at = omega arith in
      ap (λ (xs : List ℕ). lines_from line at (next - at) ++ xs) (sym (append-nil (line next)) ∙ ap (λ (x : ℕ). lines_from line x 1) (sym here))
      ∙ sym (lines_more at (next - at) 1) ∙ ap (lines_from line at) more

  -- the lines of a piece that are put, and those that fit behind them
  abbrev pub Fits : ℕ → ℕ → ℕ → ℕ → Type 0
  Fits count from next end = piece_lines line count from ≡ next - from + fitting line (count - next) next end

  pub fits_begin : (count from : ℕ) → Fits count from from 0
  unfolding piece_lines
  fits_begin count from = omega arith

  module _ (count from next end : ℕ) (f : Fits count from next end) where
    -- none fits where none is left, or where the room is used up
    pub fits_all : count ≤ next → piece_lines line count from ≡ next - from
    fits_all h =
        let z : count - next ≡ 0 = omega arith in
        let none : fitting line (count - next) next end ≡ 0 = ap (λ (left : ℕ). fitting line left next end) z in
        omega (arith, f, none)

    module _ (h : next < count) where
      step : fitting line (count - next) next end ≡ cond (ltb 15360 end) 0 (suc (fitting line (count - suc next) (suc next) (end + length (line next))))
      step = let z : count - next ≡ suc (count - suc next) = omega arith in ap (λ (left : ℕ). fitting line left next end) z

      pub fits_full : 15360 < end → piece_lines line count from ≡ next - from
      fits_full full =
          let none : fitting line (count - next) next end ≡ 0 = step ∙ ap (λ (b : Bool). cond b 0 (suc (fitting line (count - suc next) (suc next) (end + length (line next))))) (lt-ltb 15360 end full) in
          omega (arith, f, none)

      -- otherwise one more does
      pub fits_next : {mid exit : List ℕ} {last : ℕ} → from ≤ next → end ≤ 15360 → Puts end (line next) mid exit last → Fits count from (next + 1) last
      fits_next {mid} {exit} {last} up room puts =
          let more = fitting line (count - suc next) (suc next) (end + length (line next)) in
          let y : suc next ≡ next + 1 = omega arith in
          let one : fitting line (count - next) next end ≡ suc more = step ∙ ap (λ (b : Bool). cond b 0 (suc more)) (le-ltb 15360 end room) in
          let here : more ≡ fitting line (count - (next + 1)) (next + 1) last = ap₂ (λ (x u : ℕ). fitting line (count - x) x u) y (sym puts.place) in
          omega (arith, f, one, here, up)

  module _ {at next : ℕ} {buffer exit : List ℕ} {end : ℕ} (up : at ≤ next) (puts : Puts 0 (lines_from line at (next - at)) buffer exit end) where
    -- where the room is used up, there is a line
    pub not_empty : 0 < end → next ≤ at → ⊥
    unfolding lines_from
    not_empty full h =
        let z : next - at ≡ 0 = omega arith in
        omega (arith, full, puts.place, ap (λ (n : ℕ). length (lines_from line at n)) z)

    pub gives : (count : ℕ) → piece_lines line count at ≡ next - at → (at ≤ count → next ≤ count) → (next < count → 15360 < end) → (at < count → next ≤ at → ⊥)
        → GivesPiece line count at buffer (record { len = end; next = next }) exit
    gives count these within full forward =
        record {
          next = omega (arith, these, up);
          reports = subst (λ (n : ℕ). Reports (lines_from line at n) buffer end exit) (sym these) (puts_over _ _ _ _ puts);
          within = within;
          full = full;
          forward = λ h. ⊎_elim (λ l. l) (λ l. absurd (forward h l)) (side at next);
        }

  -- where all lines have room in one piece, it is the whole
  pub one_piece : {count : ℕ} {buffer : List ℕ} {r : Piece} {exit : List ℕ} → GivesPiece line count 0 buffer r exit → length (lines_from line 0 count) ≤ 15360
      → Reports (lines_from line 0 count) buffer r.len exit
  one_piece {count} {buffer} {r} {exit} g h =
      let these = piece_lines line count 0 in
      let rest = count - these in
      let w = g.within (omega arith) in
      let all : lines_from line 0 count ≡ lines_from line 0 these ++ lines_from line (0 + these) rest
      = ap (lines_from line 0) (let z : count ≡ these + rest = omega (arith, g.next, w) in z) ∙ lines_more 0 these rest in
      let last : these ≡ count
      = ⊎_elim
      (λ l. absurd (omega (arith, g.full l, g.reports.counted, h, ap length all, length-append (lines_from line 0 these) (lines_from line (0 + these) rest))))
      (λ l. omega (arith, g.next, w))
      (side r.next count) in
      subst (λ (n : ℕ). Reports (lines_from line 0 n) buffer r.len exit) last g.reports

-- ---- what is answered

module _ {text : List ℕ} {line : ℕ → List ℕ} {buffer exit : List ℕ} where
  pub answered_text : (a : TextAnswer) → Answers text line buffer exit a → (n : ℕ) → a ≡ TextAnswer.Text n → Reports text buffer n exit
  answered_text a (Answers.short {n = m} h) n e = let z : m ≡ n = cc in subst (λ (k : ℕ). Reports text buffer k exit) z h
  answered_text a (Answers.lines t k) n e = absurd (let z : ◌≡◌ {A = ℕ} 0 1 = cc in omega arith)

  pub answered_lines : (a : TextAnswer) → Answers text line buffer exit a → (n : ℕ) → a ≡ TextAnswer.Lines n → (lines_from line 0 n ≡ text) × (exit ≡ buffer)
  answered_lines a (Answers.short h) n e = absurd (let z : ◌≡◌ {A = ℕ} 0 1 = cc in omega arith)
  answered_lines a (Answers.lines {n = m} t k) n e =
      let z : n ≡ m = cc in
      (ap (lines_from line 0) z ∙ t, k)

  -- pieces from the first line on
  pub all_joined : {count : ℕ} (pieces : List (List ℕ)) → Answers text line buffer exit (TextAnswer.Lines count) → Pieces line count 0 pieces → collect (λ p. p) pieces ≡ text
  all_joined {count} pieces told p =
      let z : count - 0 ≡ count = omega arith in
      joined line 0 pieces p (omega arith) ∙ ap (lines_from line 0) z ∙ (answered_lines _ told count refl).0
