-- The two lines of a remark: the place lies within what is shown of its line, so that the caret is under it; and no remark is long.
-- Assumes nothing.
use Rattle.std.specs.Prelude.{Option, Some, None}
use mathlib.Core.Path.{◌≡◌, refl, sym, ap, ap₂, ◌∙◌}
use mathlib.Core.Bool.{Bool, true, false, cond}
use mathlib.Core.List.{List, [], ◌∷◌, ◌++◌, map, append_assoc, map-append, nil≢cons}
use Prim.Native.Nat.{ℕ, ◌+◌, ◌-◌, ◌^◌, min, ◌≤◌, ◌<◌}
use native.Mathlib.Omega.{arith}
use lib.Dec.{ltb, leb, eqb}
use lib.ListN.{length, take, drop, replicate, length-append, length-map, length-take, length-drop, length-replicate}
use lib.Seq.{take-add, drop-drop, length-take-le}
use borrow.Author.Tests.{ltb-false}
use Rattle.lists.specs.Search.{collect, first}
use Rattle.lists.proofs.Truth.{cases, cond_holds}
use Rattle.lexer.specs.Cutting.{Every}
use Rattle.report.specs.Lines.{labelled}
use Rattle.lexer.specs.Text.{bytes, byte}
use Rattle.table.specs.Sheet.{Text}
use Rattle.remarks.specs.declared.Expected.{Expected}
use Rattle.remarks.specs.Remark.{shown_byte, dots, shown_part, shown_from, leading, named, about, expected_at, grammar_sentence, Sentence, sentences, sentence, said, two_lines, Under}
use Rattle.remarks.proofs.Parts.{digits_few}

-- ---- the caret

module _ (line : Text) (place : ℕ) (h : place ≤ length line) where
  abbrev start : ℕ
  start = shown_from line place

  near : (start ≤ place) × (place ≤ start + 72) × (place < length line → place < start + 72)
  unfolding shown_from
  near = cases (ltb 72 (length line)) (λ e. rw e (omega arith, omega arith, λ l. omega arith))
      (λ e. let short = ltb-false 72 (length line) e in rw e (omega arith, omega arith, λ l. omega arith))

  -- what is shown, before the place and from it on
  parted : map shown_byte (take 72 (drop start line)) ≡ map shown_byte (take (place - start) (drop start line)) ++ map shown_byte (take (start + 72 - place) (drop place line))
  parted =
      let k = place - start in
      let e : 72 ≡ k + (start + 72 - place) = omega (arith, near) in
      let f : start + k ≡ place = omega (arith, near) in
      ap (map shown_byte)
      (ap (λ (n : ℕ). take n (drop start line)) e ∙ take-add k (start + 72 - place) (drop start line)
      ∙ ap (λ (l : List ℕ). take k (drop start line) ++ take (start + 72 - place) l) (drop-drop k start line ∙ ap (λ (n : ℕ). drop n line) f))
      ∙ map-append shown_byte (take k (drop start line)) (take (start + 72 - place) (drop place line))

  before_length : length (map shown_byte (take (place - start) (drop start line))) ≡ place - start
  before_length =
      length-map (take (place - start) (drop start line)) shown_byte
      ∙ length-take-le (place - start) (drop start line) (omega (arith, length-drop start line))

  pub under : (number refusal : ℕ) (words : List ℕ) → Under number line place (said refusal words) (two_lines number line place refusal words)
  unfolding two_lines shown_part
  under number refusal words =
      let at : min place (length line) ≡ place = omega arith in
      let front = leading number start in
      let count : length front + (place - start) ≡ length (front ++ map shown_byte (take (place - start) (drop start line))) =
      omega (arith, length-append front (map shown_byte (take (place - start) (drop start line))), before_length) in
      record {
        from = start;
        shown = (near.0, near.2);
        before = leading number start ++ map shown_byte (take (place - start) (drop start line));
        behind = map shown_byte (take (start + 72 - place) (drop place line)) ++ dots (ltb 72 (length (drop start line)));
        before_is = refl;
        behind_is = refl;
        lines =
            ap (λ (a : ℕ). leading number (shown_from line a) ++ (map shown_byte (take 72 (drop (shown_from line a) line)) ++ dots (ltb 72 (length (drop (shown_from line a) line))) ++ bytes "\n") ++ replicate (length (leading number (shown_from line a)) + (a - shown_from line a)) (byte " ") ++ said refusal words) at
            ∙ ap₂ (λ (l : List ℕ) (n : ℕ). front ++ (l ++ dots (ltb 72 (length (drop start line))) ++ bytes "\n") ++ replicate n (byte " ") ++ said refusal words) parted count
            ∙ simp append_assoc;
      }

-- ---- no remark is long, and each has some bytes

-- two lines are some bytes
pub some_bytes : (number : ℕ) (line : Text) (place refusal : ℕ) (words : List ℕ) → two_lines number line place refusal words ≡ [] → ⊥
unfolding two_lines leading
some_bytes number line place refusal words e = nil≢cons (sym e)

pub leading_few : (number from : ℕ) → number < 2 ^ 64 → length (leading number from) ≤ 29
unfolding leading
leading_few number from h = go (ltb 0 from)
  where
    go : (cut : Bool) → length (labelled (bytes "line ") number ++ bytes ": " ++ dots cut) ≤ 29
    go true = simp length-append (omega (arith, digits_few number h))
    go false = simp length-append (omega (arith, digits_few number h))

part_few : (rest : Text) → length (shown_part rest) ≤ 75
unfolding shown_part
part_few rest = go (ltb 72 (length rest))
  where
    go : (cut : Bool) → length (map shown_byte (take 72 rest) ++ dots cut ++ bytes "\n") ≤ 75
    go true = simp length-append (omega (arith, length-map (take 72 rest) shown_byte, length-take 72 rest))
    go false = simp length-append (omega (arith, length-map (take 72 rest) shown_byte, length-take 72 rest))

about_few : (o : Option Expected) (tail : List ℕ) → length (about o tail) ≤ 24 + length tail
about_few None tail = omega arith
about_few (Some e) tail = omega (arith, length-append (named e) tail, named_few e)
  where
    named_few : (x : Expected) → length (named x) ≤ 24
    named_few Expected.Formula = omega arith
    named_few Expected.Region = omega arith
    named_few Expected.Opening = omega arith
    named_few Expected.Comma = omega arith
    named_few Expected.Closing = omega arith
    named_few Expected.Zero = omega arith
    named_few Expected.Sign = omega arith

grammar_few : (text : Text) (place : ℕ) → length (grammar_sentence text place) ≤ 96
unfolding grammar_sentence
grammar_few text place =
    cond_holds (λ (l : List ℕ). length l ≤ 96) (leb (length text) place) _ _
    (omega (arith, about_few (expected_at text place) (bytes " is missing here")))
    (omega (arith, about_few (expected_at text place) (bytes " is expected")))

-- each of some sentences is short
found_few : (p : Sentence → Bool) (ss : List Sentence) → Every (λ (s : Sentence). length s.words ≤ 96) ss
    → length (collect (λ (s : Sentence). s.words) (first p ss)) ≤ 96
found_few p [] short = omega arith
found_few p (s ∷ ss) short = go (p s) (found_few p ss short.1)
  where
    go : (b : Bool) → length (collect (λ (x : Sentence). x.words) (first p ss)) ≤ 96
        → length (collect (λ (x : Sentence). x.words) (cond b (s ∷ []) (first p ss))) ≤ 96
    go true h = omega (arith, short.0, length-append s.words [])
    go false h = h

pub sentence_few : (refusal : ℕ) (text : Text) (place : ℕ) → length (sentence refusal text place) ≤ 96
unfolding sentence sentences
sentence_few refusal text place =
    cond_holds (λ (l : List ℕ). length l ≤ 96) (eqb refusal 6) _ _ (grammar_few text place)
    (found_few (λ (s : Sentence). eqb refusal s.number) sentences
    (omega arith, (omega arith, (omega arith, (omega arith, (omega arith, (omega arith, (omega arith, (omega arith, (omega arith, (omega arith, (omega arith, tt))))))))))))

pub lines_few : (number : ℕ) (line : Text) (place refusal : ℕ) (words : List ℕ) → number < 2 ^ 64 → refusal < 2 ^ 64 → length words ≤ 96
    → length (two_lines number line place refusal words) ≤ 335
unfolding two_lines said
lines_few number line place refusal words h k few =
    let at = min place (length line) in
    let from = shown_from line at in
    let gap = length (leading number from) + (at - from) in
    simp length-append
    (omega (arith, leading_few number from h, part_few (drop from line), near line at (omega arith), length-replicate {A = ℕ} gap (byte " "), few, digits_few refusal k))
