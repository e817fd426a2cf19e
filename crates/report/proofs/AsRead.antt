-- What print writes is the text of the rule at its place, or there is none, and the lines of all rules have room. Assumes nothing.
use mathlib.Core.Path.{◌≡◌, refl, sym, ap, subst, ◌∙◌}
use mathlib.Core.Logic.{inl, inr}
use mathlib.Core.List.{List, [], ◌∷◌, ◌++◌, map-append, append-nil}
use Prim.Native.Nat.{ℕ, ◌+◌, ◌-◌, ◌*◌, ◌≤◌}
use native.Mathlib.Omega.{arith}
use lib.ListN.{length, take, drop, length-append, length-map, length-take, length-drop, drop_of_length-le}
use lib.Seq.{take-add, drop_at}
use borrow.Rule.Slice.PartMut.{put_mid}
use types.Run.{OneOf, miss}
use denote.Enum.Declared.{tag_of}
use Rattle.formula.specs.Formula.{Formula, Name}
use Rattle.syntax.specs.Rule.{meaning_of}
use Rattle.syntax.specs.RuleText.{IsRule}
use Rattle.syntax.proofs.Claims.{is_rule, text_means}
use Rattle.lists.proofs.Search.{in_take, map_elim, collect_append, collect_few}
use Rattle.lists.specs.Buffer.{over}
use Rattle.lists.specs.Putting.{Puts}
use Rattle.lists.proofs.Putting.{puts_text, part_from, part_is, puts_part}
use Rattle.printing.specs.Text.{text_of}
use Rattle.printing.proofs.Claims.{never_longer}
use Rattle.table.specs.declared.Table.{Table}
use Rattle.table.specs.declared.PrintAnswer.{PrintAnswer}
use Rattle.table.specs.declared.PrintResult.{PrintResult}
use Rattle.table.specs.contracts.PrintAnswer.{the_type}
use Rattle.table.specs.declared.Outcome.{Outcome}
use Rattle.table.specs.Numbers.{print_outcome}
use Rattle.table.specs.Store.{rules_of}
use Rattle.table.specs.Sheet.{Text}
use Rattle.table.specs.Rules.{CanStand}
use Rattle.table.specs.Rows.{IsKth, PrintRow}
use Rattle.table.specs.Calls.{formulas_of, FromUs}
use Rattle.table.specs.Printing.{printed, Prints}
use Rattle.table.proofs.Rules.{can_read}
use Rattle.table.proofs.PrintRows.{bytes_written, bytes_kept}
use Rattle.table.proofs.Claims.{print_answered}
use Rattle.report.specs.Lines.{ended, rule_lines}

-- a case that is another than the first is no text
pub told_no_text : (a : PrintAnswer) → OneOf (1 ∷ 2 ∷ []) (tag_of the_type a) → (n : ℕ) → a ≡ PrintAnswer.Text n → ⊥
told_no_text a h n e = miss (1 ∷ 2 ∷ []) 0 tt (subst (λ (x : PrintAnswer). OneOf (1 ∷ 2 ∷ []) (tag_of the_type x)) e h)

-- the line of the rule at place i, from 0, or nothing
abbrev pub line_at : List Text → ℕ → List ℕ
line_at rs i = rule_lines (formulas_of (take 1 (drop i rs)))

-- the lines before place i
abbrev pub lines_to : List Text → ℕ → List ℕ
lines_to rs i = rule_lines (formulas_of (take i rs))

rule_few : (s : Text) (f : Formula Name) → IsRule s f → length (text_of f) ≤ 256
rule_few s f r = omega (arith, never_longer s f r, r.short)

module _ (rs : List Text) where
  pub lines_next : (i : ℕ) → lines_to rs i ++ line_at rs i ≡ lines_to rs (i + 1)
  unfolding rule_lines
  lines_next i =
      sym
      (ap (λ (l : List Text). rule_lines (formulas_of l)) (take-add i 1 rs) ∙ ap rule_lines (map-append meaning_of (take i rs) (take 1 (drop i rs)))
      ∙ collect_append (λ f. ended (text_of f)) (formulas_of (take i rs)) (formulas_of (take 1 (drop i rs))))

  pub lines_few : CanStand rs → (i : ℕ) → length (lines_to rs i) ≤ i * 257
  unfolding rule_lines
  lines_few can i =
      omega (
        arith,
        collect_few (λ f. ended (text_of f)) 257 (formulas_of (take i rs))
            (λ f at. let s = map_elim meaning_of (take i rs) at in
            omega (
              arith,
              length-append (text_of f) (10 ∷ []),
              ap (λ (g : Formula Name). length (text_of g)) s.1,
              rule_few s.0 (meaning_of s.0) (is_rule s.0 (can_read rs can s.0 (in_take i rs s.2))),
            )),
        length-map (take i rs) meaning_of,
        length-take i rs,
      )

  -- there is no rule at place i
  none_at : (i : ℕ) → length rs ≤ i → [] ≡ line_at rs i
  unfolding rule_lines
  none_at i h = sym (ap (λ (l : List Text). rule_lines (formulas_of (take 1 l))) (drop_of_length-le rs h))

  -- there is this one
  one_at : (i : ℕ) (s : Text) (f : Formula Name) → IsKth rs (i + 1) s → IsRule s f → ended (text_of f) ≡ line_at rs i
  unfolding rule_lines
  one_at i s f k r =
      let z : length k.before ≡ i = omega (arith, k.place) in
      sym
      (ap (λ (l : List Text). rule_lines (formulas_of (take 1 (drop i l)))) k.parts
      ∙ ap (λ (l : List Text). rule_lines (formulas_of (take 1 l))) (drop_at k.before (s ∷ k.later) i z)
      ∙ append-nil (ended (text_of (meaning_of s))) ∙ ap (λ (g : Formula Name). ended (text_of g)) (text_means s f r))

-- print was called for the rule at place i, on the buffer from a place on, with room for its line
pub record Printing (t : Table) (i at : ℕ) (buffer : List ℕ) (r : PrintResult) (part : List ℕ) : Type 0 where
  pub from_us : FromUs t
  pub room : at + 257 ≤ length buffer
  pub prints : Prints t (i + 1) (part_from at buffer) r part

-- its text was put, with room for the line's end
pub record Wrote (rs : List Text) (i at : ℕ) (buffer exit : List ℕ) (n : ℕ) : Type 0 where
  pub text : List ℕ
  pub puts : Puts at text buffer exit (at + n)
  pub few : at + length text + 1 ≤ length buffer
  pub line : ended text ≡ line_at rs i

module _ {t : Table} {i at : ℕ} {buffer : List ℕ} {r : PrintResult} {part : List ℕ} (h : Printing t i at buffer r part) where
  abbrev rs : List Text
  rs = rules_of t

  abbrev room : ℕ
  room = length (part_from at buffer)

  wide : 257 ≤ room
  wide = omega (arith, h.room, ap length (part_is at buffer), length-drop at buffer)

  row : PrintRow rs (i + 1) room (print_outcome r.answer)
  unfolding printed
  row =
      subst (λ (a : PrintAnswer). PrintRow rs (i + 1) room (print_outcome a)) (sym (ap (λ (x : PrintResult). x.answer) h.prints.result))
      (print_answered (i + 1) room rs h.from_us.standing.formulas h.from_us.standing.rules)

  -- where print gives no text
  pub no_line : ((n : ℕ) → r.answer ≡ PrintAnswer.Text n → ⊥) → Puts at (line_at rs i) buffer (put_mid at (length buffer - at) buffer part) at
  unfolding over
  no_line other =
      puts_text (go (print_outcome r.answer) row refl)
      (puts_part at buffer (omega (arith, h.room)) (omega arith)
      (h.prints.bytes ∙ bytes_kept rs (i + 1) (part_from at buffer) _ row (λ n e. other n (is_text r.answer e))))
    where
      is_text : (a : PrintAnswer) {n : ℕ} → print_outcome a ≡ Outcome.Text n → a ≡ PrintAnswer.Text n
      is_text (PrintAnswer.Text k) {n} e = let z : k ≡ n = cc in ap PrintAnswer.Text z
      is_text (PrintAnswer.NoSuchRule k) e = absurd (let z : ◌≡◌ {A = ℕ} 0 1 = cc in omega arith)
      is_text (PrintAnswer.ShortBuffer k) e = absurd (let z : ◌≡◌ {A = ℕ} 0 1 = cc in omega arith)

      go : (o : Outcome) → PrintRow rs (i + 1) room o → print_outcome r.answer ≡ o → [] ≡ line_at rs i
      go o (PrintRow.none (inl z)) e = absurd (omega arith)
      go o (PrintRow.none (inr z)) e = none_at rs i (omega arith)
      go o (PrintRow.short {s} {f} k is l) e = absurd (omega (arith, rule_few s f is, wide))
      go o (PrintRow.text k is l) e = absurd (other _ (is_text r.answer e))

  -- where it gives one
  pub line_written : (n : ℕ) → r.answer ≡ PrintAnswer.Text n → Wrote rs i at buffer (put_mid at (length buffer - at) buffer part) n
  line_written n e = go (print_outcome r.answer) row (ap print_outcome e)
    where
      go : (o : Outcome) → PrintRow rs (i + 1) room o → o ≡ Outcome.Text n → Wrote rs i at buffer (put_mid at (length buffer - at) buffer part) n
      go o (PrintRow.none z) f = absurd (let z : ◌≡◌ {A = ℕ} 0 1 = cc in omega arith)
      go o (PrintRow.short k is l) f = absurd (let z : ◌≡◌ {A = ℕ} 0 1 = cc in omega arith)
      go o (PrintRow.text {s} {f = g} k is l) f =
          let size : length (text_of g) ≡ n = cc in
          record {
            text = text_of g;
            puts = puts_part at buffer (omega (arith, h.room, rule_few s g is)) (omega (arith, size))
                (h.prints.bytes ∙ bytes_written rs (i + 1) (part_from at buffer) s g k is l);
            few = omega (arith, h.room, rule_few s g is);
            line = one_at rs i s g k is;
          }
