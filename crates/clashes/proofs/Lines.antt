-- The lines of rules that clash: what lies behind the last rule is not read, and the lines from a place on are that of the rule there, if it is in
-- the set, and those from the next place on. Assumes nothing.
use mathlib.Core.Bool.{Bool, true, false, not, cond}
use mathlib.Core.Path.{◌≡◌, refl, sym, ap, ap₂, ◌∙◌}
use mathlib.Core.List.{List, [], ◌∷◌, ◌++◌, append_assoc, append-nil}
use Prim.Native.Nat.{ℕ, suc, ◌+◌, ◌*◌, ◌^◌, ◌≤◌, ◌<◌}
use native.Mathlib.Omega.{arith}
use lib.ListN.{length, get_or, take, drop, length-append, length-map, length-take, drop_of_length-le}
use Rattle.formula.specs.Formula.{Form, Formula, Name}
use Rattle.lexer.specs.Text.{bytes}
use Rattle.syntax.specs.Rule.{meaning_of}
use Rattle.syntax.proofs.Claims.{is_rule}
use Rattle.lists.specs.Putting.{Puts}
use Rattle.lists.proofs.Lists.{rest, map_at}
use Rattle.lists.proofs.Search.{in_take, in_drop, map_elim, collect_few}
use Rattle.lists.proofs.Putting.{puts_none, puts_text, puts_more}
use Rattle.printing.specs.Text.{text_of}
use Rattle.printing.proofs.Claims.{never_longer}
use Rattle.table.specs.Sheet.{Text, blank_line, filled}
use Rattle.table.specs.Rules.{CanStand}
use Rattle.table.specs.Calls.{formulas_of}
use Rattle.table.proofs.Rules.{can_read}
use Rattle.report.specs.Lines.{decimal, labelled, ended, rule_lines}
use Rattle.report.proofs.Digits.{decimal_few}
use Rattle.clashes.specs.Printed.{numbers_from, clash_line, clash_lines}

-- ---- the numbers of lines

-- each line that is not blank has one
pub numbers_long : (n : ℕ) (ls : List Text) → length (numbers_from n ls) ≡ length (filled ls)
unfolding numbers_from filled
numbers_long n [] = refl
numbers_long n (l ∷ ls) = go (blank_line l) (numbers_long (suc n) ls)
  where
    go : (b : Bool) → length (numbers_from (suc n) ls) ≡ length (filled ls)
        → length (cond b (numbers_from (suc n) ls) (n ∷ numbers_from (suc n) ls)) ≡ length (cond (not b) (l ∷ filled ls) (filled ls))
    go true e = e
    go false e = ap suc e

-- ---- the lines

-- of no rule there is none
lines_none : (ns : List ℕ) (set : List Bool) → clash_lines ns [] set ≡ []
unfolding clash_lines
lines_none [] set = refl
lines_none (n ∷ ns) set = refl

-- no more is read than there are rules
pub lines_short : (ns xs : List ℕ) (fs : List (Formula Name)) (set ys : List Bool) → length fs ≤ length ns → length fs ≤ length set
    → clash_lines (ns ++ xs) fs (set ++ ys) ≡ clash_lines ns fs set
unfolding clash_lines
lines_short ns xs [] set ys l m = lines_none (ns ++ xs) (set ++ ys) ∙ sym (lines_none ns set)
lines_short [] xs (f ∷ fs) set ys l m = absurd (omega arith)
lines_short (n ∷ ns) xs (f ∷ fs) [] ys l m = absurd (omega arith)
lines_short (n ∷ ns) xs (f ∷ fs) (true ∷ set) ys l m = ap (λ (r : List ℕ). clash_line n f ++ r) (lines_short ns xs fs set ys (omega arith) (omega arith))
lines_short (n ∷ ns) xs (f ∷ fs) (false ∷ set) ys l m = lines_short ns xs fs set ys (omega arith) (omega arith)

-- the line of the rule at a place, if it is in the set
abbrev line_if : Bool → ℕ → Formula Name → List ℕ
line_if b n f = cond b (clash_line n f) []

first_line : (n : ℕ) (ns : List ℕ) (f : Formula Name) (fs : List (Formula Name)) (b : Bool) (set : List Bool)
    → clash_lines (n ∷ ns) (f ∷ fs) (b ∷ set) ≡ line_if b n f ++ clash_lines ns fs set
unfolding clash_lines
first_line n ns f fs true set = refl
first_line n ns f fs false set = refl

-- the lines of the rules before place i are put
pub record PutTo (ns : List ℕ) (fs : List (Formula Name)) (set : List Bool) (before out : List ℕ) (end i : ℕ) : Type 0 where
  pub done : List ℕ
  pub puts : Puts 0 done before out end
  pub to_come : done ++ clash_lines (drop i ns) (drop i fs) (drop i set) ≡ clash_lines ns fs set
  pub few : end ≤ i * 284

module _ (ns : List ℕ) (fs : List (Formula Name)) (set : List Bool) (before : List ℕ) where
  pub put_none : PutTo ns fs set before before 0 0
  put_none = record { done = []; puts = puts_none 0 before (omega arith); to_come = refl; few = omega arith }

  module _ (out : List ℕ) (end i : ℕ) (p : PutTo ns fs set before out end i) (l : i < length ns) (m : i < length fs) (k : i < length set) where
    lines_from : clash_lines (drop i ns) (drop i fs) (drop i set)
        ≡ line_if (get_or set i false) (get_or ns i 0) (get_or fs i Form.truth) ++ clash_lines (drop (i + 1) ns) (drop (i + 1) fs) (drop (i + 1) set)
    lines_from =
        ap₂ (λ (xs : List ℕ) (gs : List (Formula Name)). clash_lines xs gs (drop i set)) (rest ns i 0 l) (rest fs i Form.truth m)
        ∙ ap (clash_lines (get_or ns i 0 ∷ drop (i + 1) ns) (get_or fs i Form.truth ∷ drop (i + 1) fs)) (rest set i false k)
        ∙ first_line (get_or ns i 0) (drop (i + 1) ns) (get_or fs i Form.truth) (drop (i + 1) fs) (get_or set i false) (drop (i + 1) set)

    abbrev later : List ℕ
    later = clash_lines (drop (i + 1) ns) (drop (i + 1) fs) (drop (i + 1) set)

    lines_with : (b : Bool) → get_or set i false ≡ b → p.done ++ (line_if b (get_or ns i 0) (get_or fs i Form.truth) ++ later) ≡ clash_lines ns fs set
    lines_with b e =
        ap (λ (c : Bool). p.done ++ (line_if c (get_or ns i 0) (get_or fs i Form.truth) ++ later)) (sym e)
        ∙ ap (λ (r : List ℕ). p.done ++ r) (sym lines_from) ∙ p.to_come

    -- a rule that is not in the set is passed
    pub put_pass : get_or set i false ≡ false → PutTo ns fs set before out end (i + 1)
    put_pass e = record { done = p.done; puts = p.puts; to_come = lines_with false e; few = omega (arith, p.few) }

    -- the line of one that is is put
    pub put_more : get_or set i false ≡ true → (text exit : List ℕ) (last : ℕ) → text ≡ clash_line (get_or ns i 0) (get_or fs i Form.truth) → Puts end text out exit last → last ≤ end + 284
        → PutTo ns fs set before exit last (i + 1)
    put_more e text exit last is h few =
        record {
          done = p.done ++ text;
          puts = puts_more p.puts h;
          to_come = append_assoc p.done text later ∙ ap (λ (r : List ℕ). p.done ++ (r ++ later)) is ∙ lines_with true e;
          few = omega (arith, p.few, few);
        }

  -- at the end all are put
  pub put_all : (out : List ℕ) (end i : ℕ) → PutTo ns fs set before out end i → length fs ≤ i → Puts 0 (clash_lines ns fs set) before out end
  put_all out end i p l =
      puts_text
      (sym (append-nil p.done)
      ∙ ap (λ (r : List ℕ). p.done ++ r) (sym (ap (λ (gs : List (Formula Name)). clash_lines (drop i ns) gs (drop i set)) (drop_of_length-le fs {i = i} l) ∙ lines_none (drop i ns) (drop i set)))
      ∙ p.to_come)
      p.puts

-- ---- the line of a rule

module _ (rs : List Text) (i : ℕ) where
  -- as report puts it
  pub rule_line : i < length rs → (n : ℕ) → labelled (bytes "line ") n ++ (bytes ": " ++ rule_lines (formulas_of (take 1 (drop i rs)))) ≡ clash_line n (get_or (formulas_of rs) i Form.truth)
  unfolding rule_lines clash_line
  rule_line l n =
      ap (λ (r : List ℕ). labelled (bytes "line ") n ++ (bytes ": " ++ r))
      (ap (λ (ss : List Text). rule_lines (formulas_of (take 1 ss))) (rest rs i [] l) ∙ append-nil (ended (text_of (meaning_of (get_or rs i []))))
      ∙ ap (λ (f : Formula Name). ended (text_of f)) (sym (map_at meaning_of rs i [] Form.truth l)))

  -- it has at most 257 bytes
  pub rule_few : CanStand rs → length (rule_lines (formulas_of (take 1 (drop i rs)))) ≤ 257
  unfolding rule_lines
  rule_few can =
      let part = take 1 (drop i rs) in
      omega (
        arith,
        collect_few (λ f. ended (text_of f)) 257 (formulas_of part)
            (λ f at. let s = map_elim meaning_of part at in
            let r = is_rule s.0 (can_read rs can s.0 (in_drop i rs (in_take 1 (drop i rs) s.2))) in
            omega (arith, length-append (text_of f) (10 ∷ []), ap (λ (g : Formula Name). length (text_of g)) s.1, never_longer s.0 (meaning_of s.0) r, r.short)),
        length-map part meaning_of,
        length-take 1 (drop i rs),
      )

pub digits_few : (n : ℕ) → n < 2 ^ 64 → length (decimal n) ≤ 20
digits_few n h = decimal_few 19 n (omega arith)
