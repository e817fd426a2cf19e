-- The lines of a file, taken one a turn: what was judged and kept so far, with what is left to judge and to keep, is the whole.
-- Assumes nothing.
use Prim.Native.Nat.{ℕ, ◌+◌, ◌-◌, ◌≤◌, ◌<◌}
use mathlib.Core.Path.{◌≡◌, refl, sym, ap, subst, ◌∙◌}
use mathlib.Core.List.{List, [], ◌∷◌, ◌++◌, append_assoc, append-nil}
use mathlib.Core.Bool.{true, false}
use native.Mathlib.Omega.{arith}
use lib.ListN.{length, take, drop}
use borrow.Author.Tests.{lt-leb, le-leb, le-ltb, lt-ltb}
use Rattle.ruleset.specs.declared.Known.{Known}
use Rattle.ruleset.specs.Texts.{NothingKnown}
use Rattle.table.specs.declared.Table.{Table}
use Rattle.table.specs.declared.AddAnswer.{AddAnswer}
use Rattle.table.specs.declared.LoadAnswer.{LoadAnswer}
use Rattle.table.specs.Store.{table_of, rules_of}
use Rattle.table.specs.Sheet.{Text, lines_of, blank_line, filled}
use Rattle.table.specs.Calls.{if_added, judge_add, lines_from, judge_lines, is_none, judge_load, FromUs}
use Rattle.table.specs.Steps.{KnownTexts, Tries}
use Rattle.table.proofs.Standing.{NotAdded, refused_else, stand_none, stand_more}
use Rattle.table.proofs.Counting.{answer_is, known_next}
use Rattle.table.proofs.Stored.{rules_table, from_us_table}
use Rattle.table.proofs.Lines.{count_is, none_stand}

-- the loop's invariant: the lines before `from`, `line` of them, are judged; those of them that are not blank are the table's rules, and are known
pub record Progress (file : Text) (t : Table) (k : Known) (symbols : List ℕ) (line from : ℕ) : Type 0 where
  pub short : length file ≤ 8192
  pub within : from ≤ length file + 1
  pub lines : line ≤ from
  pub from_us : FromUs t
  pub known : KnownTexts (rules_of t) k symbols
  pub judged : judge_lines (line + 1) (rules_of t) (lines_from file from) ≡ judge_lines 1 [] (lines_of file)
  pub kept : rules_of t ++ filled (lines_from file from) ≡ filled (lines_of file)

lines_here : (file : Text) (from : ℕ) → from ≤ length file → lines_from file from ≡ lines_of (drop from file)
unfolding lines_from
lines_here file from h = rw (le-leb from (length file) h)

lines_none : (file : Text) (from : ℕ) → length file < from → lines_from file from ≡ []
unfolding lines_from
lines_none file from h = rw (lt-leb from (length file) h)

-- ---- the whole file

pub too_long : (file : Text) → 8192 < length file → judge_load file ≡ LoadAnswer.FileTooLong
unfolding judge_load
too_long file h = rw (lt-ltb 8192 (length file) h)

module _ (file : Text) (h : length file ≤ 8192) where
  pub all_blank : is_none (filled (lines_of file)) ≡ true → judge_load file ≡ LoadAnswer.AllBlank
  unfolding judge_load
  all_blank e = rw (le-ltb 8192 (length file) h, e)

  pub by_lines : is_none (filled (lines_of file)) ≡ false → judge_load file ≡ judge_lines 1 [] (lines_of file)
  unfolding judge_load
  by_lines e = rw (le-ltb 8192 (length file) h, e)

pub not_none : (rs : List Text) (l : Text) (ls : List Text) → is_none (rs ++ l ∷ ls) ≡ false
not_none [] l ls = refl
not_none (r ∷ rs) l ls = refl

-- ---- one line, blank, added or refused

module _ (n : ℕ) (rs : List Text) (l : Text) (ls : List Text) where
  pub judge_blank : blank_line l ≡ true → judge_lines n rs (l ∷ ls) ≡ judge_lines (n + 1) rs ls
  unfolding judge_lines
  judge_blank e = rw e

  judge_filled : blank_line l ≡ false → judge_lines n rs (l ∷ ls) ≡ if_added (judge_add rs l) (judge_lines (n + 1) (rs ++ l ∷ []) ls) (LoadAnswer.Line n (judge_add rs l))
  unfolding judge_lines
  judge_filled e = rw e

  pub judge_added : blank_line l ≡ false → judge_add rs l ≡ AddAnswer.Added → judge_lines n rs (l ∷ ls) ≡ judge_lines (n + 1) (rs ++ l ∷ []) ls
  judge_added e f = judge_filled e ∙ rw f

  pub judge_refused : (a : AddAnswer) → blank_line l ≡ false → judge_add rs l ≡ a → NotAdded a → judge_lines n rs (l ∷ ls) ≡ LoadAnswer.Line n a
  judge_refused a e f m =
      judge_filled e
      ∙ refused_else (judge_add rs l) (judge_lines (n + 1) (rs ++ l ∷ []) ls) (LoadAnswer.Line n (judge_add rs l)) (λ g. m (sym f ∙ g))
      ∙ ap (λ (b : AddAnswer). LoadAnswer.Line n b) f

pub filled_blank : (l : Text) (ls : List Text) → blank_line l ≡ true → filled (l ∷ ls) ≡ filled ls
unfolding filled
filled_blank l ls e = rw e

pub filled_more : (l : Text) (ls : List Text) → blank_line l ≡ false → filled (l ∷ ls) ≡ l ∷ filled ls
unfolding filled
filled_more l ls e = rw e

pub start : (file : Text) (t : Table) (k : Known) (symbols : List ℕ) → length file ≤ 8192 → t ≡ table_of [] → NothingKnown k → length symbols ≡ 2048 → Progress file t k symbols 0 0
unfolding NothingKnown
start file t k symbols h e f w =
    let r : rules_of t ≡ [] = ap rules_of e ∙ rules_table [] in
    record {
      short = h;
      within = omega arith;
      lines = omega arith;
      from_us = subst FromUs (sym e) (from_us_table [] stand_none);
      known = subst (λ (rs : List Text). KnownTexts rs k symbols) (sym r) (f symbols w);
      judged = ap (λ (rs : List Text). judge_lines 1 rs (lines_from file 0)) r ∙ ap (judge_lines 1 []) (lines_here file 0 (omega arith));
      kept = ap (λ (rs : List Text). rs ++ filled (lines_from file 0)) r ∙ ap filled (lines_here file 0 (omega arith));
    }

-- a turn, at the line from `from` up to `e`
module _ (file : Text) (t : Table) (k : Known) (symbols : List ℕ) (line from e : ℕ) (p : Progress file t k symbols line from) (h : from ≤ length file) (low : from ≤ e) (high : e ≤ length file)
    (cut : lines_of (drop from file) ≡ take (e - from) (drop from file) ∷ lines_from file (e + 1)) where
  abbrev here : Text
  here = take (e - from) (drop from file)

  abbrev held : List Text
  held = rules_of t

  whole : lines_from file from ≡ here ∷ lines_from file (e + 1)
  whole = lines_here file from h ∙ cut

  pub after_blank : blank_line here ≡ true → Progress file t k symbols (line + 1) (e + 1)
  after_blank b =
      record {
        short = p.short;
        within = omega arith;
        lines = omega (arith, p.lines);
        from_us = p.from_us;
        known = p.known;
        judged = sym (judge_blank (line + 1) held here (lines_from file (e + 1)) b) ∙ ap (judge_lines (line + 1) held) (sym whole) ∙ p.judged;
        kept = ap (λ (ls : List Text). held ++ ls) (sym (filled_blank here (lines_from file (e + 1)) b) ∙ ap filled (sym whole)) ∙ p.kept;
      }

  module _ (r : AddAnswer) (grown : Known) (b : blank_line here ≡ false) (out : List ℕ) (a : Tries k here symbols r grown out) where
    answered : r ≡ judge_add held here
    answered = answer_is k held p.from_us.standing symbols p.known here r grown out a

    module _ (yes : r ≡ AddAnswer.Added) where
      taken : judge_add held here ≡ AddAnswer.Added
      taken = sym answered ∙ yes

      pub after_added : (u : Table) → u ≡ table_of (held ++ here ∷ []) → Progress file u grown out (line + 1) (e + 1)
      after_added u f =
          let q : rules_of u ≡ held ++ here ∷ [] = ap rules_of f ∙ rules_table (held ++ here ∷ []) in
          record {
            short = p.short;
            within = omega arith;
            lines = omega (arith, p.lines);
            from_us = subst FromUs (sym f) (from_us_table (held ++ here ∷ []) (stand_more held here p.from_us.standing taken));
            known = subst (λ (rs : List Text). KnownTexts rs grown out) (sym q) (known_next k held p.from_us.standing symbols p.known here r grown out a yes);
            judged = ap (λ (x : List Text). judge_lines (line + 1 + 1) x (lines_from file (e + 1))) q
                ∙ sym (judge_added (line + 1) held here (lines_from file (e + 1)) b taken) ∙ ap (judge_lines (line + 1) held) (sym whole) ∙ p.judged;
            kept = ap (λ (x : List Text). x ++ filled (lines_from file (e + 1))) q
                ∙ append_assoc held (here ∷ []) (filled (lines_from file (e + 1)))
                ∙ ap (λ (ls : List Text). held ++ ls) (sym (filled_more here (lines_from file (e + 1)) b) ∙ ap filled (sym whole))
                ∙ p.kept;
          }

    some_filled : is_none (filled (lines_of file)) ≡ false
    some_filled =
        ap is_none (sym p.kept ∙ ap (λ (ls : List Text). held ++ filled ls) whole ∙ ap (λ (ls : List Text). held ++ ls) (filled_more here (lines_from file (e + 1)) b))
        ∙ not_none held here (filled (lines_from file (e + 1)))

    pub line_refused : NotAdded r → judge_load file ≡ LoadAnswer.Line (line + 1) r
    line_refused m =
        by_lines file p.short some_filled
        ∙ sym p.judged
        ∙ ap (judge_lines (line + 1) held) whole
        ∙ judge_refused (line + 1) held here (lines_from file (e + 1)) r b (sym answered) m

-- the end of the file
module _ (file : Text) (t : Table) (known : Known) (symbols : List ℕ) (line from : ℕ) (p : Progress file t known symbols line from) (h : length file < from) where
  all_kept : rules_of t ≡ filled (lines_of file)
  unfolding filled
  all_kept = sym (append-nil (rules_of t)) ∙ ap (λ (ls : List Text). rules_of t ++ filled ls) (sym (lines_none file from h)) ∙ p.kept

  all_judged : judge_lines 1 [] (lines_of file) ≡ LoadAnswer.Loaded
  unfolding judge_lines
  all_judged = sym (ap (judge_lines (line + 1) (rules_of t)) (sym (lines_none file from h)) ∙ p.judged)

  pub nothing_kept : t.count ≤ 0 → judge_load file ≡ LoadAnswer.AllBlank
  nothing_kept k = all_blank file p.short (ap is_none (sym all_kept ∙ none_stand t p.from_us k))

  pub something_kept : 0 < t.count → judge_load file ≡ LoadAnswer.Loaded
  something_kept k = by_lines file p.short (ap is_none (sym all_kept) ∙ go (rules_of t) (omega (arith, count_is t p.from_us))) ∙ all_judged
    where
      go : (rs : List Text) → 0 < length rs → is_none rs ≡ false
      go [] z = absurd (omega arith)
      go (r ∷ rs) z = refl

  pub kept_table : t ≡ table_of (filled (lines_of file))
  kept_table = p.from_us.same ∙ ap table_of all_kept
