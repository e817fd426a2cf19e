-- What a call hands back, from its answer and its table: a refused call hands back the table that was passed, which is that of its own
-- list. Assumes nothing.
use Prim.Native.Nat.{ℕ, ◌-◌, ◌≤◌, ◌<◌}
use mathlib.Core.Path.{◌≡◌, sym, ap, ◌∙◌}
use mathlib.Core.List.{List, [], ◌∷◌, ◌++◌}
use native.Mathlib.Omega.{arith}
use lib.ListN.{length}
use borrow.Author.Tests.{le-ltb, lt-leb, le-leb, lt-ltb}
use Rattle.ruleset.specs.declared.Known.{Known}
use Rattle.table.specs.declared.Table.{Table}
use Rattle.table.specs.declared.AddAnswer.{AddAnswer}
use Rattle.table.specs.declared.AddResult.{AddResult}
use Rattle.table.specs.declared.WithdrawAnswer.{WithdrawAnswer}
use Rattle.table.specs.declared.WithdrawResult.{WithdrawResult}
use Rattle.table.specs.declared.LoadAnswer.{LoadAnswer}
use Rattle.table.specs.declared.LoadResult.{LoadResult}
use Rattle.table.specs.Store.{table_of, rules_of}
use Rattle.table.specs.Sheet.{Text, lines_of, filled}
use Rattle.table.specs.Calls.{judge_add, add_rules, added, judge_withdraw, without, if_withdrawn, withdraw_rules, withdrawn, judge_load, if_loaded, load_rules, loaded, FromUs, Adds, Withdraws, Loads}
use Rattle.table.specs.Steps.{KnownTexts, Tries, load_result}
use Rattle.table.proofs.Stored.{from_us_table}
use Rattle.table.proofs.Standing.{NotAdded, room, added_taken, added_refused, stand_add, stand_withdraw, stand_load}
use Rattle.syntax.proofs.Claims.{read_short}
use Rattle.table.proofs.Counting.{answer_is}
use Rattle.table.proofs.Lines.{count_is}

abbrev add_result : Table → AddAnswer → AddResult
add_result t a = record { table = t; answer = a }

-- a contract from its equation
pub adds_of : (t : Table) (s : Text) (r : AddResult) → FromUs t → r ≡ added (rules_of t) s → Adds t s r
unfolding added
adds_of t s r v e = record { result = e; from_us = rw e (from_us_table _ (stand_add _ s v.standing)) }

pub withdraws_of : (t : Table) (k : ℕ) (r : WithdrawResult) → FromUs t → r ≡ withdrawn (rules_of t) k → Withdraws t k r
unfolding withdrawn
withdraws_of t k r v e = record { result = e; from_us = rw e (from_us_table _ (stand_withdraw _ k v.standing)) }

pub loads_of : (t : Table) (f : Text) (r : LoadResult) → FromUs t → r ≡ loaded (rules_of t) f → Loads t f r
unfolding loaded
loads_of t f r v e = record { result = e; from_us = rw e (from_us_table _ (stand_load _ f v.standing)) }

-- ---- add

module _ (t : Table) (s : Text) (k : Known) (kept : List ℕ) (r : AddAnswer) (grown : Known) (keptOut : List ℕ) (v : FromUs t) (e : KnownTexts (rules_of t) k kept) (h : Tries k s kept r grown keptOut) where
  answered : r ≡ judge_add (rules_of t) s
  answered = answer_is k (rules_of t) v.standing kept e s r grown keptOut h

  pub adds_refused : NotAdded r → Adds t s (add_result t r)
  unfolding added
  adds_refused n =
      adds_of t s _ v
      (ap (λ (u : Table). add_result u r) (v.same ∙ ap table_of (sym (added_refused (rules_of t) s (λ f. n (answered ∙ f)))))
      ∙ ap (add_result (table_of (add_rules (rules_of t) s))) answered)

  module _ (yes : r ≡ AddAnswer.Added) where
    -- there is a line for the text
    pub may_put : FromUs t × (t.count < 16) × (length s ≤ 256)
    may_put = let m = room (rules_of t) s (sym answered ∙ yes) in (v, omega (arith, m.few, count_is t v), read_short s m.read)

    pub adds_taken : (u : Table) → u ≡ table_of (rules_of t ++ s ∷ []) → Adds t s (add_result u r)
    unfolding added
    adds_taken u f =
        adds_of t s _ v
        (ap (λ (w : Table). add_result w r) (f ∙ ap table_of (sym (added_taken (rules_of t) s (sym answered ∙ yes))))
        ∙ ap (add_result (table_of (add_rules (rules_of t) s))) answered)

-- ---- withdraw

module _ (rs : List Text) (k : ℕ) where
  pub withdraw_zero : k ≤ 0 → judge_withdraw rs k ≡ WithdrawAnswer.NoSuchRule k
  unfolding judge_withdraw
  withdraw_zero h = rw (le-leb k 0 h)

  pub withdraw_high : 0 < k → length rs < k → judge_withdraw rs k ≡ WithdrawAnswer.NoSuchRule k
  unfolding judge_withdraw
  withdraw_high h m = rw (lt-leb k 0 h, lt-ltb (length rs) k m)

  pub withdraw_good : 0 < k → k ≤ length rs → judge_withdraw rs k ≡ WithdrawAnswer.Withdrawn
  unfolding judge_withdraw
  withdraw_good h m = rw (lt-leb k 0 h, le-ltb (length rs) k m)

abbrev withdraw_result : Table → WithdrawAnswer → WithdrawResult
withdraw_result t a = record { table = t; answer = a }

-- one law for both answers
pub withdrawn_by : (t u : Table) (k : ℕ) (a : WithdrawAnswer) → FromUs t → judge_withdraw (rules_of t) k ≡ a → u ≡ table_of (if_withdrawn a (without (rules_of t) (k - 1)) (rules_of t))
    → Withdraws t k (withdraw_result u a)
unfolding withdrawn withdraw_rules
withdrawn_by t u k a v e f =
    withdraws_of t k _ v
    (ap (λ (w : Table). withdraw_result w a) f
    ∙ ap (λ (b : WithdrawAnswer). withdraw_result (table_of (if_withdrawn b (without (rules_of t) (k - 1)) (rules_of t))) b) (sym e))

-- ---- load

-- one law for every answer
pub loaded_by : (t u : Table) (file : Text) (a : LoadAnswer) → FromUs t → judge_load file ≡ a → u ≡ table_of (if_loaded a (filled (lines_of file)) (rules_of t))
    → Loads t file (load_result u a)
unfolding loaded load_rules
loaded_by t u file a v e f =
    loads_of t file _ v
    (ap (λ (w : Table). load_result w a) f
    ∙ ap (λ (b : LoadAnswer). load_result (table_of (if_loaded b (filled (lines_of file)) (rules_of t))) b) (sym e))
