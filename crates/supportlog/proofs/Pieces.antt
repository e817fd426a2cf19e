-- What `put_piece` gives in each of its three cases. Assumes nothing.
use mathlib.Core.Path.{◌≡◌, sym, subst}
use mathlib.Core.List.{List}
use Prim.Native.Nat.{ℕ, ◌≤◌, ◌<◌}
use native.Mathlib.Omega.{arith}
use lib.ListN.{length}
use Rattle.table.specs.Sheet.{Text}
use Rattle.table.specs.Calls.{FromUs}
use Rattle.report.specs.Lines.{ended}
use Rattle.lists.specs.Putting.{Puts}
use Rattle.report.proofs.Putting.{puts_over}
use Rattle.supportlog.specs.declared.LogState.{LogState}
use Rattle.supportlog.specs.declared.LineAnswer.{LineAnswer}
use Rattle.supportlog.specs.Answers.{refused, answer_text}
use Rattle.supportlog.specs.Steps.{Steps, answer_for, passed_to, IsPiece, GivesPiece}

module _ {log : Text} {state : LogState} {words buffer : List ℕ} (from_us : FromUs state.table) where
  pub gives_none : (r : LogState) → length log ≤ state.from → r ≡ passed_to state.from 0 state → GivesPiece log state words buffer r words buffer
  gives_none r h e =
      subst (λ (x : LogState). GivesPiece log state words buffer x words buffer) (sym e)
      (record { piece = IsPiece.past h; fits = omega arith; from_us = from_us; forward = λ l. absurd (omega (arith, h, l)) })

  module _ (there : state.from < length log) where
    pub gives_whole : {n : ℕ} {out : List ℕ} (r : LogState) → 8192 < length log → Puts 0 (ended (answer_text (refused 15 0))) buffer out n → r ≡ passed_to (length log) n state
        → GivesPiece log state words buffer r words out
    gives_whole {n} {out} r long puts e =
        let text = puts_over _ _ _ _ puts in
        subst (λ (x : LogState). GivesPiece log state words buffer x words out) (sym e)
        (record { piece = IsPiece.whole there long text; fits = text.fits; from_us = from_us; forward = λ l. l })

    pub gives_line : {given : LineAnswer} {exit out : List ℕ} (r : LogState) → length log ≤ 8192 → Steps log state words given r exit
        → Puts 0 (ended (answer_text (answer_for given exit))) buffer out r.len → GivesPiece log state words buffer r exit out
    gives_line r short steps puts =
        let text = puts_over _ _ _ _ puts in
        record { piece = IsPiece.line there short steps text; fits = text.fits; from_us = steps.runs.from_us; forward = λ l. omega (arith, steps.next) }
