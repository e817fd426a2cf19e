-- `spelling::number_of` meets its contract: the atom's place among those that are left is its place among all (Scan.antt). Assumes
-- nothing.
use mathlib.Core.Bool.{Bool, cond}
use mathlib.Core.Path.{◌≡◌, sym, ap, subst, ◌∙◌}
use Prim.Native.Nat.{ℕ, ◌≤◌}
use native.Mathlib.Omega.{arith}
use borrow.Author.Tests.{not-true, not-false}
use Rattle.lists.proofs.Truth.{clash}
use Rattle.spelling.specs.Comparing.{Starts}
use Rattle.spelling.proofs.Scan.{none_passed, other_length, other_sign, unmatched, matched, all_passed}
use Rattle.spelling.proofs.number_of.Goals as goal
use Rattle.spelling.proofs.number_of.Goals.{After-matches, then-contact, else-contact}

pub second_start-second-requires : goal.second_start-second-requires
second_start-second-requires c =
    let passed_most : c.if-contact.passed ≤ c.args.len = elim c.if-contact.branch [ then-contact w ↦ omega arith | else-contact w ↦ omega arith ] in
    (omega (arith, passed_most, c.requires.spells.short), omega (arith, passed_most, c.requires.spells.within))

-- the second term starts there: only of a contact symbols are passed in search of it
starts : (c : After-matches) → Starts c.args.row.now (cond c.args.contact c.args.len 0) c.second_start-second.result
starts c =
    let passed_is : c.if-contact.passed ≡ cond c.args.contact c.args.len 0 =
    elim c.if-contact.branch [
      | then-contact w ↦ w.passed-is ∙ sym (ap (λ (b : Bool). cond b c.args.len 0) w.if-contact.true)
      | else-contact w ↦ w.passed-is ∙ sym (ap (λ (b : Bool). cond b c.args.len 0) w.if-contact.false)
    ] in
    subst (λ (n : ℕ). Starts c.args.row.now n c.second_start-second.result) passed_is c.second_start-second.ensures

pub loop-j-init : goal.loop-j-init
loop-j-init c = none_passed _ _ _ _ _ _ _

pub loop-j-preserved-then-from-len : goal.loop-j-preserved-then-from-len
loop-j-preserved-then-from-len c =
    let k = c.loop-j in other_length _ _ _ _ _ _ _ k.j c.loop-j-test.true k.invariant (λ e. c.if-from-len.true (c.from.ensures ∙ e))

pub loop-j-preserved-then-contacts-j : goal.loop-j-preserved-then-contacts-j
loop-j-preserved-then-contacts-j c =
    let k = c.loop-j in other_sign _ _ _ _ _ _ _ k.j c.loop-j-test.true k.invariant (not-true _ c.if-contacts-j.true)

pub matches-requires : goal.matches-requires
matches-requires c =
    let passed_most : c.if-contact.passed ≤ c.args.len = elim c.if-contact.branch [ then-contact w ↦ omega arith | else-contact w ↦ omega arith ] in
    (omega (arith, c.requires.counted, c.requires.keeps.few), omega (arith, c.second_start-second.ensures.within, passed_most), omega (arith, c.requires.spells.short))

pub returns-then-matches : goal.returns-then-matches
returns-then-matches c =
    let k = c.loop-j in
    matched _ _ _ _ _ _ _ k.j c.loop-j-test.true k.invariant _ (starts (goal.at.returns-then-matches c).After-matches) (sym c.from.ensures ∙ c.if-from-len.false)
    (not-false _ c.if-contacts-j.false) (c.matches.ensures.yes_is c.if-matches.true)

pub loop-j-preserved : goal.loop-j-preserved
loop-j-preserved c =
    let k = c.loop-j in
    unmatched _ _ _ _ _ _ _ k.j c.loop-j-test.true k.invariant _ (starts (goal.at.loop-j-preserved c).After-matches) (sym c.from.ensures ∙ c.if-from-len.false)
    (λ m. clash (c.matches.ensures.is_yes m) c.if-matches.false)

pub returns : goal.returns
returns c = all_passed _ _ _ _ _ _ _ c.loop-j.j (omega arith) (omega arith) c.loop-j.invariant
