-- `plan::contact` meets its contract: each test that fails is the machine's, and what passes them all is taken. Assumes nothing.
use borrow.Enum.Refused.{opened}
use mathlib.Core.Path.{sym, ap, ◌∙◌}
use native.Mathlib.Omega.{arith}
use Rattle.std.proofs.lemmas.Result.{err_from_is_err_and}
use Rattle.plan.specs.Private.{over_by, linking_of}
use Rattle.plan.proofs.ReadLoop.{not_link, link_equal, link_far, link_late, link_taken}
use Rattle.plan.proofs.contact.Goals as goal

pub returns-then-j-i : goal.returns-then-j-i
returns-then-j-i c =
    let a = c.args in
    let w = c.in-Contact in
    link_equal a.count a.low a.at a.len a.word w.smaller w.larger w.is (omega arith)

pub returns-then-count-j : goal.returns-then-count-j
returns-then-count-j c =
    let a = c.args in
    let w = c.in-Contact in
    link_far a.count a.low a.at a.len a.word w.smaller w.larger w.is (omega arith)

pub returns-then-key-low : goal.returns-then-key-low
returns-then-key-low c =
    let a = c.args in
    let w = c.in-Contact in
    link_late a.count a.low a.at a.len a.word w.smaller w.larger w.is (omega arith)

pub returns-else-key-low : goal.returns-else-key-low
returns-else-key-low c =
    let a = c.args in
    let w = c.in-Contact in
    link_taken a.count a.low a.at a.len a.word w.smaller w.larger w.is
    (omega arith) (omega arith) (omega arith)

pub returns-in_err-last-in-Last : goal.returns-in_err-last-in-Last
returns-in_err-last-in-Last c =
    let a = c.args in
    let p = err_from_is_err_and c.from_residual.result c.from_residual.ensures.1 in
    rw (p.1, p.2) (ap over_by c.in_err-last-in-Last.ensures ∙ sym (ap (linking_of a.count a.low a.at a.len) c.in-Last.is))

pub returns-in_ok-last-in-Last : goal.returns-in_ok-last-in-Last
returns-in_ok-last-in-Last c =
    let a = c.args in
    ap over_by c.in_ok-last-in-Last.ensures ∙ sym (ap (linking_of a.count a.low a.at a.len) c.in-Last.is)

pub returns-in_default : goal.returns-in_default
returns-in_default c =
    let a = c.args in
    not_link a.count a.low a.at a.len a.word (opened c.in_default.in_default-own.keys3)
