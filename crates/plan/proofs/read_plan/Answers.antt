-- `plan::read_plan` meets its contract: the first word, the points and the contacts, each read from where the machine then stands.
-- Assumes nothing.
use mathlib.Core.Path.{refl}
use native.Mathlib.Omega.{arith}
use lib.Pow.{pow_mono}
use Rattle.std.proofs.lemmas.Result.{err_from_is_err_and}
use Rattle.squares.proofs.Rows.{clear_words}
use Rattle.plan.proofs.Flat.{bits_none}
use Rattle.plan.proofs.ReadLoop.{words_none, opens_wrong, opens_points, links_come, reads_plan}
use Rattle.plan.proofs.read_plan.Goals as goal

pub returns-then-words-eq0 : goal.returns-then-words-eq0
returns-then-words-eq0 c = words_none c.args.words.now (omega arith)

pub returns-in_err-opening : goal.returns-in_err-opening
returns-in_err-opening c =
    let p = err_from_is_err_and c.from_residual.result c.from_residual.ensures.1 in
    rw (p.1, p.2) (opens_wrong c.args.words.now c.kind_of.result c.kind_of.ensures (omega arith) _ c.in_err-opening.ensures.to)

-- the first word is good
pub read_points-requires : goal.read_points-requires
read_points-requires c =
    opens_points c.args.words.now c.kind_of.result c.kind_of.ensures (omega arith) c.in_ok-opening.opening c.in_ok-opening.ensures.to

pub returns-in_err-points : goal.returns-in_err-points
returns-in_err-points c =
    let p = err_from_is_err_and c.from_residual-in_err-points.result c.from_residual-in_err-points.ensures.1 in
    rw (p.1, p.2) c.in_err-points.ensures

pub alone-requires : goal.alone-requires
alone-requires c =
    let come = opens_points c.args.words.now c.kind_of.result c.kind_of.ensures (omega arith) c.in_ok-opening.opening c.in_ok-opening.ensures.to in
    (refl, omega (arith, come.room, pow_mono come.few), bits_none _ (clear_words 1024))

-- what the words are after the points
pub returns-in_err-read_contacts : goal.returns-in_err-read_contacts
returns-in_err-read_contacts c =
    let opening = c.in_ok-opening.opening in
    let held = c.in_ok-points.ensures in
    let p = err_from_is_err_and c.from_residual-in_err-read_contacts.result c.from_residual-in_err-read_contacts.ensures.1 in
    rw (p.1, p.2)
    (c.in_err-read_contacts.ensures.0 opening.names held.1.pts
    (links_come c.args.words.now opening.names opening.count held.0 c.in_ok-points.points held.1 _ c.alone.ensures.rows))

pub returns : goal.returns
returns c =
    let opening = c.in_ok-opening.opening in
    let held = c.in_ok-points.ensures in
    reads_plan c.args.words.now opening.names opening.count held.0 c.in_ok-points.points held.1 _
    (c.in_ok-read_contacts.ensures.0 opening.names held.1.pts
    (links_come c.args.words.now opening.names opening.count held.0 c.in_ok-points.points held.1 _ c.alone.ensures.rows))
