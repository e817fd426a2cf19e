-- `plan::write_plan` meets its contract: the pieces one after the other are the plan's words, and all of them fit. Assumes nothing.
use native.Mathlib.Omega.{arith}
use Prim.Native.Nat.{ℕ, ◌+◌, ◌*◌, ◌≤◌}
use mathlib.Core.Path.{sym, subst}
use mathlib.Core.Bool.{Bool}
use mathlib.Core.List.{[], List}
use lib.ListN.{length, length-set}
use Rattle.std.specs.Prelude.{Err}
use Rattle.std.proofs.lemmas.Result.{err_from_is_err_and}
use Rattle.evalset.specs.Sets.{mem}
use Rattle.squares.specs.Square.{square_at}
use Rattle.lists.specs.declared.ShortBuffer.{ShortBuffer}
use Rattle.plan.specs.Words.{most_points}
use Rattle.plan.specs.Links.{links_to}
use Rattle.plan.specs.Arrays.{points_plan, Writes}
use Rattle.plan.specs.Private.{rows_by}
use Rattle.plan.proofs.Writing.{sizes, fits_by, lacks_by, pieces, needs_more, mid_length, writes_all}
use Rattle.plan.proofs.write_plan.Goals as goal

-- ---- what is found of the set: its contacts
abbrev links : ℕ → List ℕ → (ℕ → Bool) → (ℕ → ℕ → Bool) → List ℕ
links n points given apart = links_to n n (rows_by n points given apart)

pub check_room-requires : goal.check_room-requires
check_room-requires c =
    let a = c.args in
    let listed = c.ascending-listed in
    let n = listed.result.count in
    let ks = links n listed.result.points (mem a.given) (square_at a.apart.now) in
    let small : (n ≤ most_points) × (length ks ≤ n * most_points) = sizes (mem a.given) n (rows_by n listed.result.points (mem a.given) (square_at a.apart.now)) listed.ensures.0 in
    (small.0, c.requires)

pub returns-in_err-check_room : goal.returns-in_err-check_room
returns-in_err-check_room c =
    let a = c.args in
    let listed = c.ascending-listed in
    let n = listed.result.count in
    let ks = links n listed.result.points (mem a.given) (square_at a.apart.now) in
    let found = pieces a.names (mem a.given) (square_at a.apart.now) n listed.result.points listed.ensures.0 listed.ensures.1 in
    let planned = points_plan a.names (mem a.given) (square_at a.apart.now) in
    let buffer = a.buffer.now in
    let lacks = lacks_by (2 + n + length ks) (length buffer) _ c.in_err-check_room.ensures in
    let p = err_from_is_err_and c.from_residual.result c.from_residual.ensures.1 in
    rw (p.1, p.2) (subst (λ (x : ShortBuffer). Writes planned buffer (Err x) buffer) (sym lacks.1) (needs_more _ _ _ _ _ found buffer lacks.0))

pub first_word-requires : goal.first_word-requires
first_word-requires c =
    let a = c.args in
    let listed = c.ascending-listed in
    let n = listed.result.count in
    let ks = links n listed.result.points (mem a.given) (square_at a.apart.now) in
    let small : (n ≤ most_points) × (length ks ≤ n * most_points) = sizes (mem a.given) n (rows_by n listed.result.points (mem a.given) (square_at a.apart.now)) listed.ensures.0 in
    small.0

pub put_points-requires : goal.put_points-requires
put_points-requires c =
    let a = c.args in
    let listed = c.ascending-listed in
    let n = listed.result.count in
    let ks = links n listed.result.points (mem a.given) (square_at a.apart.now) in
    let small : (n ≤ most_points) × (length ks ≤ n * most_points) = sizes (mem a.given) n (rows_by n listed.result.points (mem a.given) (square_at a.apart.now)) listed.ensures.0 in
    let fits : 2 + n + length ks ≤ length a.buffer.now = fits_by (2 + n + length ks) (length a.buffer.now) c.in_ok-check_room.ensures in
    (small.0, simp length-set (omega (arith, fits)))

pub put_rows-end-requires : goal.put_rows-end-requires
put_rows-end-requires c =
    let a = c.args in
    let listed = c.ascending-listed in
    let n = listed.result.count in
    let ks = links n listed.result.points (mem a.given) (square_at a.apart.now) in
    let small : (n ≤ most_points) × (length ks ≤ n * most_points) = sizes (mem a.given) n (rows_by n listed.result.points (mem a.given) (square_at a.apart.now)) listed.ensures.0 in
    let fits : 2 + n + length ks ≤ length a.buffer.now = fits_by (2 + n + length ks) (length a.buffer.now) c.in_ok-check_room.ensures in
    let found = pieces a.names (mem a.given) (square_at a.apart.now) n listed.result.points listed.ensures.0 listed.ensures.1 in
    let w = c.first_word in
    (small.0, c.requires, omega (arith, fits, mid_length _ _ _ _ _ found a.buffer.now _ [] 0 w.result fits w.ensures c.put_points.ensures))

pub overflow_cast-buffer : goal.overflow_cast-buffer
overflow_cast-buffer c =
    let a = c.args in
    let listed = c.ascending-listed in
    let n = listed.result.count in
    let ks = links n listed.result.points (mem a.given) (square_at a.apart.now) in
    let small : (n ≤ most_points) × (length ks ≤ n * most_points) = sizes (mem a.given) n (rows_by n listed.result.points (mem a.given) (square_at a.apart.now)) listed.ensures.0 in
    omega (arith, c.put_rows-end.ensures.place, small)

pub overflow_add-buffer : goal.overflow_add-buffer
overflow_add-buffer c =
    let a = c.args in
    let listed = c.ascending-listed in
    let n = listed.result.count in
    let ks = links n listed.result.points (mem a.given) (square_at a.apart.now) in
    let small : (n ≤ most_points) × (length ks ≤ n * most_points) = sizes (mem a.given) n (rows_by n listed.result.points (mem a.given) (square_at a.apart.now)) listed.ensures.0 in
    omega (arith, c.put_rows-end.ensures.place, small)

pub returns : goal.returns
returns c =
    let a = c.args in
    let listed = c.ascending-listed in
    let n = listed.result.count in
    let ks = links n listed.result.points (mem a.given) (square_at a.apart.now) in
    let fits : 2 + n + length ks ≤ length a.buffer.now = fits_by (2 + n + length ks) (length a.buffer.now) c.in_ok-check_room.ensures in
    let found = pieces a.names (mem a.given) (square_at a.apart.now) n listed.result.points listed.ensures.0 listed.ensures.1 in
    let w = c.first_word in
    writes_all _ _ _ _ _ found a.buffer.now _ _ _ w.result fits w.ensures c.put_points.ensures c.put_rows-end.ensures
