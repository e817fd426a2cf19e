-- `search::points_of` meets its contract: the set has the points, by the row's state, whose square has what the row separates. Assumes nothing.
use mathlib.Core.Path.{◌≡◌}
use native.Mathlib.Omega.{arith}
use Rattle.squares.specs.Square.{reach}
use Rattle.squares.proofs.Rows.{same_reach, same_square}
use Rattle.search.specs.Planned.{StateSays, PointsSay, PlanSays}
use Rattle.search.proofs.Listing.{points_are}
use Rattle.search.proofs.points_of.Goals as goal

pub points-requires : goal.points-requires
points-requires c =
    let s = c in
    let st = c.state_of-allowed in
    (s.requires.0, same_square st.new.rows s.args.rows.now st.ensures.0 s.requires.1.square)

pub returns : goal.returns
unfolding PlanSays PointsSay StateSays
returns c =
    let s = c in
    let st = c.state_of-allowed in
    let same : reach st.new.rows ≡ reach s.args.rows.now = same_reach st.new.rows s.args.rows.now st.ensures.0 in (
      same_square st.new.rows s.args.rows.now st.ensures.0 s.requires.1.square,
      λ atoms h.
          let f = st.ensures.1 atoms h (omega (arith, same, s.requires.1.wide)) in
          record { listed = points_are _ _ h.few _ c.points.result (c.points.ensures atoms h f); apart = f.rows_are },
    )
