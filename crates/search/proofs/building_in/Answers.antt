-- `search::building_in` meets its contract: a piece is looked for on the row's state. Assumes nothing.
use mathlib.Core.Path.{◌≡◌, ◌∙◌}
use native.Mathlib.Omega.{arith}
use Rattle.squares.specs.Square.{reach}
use Rattle.squares.proofs.Rows.{same_reach, same_square}
use Rattle.search.specs.Planned.{StateSays}
use Rattle.search.specs.Building.{FoundSays, BuildingIn}
use Rattle.search.proofs.building_in.Goals as goal

pub first_piece-requires : goal.first_piece-requires
first_piece-requires c =
    let s = c in
    let st = c.state_of-allowed in
    (s.requires.0, same_square st.new.rows s.args.rows.now st.ensures.0 s.requires.1)

pub returns : goal.returns
unfolding BuildingIn FoundSays StateSays
returns c = λ atoms h wide.
    let a = c.args in
    let st = c.state_of-allowed in
    let same : reach st.new.rows ≡ reach a.rows.now = same_reach st.new.rows a.rows.now st.ensures.0 in
    c.is_some.ensures ∙ (c.first_piece.ensures atoms h (st.ensures.1 atoms h (omega (arith, same, wide)))).checked
