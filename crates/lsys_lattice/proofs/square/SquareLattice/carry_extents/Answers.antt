use Rattle.std.proofs.Common.{refl, ap, ◌∙◌}
use Rattle.lsys_lattice.proofs.Reach.{same_reach, square_North, square_North-carried, square_West, square_West-carried, square_South, square_South-carried, square_East, square_East-carried}
use Rattle.lsys_lattice.proofs.square.SquareLattice.carry_extents.Goals as goal

pub returns-in-North : goal.returns-in-North
returns-in-North c v vs e =
    rw c.in-North.is (
    c.of.ensures
    ∙ same_reach _ _ _ _ _ _ _ _ _ _ _ _ refl refl refl refl refl refl
    ∙ ap square_North (c.spans.ensures ∙ e)
    ∙ square_North-carried v vs
    )

pub returns-in-West : goal.returns-in-West
returns-in-West c v vs e =
    rw c.in-West.is (
    c.of-in-West.ensures
    ∙ same_reach _ _ _ _ _ _ _ _ _ _ _ _ c.back.ensures.low refl refl c.back.ensures.high refl refl
    ∙ ap square_West (c.spans.ensures ∙ e)
    ∙ square_West-carried v vs
    )

pub returns-in-South : goal.returns-in-South
returns-in-South c v vs e =
    rw c.in-South.is (
    c.of-in-South.ensures
    ∙ same_reach _ _ _ _ _ _ _ _ _ _ _ _ c.back-in-South.ensures.low c.back-in-South-2.ensures.low refl c.back-in-South.ensures.high c.back-in-South-2.ensures.high refl
    ∙ ap square_South (c.spans.ensures ∙ e)
    ∙ square_South-carried v vs
    )

pub returns-in-East : goal.returns-in-East
returns-in-East c v vs e =
    rw c.in-East.is (
    c.of-in-East.ensures
    ∙ same_reach _ _ _ _ _ _ _ _ _ _ _ _ refl c.back-in-East.ensures.low refl refl c.back-in-East.ensures.high refl
    ∙ ap square_East (c.spans.ensures ∙ e)
    ∙ square_East-carried v vs
    )
