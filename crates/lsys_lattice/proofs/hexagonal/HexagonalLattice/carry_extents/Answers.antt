use Rattle.std.proofs.Common.{refl, ap, ◌∙◌}
use Rattle.lsys_lattice.proofs.Reach.{same_reach, hexagonal_East, hexagonal_East-carried, hexagonal_NorthEast, hexagonal_NorthEast-carried, hexagonal_NorthWest, hexagonal_NorthWest-carried, hexagonal_West, hexagonal_West-carried, hexagonal_SouthWest, hexagonal_SouthWest-carried, hexagonal_SouthEast, hexagonal_SouthEast-carried}
use Rattle.lsys_lattice.proofs.hexagonal.HexagonalLattice.carry_extents.Goals as goal

pub returns-in-East : goal.returns-in-East
returns-in-East c v vs e =
    rw c.in-East.is (
    c.of.ensures
    ∙ same_reach _ _ _ _ _ _ _ _ _ _ _ _ refl refl refl refl refl refl
    ∙ ap hexagonal_East (c.spans.ensures ∙ e)
    ∙ hexagonal_East-carried v vs
    )

pub returns-in-NorthEast : goal.returns-in-NorthEast
returns-in-NorthEast c v vs e =
    rw c.in-NorthEast.is (
    c.of-in-NorthEast.ensures
    ∙ same_reach _ _ _ _ _ _ _ _ _ _ _ _ c.back.ensures.low refl refl c.back.ensures.high refl refl
    ∙ ap hexagonal_NorthEast (c.spans.ensures ∙ e)
    ∙ hexagonal_NorthEast-carried v vs
    )

pub returns-in-NorthWest : goal.returns-in-NorthWest
returns-in-NorthWest c v vs e =
    rw c.in-NorthWest.is (
    c.of-in-NorthWest.ensures
    ∙ same_reach _ _ _ _ _ _ _ _ _ _ _ _ c.back-in-NorthWest.ensures.low refl c.back-in-NorthWest-2.ensures.low c.back-in-NorthWest.ensures.high refl c.back-in-NorthWest-2.ensures.high
    ∙ ap hexagonal_NorthWest (c.spans.ensures ∙ e)
    ∙ hexagonal_NorthWest-carried v vs
    )

pub returns-in-West : goal.returns-in-West
returns-in-West c v vs e =
    rw c.in-West.is (
    c.of-in-West.ensures
    ∙ same_reach _ _ _ _ _ _ _ _ _ _ _ _ c.back-in-West.ensures.low c.back-in-West-2.ensures.low c.back-in-West-3.ensures.low c.back-in-West.ensures.high c.back-in-West-2.ensures.high c.back-in-West-3.ensures.high
    ∙ ap hexagonal_West (c.spans.ensures ∙ e)
    ∙ hexagonal_West-carried v vs
    )

pub returns-in-SouthWest : goal.returns-in-SouthWest
returns-in-SouthWest c v vs e =
    rw c.in-SouthWest.is (
    c.of-in-SouthWest.ensures
    ∙ same_reach _ _ _ _ _ _ _ _ _ _ _ _ refl c.back-in-SouthWest.ensures.low c.back-in-SouthWest-2.ensures.low refl c.back-in-SouthWest.ensures.high c.back-in-SouthWest-2.ensures.high
    ∙ ap hexagonal_SouthWest (c.spans.ensures ∙ e)
    ∙ hexagonal_SouthWest-carried v vs
    )

pub returns-in-SouthEast : goal.returns-in-SouthEast
returns-in-SouthEast c v vs e =
    rw c.in-SouthEast.is (
    c.of-in-SouthEast.ensures
    ∙ same_reach _ _ _ _ _ _ _ _ _ _ _ _ refl c.back-in-SouthEast.ensures.low refl refl c.back-in-SouthEast.ensures.high refl
    ∙ ap hexagonal_SouthEast (c.spans.ensures ∙ e)
    ∙ hexagonal_SouthEast-carried v vs
    )
