use Rattle.lsys_spec.specs.Draws.{aim_of}
use Rattle.lsys_spec.proofs.Picks.{place_past-le, aim_of-le}
use Rattle.lsys_spec.proofs.draws.law_of_greater_draws.Goals as goal

pub returns : goal.returns
returns c less more weights i j le e e' =
    place_past-le (aim_of less weights) (aim_of more weights) weights i j (aim_of-le less more weights le) e e'
