use Rattle.std.proofs.Common.{subst, sym}
use Rattle.lsys_spec.specs.Draws.{aim_of, pick_of, IsPick}
use Rattle.lsys_spec.proofs.Picks.{only_pick, pick_of_place, place_found}
use Rattle.lsys_spec.proofs.draws.law_of_picks.Goals as goal

pub returns : goal.returns
returns c draw weights picked d =
    let is_pick = pick_of_place draw weights (pick_of draw weights) d (place_found (aim_of draw weights) weights) in
    (only_pick draw weights picked d, λ e. subst (λ p. IsPick draw weights p) (sym e) is_pick)
