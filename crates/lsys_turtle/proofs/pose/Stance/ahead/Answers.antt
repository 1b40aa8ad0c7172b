use Rattle.std.proofs.Common.{◌≡◌, ◌∙◌, rules}
use Rattle.lsys_spec.specs.Lattices.{Vector}
use Rattle.lsys_spec.specs.Pictures.{place_ahead}
use Rattle.lsys_turtle.specs.Ways.{in_reach}
use Rattle.lsys_turtle.proofs.Reaches.{all_in_reach}
use Rattle.lsys_turtle.proofs.pose.Stance.ahead.Goals as goal

pub returns : goal.returns
returns g c =
    let v : Vector = place_ahead c.args.steps c.args.self.now in
    let x : c.reached-x.result ≡ in_reach v.x = search rules in
    let y : c.reached-y.result ≡ in_reach v.y = search rules in
    let z : c.reached-z.result ≡ in_reach v.z = search rules in
    c.placed.ensures ∙ (rw (x, y, z) (all_in_reach v))
