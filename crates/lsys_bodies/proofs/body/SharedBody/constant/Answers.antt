use Rattle.std.proofs.Common.{rules, ◌≡◌}
use Rattle.std.specs.Prelude.{option_map}
use Rattle.lsys_spec.specs.Bodies.{body_of}
use Rattle.lsys_bodies.specs.Constants.{constant_of}
use Rattle.lsys_bodies.specs.Views.{as_rule, body_value}
use Rattle.lsys_bodies.proofs.Constants.{is_constant}
use Rattle.lsys_bodies.proofs.body.SharedBody.constant.Goals as goal

pub returns-clause-filled : goal.returns-clause-filled
returns-clause-filled c =
    let found : option_map (λ s. s.now) c.as_ref.result ≡ constant_of c.args.self.now.successor.items = search rules in
    let means : body_of (as_rule c.args.self.now) ≡ body_value c.args.self.now = search rules in
    is_constant c.args.self.now means c.as_ref.result found
