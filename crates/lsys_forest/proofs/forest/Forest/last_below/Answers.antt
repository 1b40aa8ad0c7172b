use Rattle.std.proofs.Common.{◌∙◌}
use Rattle.lsys_spec.specs.Rows.{mirrored}
use Rattle.lsys_forest.specs.Groves.{now_of}
use Rattle.lsys_forest.proofs.WalkLemmas.{last_of}
use Rattle.lsys_forest.proofs.ViewLemmas.{left_way}
use Rattle.lsys_forest.proofs.forest.Forest.last_below.Goals as goal

pub returns : goal.returns
returns g c = λ before after whole. c.child_from.ensures (mirrored after) (mirrored before) (left_way _ before c.args.spot after whole) ∙ last_of (now_of c.args.self.now) before c.args.spot
