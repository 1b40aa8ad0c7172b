use Rattle.lsys_pass.proofs.Keyed.{tells, at_spot, right_told}
use Rattle.lsys_pass.proofs.derivation.ForestDerivationLevelView.right.Goals as goal

pub right-requires : goal.right-requires
right-requires g c = at_spot _ _ _ _ (tells c.self.inside.system _ _ _ c.forest.ensures.pass c.self.view_is
    c.forest.ensures.forest) c.args.spot c.requires

pub returns : goal.returns
returns g c = right_told _ _ _ _ (tells c.self.inside.system _ _ _ c.forest.ensures.pass c.self.view_is c.forest.ensures.forest)
    c.args.spot c.requires c.right.result c.right.ensures
