use Rattle.lsys_pass.proofs.Keyed.{tells, at_spot, left_told}
use Rattle.lsys_pass.proofs.derivation.ForestDerivationLevelView.left.Goals as goal

pub left-requires : goal.left-requires
left-requires g c = at_spot _ _ _ _ (tells c.self.inside.system _ _ _ c.forest.ensures.pass c.self.view_is
    c.forest.ensures.forest) c.args.spot c.requires

pub returns : goal.returns
returns g c = left_told _ _ _ _ (tells c.self.inside.system _ _ _ c.forest.ensures.pass c.self.view_is c.forest.ensures.forest)
    c.args.spot c.requires c.left.result c.left.ensures
