use Rattle.lsys_pass.proofs.Keyed.{tells, level_told, first_told}
use Rattle.lsys_pass.proofs.derivation.ForestDerivationLevelView.first.Goals as goal

pub first-requires : goal.first-requires
first-requires g c = level_told _ _ _ _ (tells c.self.inside.system _ _ _ c.forest.ensures.pass c.self.view_is
    c.forest.ensures.forest) c.args.level c.requires

pub returns : goal.returns
returns g c = first_told _ _ _ _ (tells c.self.inside.system _ _ _ c.forest.ensures.pass c.self.view_is c.forest.ensures.forest)
    c.args.level c.first.result c.requires c.first.ensures
