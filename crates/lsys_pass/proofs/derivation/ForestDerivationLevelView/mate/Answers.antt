use Rattle.lsys_pass.proofs.Keyed.{tells, at_spot, bracket_there, mate_level, mate_told}
use Rattle.lsys_pass.proofs.derivation.ForestDerivationLevelView.mate.Goals as goal

pub mate-requires-clause-spot : goal.mate-requires-clause-spot
mate-requires-clause-spot g c = at_spot _ _ _ _ (tells c.self.inside.system _ _ _ c.forest.ensures.pass c.self.view_is
    c.forest.ensures.forest) c.args.spot c.requires.spot

pub mate-requires-clause-bracket : goal.mate-requires-clause-bracket
mate-requires-clause-bracket g c = bracket_there _ _ _ _
    (tells c.self.inside.system _ _ _ c.forest.ensures.pass c.self.view_is c.forest.ensures.forest) c.args.spot c.requires.spot
    c.requires.bracket

pub returns-clause-level : goal.returns-clause-level
returns-clause-level g c = mate_level _ _ _ _ (tells c.self.inside.system _ _ _ c.forest.ensures.pass c.self.view_is
    c.forest.ensures.forest) c.args.spot c.requires.spot c.mate.result c.mate.ensures.level c.mate.ensures.mate

pub returns-clause-mate : goal.returns-clause-mate
returns-clause-mate g c = mate_told _ _ _ _ (tells c.self.inside.system _ _ _ c.forest.ensures.pass c.self.view_is
    c.forest.ensures.forest) c.args.spot c.requires.spot c.mate.result c.mate.ensures.level c.mate.ensures.mate
