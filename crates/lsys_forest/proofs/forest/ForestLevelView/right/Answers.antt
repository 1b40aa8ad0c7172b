use Rattle.lsys_forest.specs.Groves.{changes_in}
use Rattle.lsys_forest.proofs.ViewLemmas.{node_at, right_match}
use Rattle.lsys_forest.proofs.forest.ForestLevelView.right.Goals as goal

pub returns : goal.returns
returns g c =
    let f = c.args.self.now in
    let sound = c.beside.ensures.sound in
    let at = node_at f (changes_in f) c.args.spot sound c.requires in
    right_match f (changes_in f) c.args.spot c.beside.result sound at (c.beside.ensures.beside at.before at.after at.level)
