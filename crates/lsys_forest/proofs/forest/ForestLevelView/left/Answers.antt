use Rattle.lsys_spec.specs.Rows.{mirrored}
use Rattle.lsys_forest.specs.Groves.{changes_in}
use Rattle.lsys_forest.proofs.ViewLemmas.{node_at, left_match, left_way}
use Rattle.lsys_forest.proofs.forest.ForestLevelView.left.Goals as goal

pub returns : goal.returns
returns g c =
    let f = c.args.self.now in
    let sound = c.beside.ensures.sound in
    let at = node_at f (changes_in f) c.args.spot sound c.requires in
    left_match f (changes_in f) c.args.spot c.beside.result sound at (c.beside.ensures.beside (mirrored at.after) (mirrored at.before) (left_way _ at.before c.args.spot at.after at.level))
