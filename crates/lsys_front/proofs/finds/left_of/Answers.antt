use Rattle.lsys_front.proofs.Beside.{left_told}
use Rattle.lsys_front.proofs.finds.left_of.Goals as goal

pub returns : goal.returns
returns g c = left_told c.args.forest.now c.args.node c.left.result c.requires c.left.ensures
