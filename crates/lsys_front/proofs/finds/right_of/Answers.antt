use Rattle.lsys_front.proofs.Beside.{right_told}
use Rattle.lsys_front.proofs.finds.right_of.Goals as goal

pub returns : goal.returns
returns g c = right_told c.args.forest.now c.args.node c.right.result c.requires c.right.ensures
