use Rattle.std.proofs.Common.{refl}
use Rattle.lsys_forest.specs.Shelves.{Hand}
use Rattle.lsys_forest.proofs.stock.Parts.in_hand.Goals as goal

pub in_hand-requires : goal.in_hand-requires
in_hand-requires g c = c.self.invariant.kids.live Hand c.self.inside.kids.hand refl
