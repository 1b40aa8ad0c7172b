use Rattle.std.proofs.Common.{[], sym, subst}
use Rattle.std.specs.Prelude.{None}
use Rattle.lsys_region.specs.Pool.{Pool, IsFresh, OthersStay, empty_pool}
use Rattle.lsys_forest.specs.Shelves.{AreOwned}
use Rattle.lsys_forest.proofs.ShelfLemmas.{room_nil}
use Rattle.lsys_forest.proofs.OwnerLemmas.{AreOwned-new}
use Rattle.lsys_forest.proofs.lists.Lists.new.Goals as goal

pub place-hand-requires : goal.place-hand-requires
place-hand-requires g c = room_nil _

pub returns-clause-owned : goal.returns-clause-owned
returns-clause-owned g c =
    let none : Pool g.row.T.Denot = empty_pool in
    let owned = AreOwned-new c.place-hand.result c.place-hand.new.self (subst (λ (p : Pool g.row.T.Denot). IsFresh p c.place-hand.result []) c.new-region.ensures c.place-hand.ensures.fresh) (subst (λ (p : Pool g.row.T.Denot). OthersStay p c.place-hand.new.self c.place-hand.result) c.new-region.ensures c.place-hand.ensures.others) in
    subst (λ p. AreOwned c.place-hand.new.self [] p c.place-hand.result None) (sym c.new.ensures.items) owned
