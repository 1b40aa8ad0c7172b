use Rattle.std.proofs.Common.{◌≡◌, sym, subst}
use Rattle.lsys_forest.specs.Shelves.{Hoard, run_list}
use Rattle.lsys_forest.proofs.ShelfLemmas.{shows_placed}
use Rattle.lsys_forest.proofs.lists.Lists.in_hand.Goals as goal

pub returns : goal.returns
returns g c =
    let i = c.self.inside in
    subst (λ (h : Hoard g.row.T.Denot). c.read.result.now ≡ run_list h.pool h.hand) c.self.view_is (sym (shows_placed i.region i.hand c.read.result.now c.read.ensures))
