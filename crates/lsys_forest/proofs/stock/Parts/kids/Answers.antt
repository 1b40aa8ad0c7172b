use Rattle.std.proofs.Common.{◌≡◌, subst}
use Rattle.lsys_forest.specs.Slots.{slot_at}
use Rattle.lsys_forest.specs.Stocks.{Stock, row_at}
use Rattle.lsys_forest.proofs.ShelfLemmas.{run_live, run_read}
use Rattle.lsys_forest.proofs.stock.Parts.kids.Goals as goal

pub read-requires : goal.read-requires
read-requires g c =
    let i = c.self.inside in
    run_live i.kids i.table.kid_runs (slot_at i.table.slots c.args.node) c.args.node c.in-Some.run'.now c.in-Some.ensures c.self.invariant.kids

pub returns : goal.returns
returns g c =
    let i = c.self.inside in
    subst (λ (t : Stock g.row.A.Denot). c.read.result.now ≡ row_at t.kids c.args.node) c.self.view_is
    (run_read i.kids i.table.kid_runs (slot_at i.table.slots c.args.node) c.args.node c.in-Some.run'.now c.read.result.now c.in-Some.ensures c.read.ensures)
