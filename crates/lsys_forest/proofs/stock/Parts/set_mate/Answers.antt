use Rattle.std.proofs.Common.{◌≡◌, ◌≢◌, ℕ, map, refl, sym, subst}
use Rattle.std.specs.Prelude.{IsSome}
use Rattle.lsys_forest.specs.Shelves.{run_list}
use Rattle.lsys_forest.specs.Slots.{footing_at, mate_set}
use Rattle.lsys_forest.specs.Stocks.{Stock, nodes_of}
use Rattle.lsys_forest.proofs.StockLemmas.{lives_stored}
use Rattle.lsys_forest.proofs.stock.Parts.set_mate.Goals as goal

pub returns-clause-here : goal.returns-clause-here
returns-clause-here g c =
    let i = c.self.inside in
    let k = c.args.node in
    let params = map (run_list i.params.pool) i.table.param_runs in
    let kids = map (run_list i.kids.pool) i.table.kid_runs in
    let lives = subst (λ (t : Stock g.row.A.Denot). IsSome (nodes_of t k)) (sym c.self.view_is) c.requires.lives in
    let stored = lives_stored i.table.slots params kids k lives in
    subst (λ (t : Stock g.row.A.Denot). footing_at c.set_mate.new.self.footings k ≡ mate_set c.args.to (footing_at t.footings k)) c.self.view_is
    (c.set_mate.ensures.here (subst IsSome (sym stored.1) refl))

pub returns-clause-others : goal.returns-clause-others
returns-clause-others g c =
    subst (λ (t : Stock g.row.A.Denot). (j : ℕ) → j ≢ c.args.node → footing_at c.set_mate.new.self.footings j ≡ footing_at t.footings j) c.self.view_is c.set_mate.ensures.others
