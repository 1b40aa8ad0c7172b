use Rattle.std.proofs.Common.{arith, ℕ, map, ap, ◌∙◌}
use Rattle.std.proofs.lemmas.Grind.{common_steps}
use Rattle.lsys_forest.specs.Shelves.{Shelf, run_list}
use Rattle.lsys_forest.specs.Stocks.{nodes_of}
use Rattle.lsys_forest.proofs.StockLemmas.{shown_nodes}
use Rattle.lsys_forest.proofs.stock.Parts.put_down.Goals as goal

pub returns-clause-nodes : goal.returns-clause-nodes
returns-clause-nodes g c =
    let i = c.self.inside in
    ap (λ (s : Shelf ℕ). shown_nodes i.table.slots (map (run_list i.params.pool) i.table.param_runs) s.current) (c.put_down.ensures.put i.table.kid_runs c.self.invariant.kids).0 ∙ ap nodes_of c.self.view_is

pub invariant_of-self : goal.invariant_of-self
invariant_of-self g c = grind (arith, common_steps)

pub returns-clause-changes : goal.returns-clause-changes
returns-clause-changes g c = grind (arith, common_steps)

pub returns-clause-live : goal.returns-clause-live
returns-clause-live g c = grind (arith, common_steps)

pub returns-clause-keeps : goal.returns-clause-keeps
returns-clause-keeps g c = grind (arith, common_steps)
