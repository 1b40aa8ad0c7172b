use Rattle.std.proofs.Common.{arith, ◌≡◌, ℕ, ℤ, [], length, map, Some, None, sym, ap, ◌∙◌}
use Rattle.std.proofs.lemmas.Grind.{common_steps}
use Rattle.lsys_forest.specs.declared.node.Stored.{Stored}
use Rattle.lsys_forest.specs.Shelves.{Shelf, run_list}
use Rattle.lsys_forest.specs.Slots.{SlotTable}
use Rattle.lsys_forest.specs.Nodes.{with_node}
use Rattle.lsys_forest.specs.Stocks.{node_of, param_count, kid_count}
use Rattle.lsys_forest.proofs.ShelfLemmas.{room_nil}
use Rattle.lsys_forest.proofs.StockLemmas.{shown_nodes, node_put}
use Rattle.lsys_forest.proofs.stock.Parts.of_root.Goals as goal

pub insert-requires-clause-room : goal.insert-requires-clause-room
insert-requires-clause-room g c = room_nil _

pub invariant_of-parts : goal.invariant_of-parts
invariant_of-parts g c =
    let e = c.insert.ensures in
    let params : map (run_list c.insert.new.params.pool) c.insert.new.params.past ≡ [] = ap (λ (s : Shelf ℤ). s.past) e.has_params.rest ∙ ap (map (run_list c.new-params.result.pool)) c.new-params.ensures.past in
    let kids : map (run_list c.insert.new.kids.pool) c.insert.new.kids.past ≡ [] = ap (λ (s : Shelf ℕ). s.past) e.no_kids.rest ∙ ap (map (run_list c.new-kids.result.pool)) c.new-kids.ensures.past in
    record {
      params = e.params;
      kids = e.kids;
      stock = record {
        past_params_long = ap length params ∙ sym (ap param_count c.new.ensures);
        past_kids_long = ap length kids ∙ sym (ap kid_count c.new.ensures);
      };
    }

pub returns-clause-nodes : goal.returns-clause-nodes
returns-clause-nodes g c =
    let e = c.insert.ensures in
    let t = c.reserve.new.self in
    let t' = c.insert.new.table in
    let p = c.new-params.result in
    let p' = c.insert.new.params in
    let q = c.new-kids.result in
    let q' = c.insert.new.kids in
    let params = map (run_list p.pool) t.param_runs in
    let kids = map (run_list q.pool) t.kid_runs in
    let new = ap (λ (x : SlotTable g.row.A.Denot). x.slots) c.reserve.ensures.nodes ∙ ap (λ (x : SlotTable g.row.A.Denot). x.slots) c.new-table.ensures in
    let first : c.insert.result ≡ 0 = e.next ∙ ap (λ (x : SlotTable g.row.A.Denot). x.next) c.reserve.ensures.nodes ∙ ap (λ (x : SlotTable g.row.A.Denot). x.next) c.new-table.ensures in
    c.reserve-2.ensures.nodes
    ∙ node_put t.slots t'.slots params (map (run_list p'.pool) t'.param_runs) kids (map (run_list q'.pool) t'.kid_runs) c.insert.result c.root_stored.result [] [] e.here e.others e.has_params.comes e.no_kids.comes
    ∙ ap (λ k. with_node (shown_nodes t.slots params kids) k (Some (node_of [] [] c.root_stored.result))) first
    ∙ ap (λ xs. with_node (shown_nodes xs params kids) 0 (Some (node_of [] [] c.root_stored.result))) new
    ∙ ap (λ (s : Stored g.row.A.Denot). with_node (λ k. None) 0 (Some (node_of [] [] s))) c.root_stored.ensures

pub returns-clause-live : goal.returns-clause-live
returns-clause-live g c = grind (arith, common_steps)

pub returns-clause-capacity : goal.returns-clause-capacity
returns-clause-capacity g c = grind (arith, common_steps)
