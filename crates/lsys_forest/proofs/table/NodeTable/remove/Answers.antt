use Rattle.std.proofs.Common.{◌≡◌, None, slice_set, subst}
use Rattle.lsys_forest.specs.Slots.{SlotTable, no_footing, table_of}
use Rattle.lsys_forest.proofs.TableLemmas.{removed}
use Rattle.lsys_forest.proofs.table.NodeTable.remove.Goals as goal

pub returns-clause-gone : goal.returns-clause-gone
returns-clause-gone g c =
    let i = c.self.inside in
    let e = c.try_remove.ensures in
    let new = c.try_remove.new.self in
    subst (λ k. table_of new ≡ record c.args.self.now { slots = slice_set c.args.self.now.slots k None; param_runs = slice_set c.args.self.now.param_runs k None; kid_runs = slice_set c.args.self.now.kid_runs k None; footings = slice_set c.args.self.now.footings k no_footing; next = new.vacant_key }) c.number.view_is
    (subst (λ (t : SlotTable g.row.A.Denot). table_of new ≡ record t { slots = slice_set t.slots c.number.inside.0 None; param_runs = slice_set t.param_runs c.number.inside.0 None; kid_runs = slice_set t.kid_runs c.number.inside.0 None; footings = slice_set t.footings c.number.inside.0 no_footing; next = new.vacant_key }) c.self.view_is
    (removed i.nodes new c.number.inside.0 c.try_remove.result e.value e.slots e.absent e.capacity))
