use Rattle.std.proofs.Common.{◌≡◌, subst}
use Rattle.lsys_forest.specs.Slots.{SlotTable, change_slot, kind_set, table_of}
use Rattle.lsys_forest.proofs.TableLemmas.{changed_node}
use Rattle.lsys_forest.proofs.table.NodeTable.swap_kind.Goals as goal

pub returns-clause-changed : goal.returns-clause-changed
returns-clause-changed g c =
    let i = c.self.inside in
    subst (λ (t : SlotTable g.row.A.Denot). table_of c.change_kind.new.nodes ≡ record t { slots = change_slot (kind_set c.args.kind) t.slots c.args.number }) c.self.view_is
    (changed_node (kind_set c.args.kind) i.nodes c.change_kind.new.nodes c.args.number c.change_kind.ensures.changed)
