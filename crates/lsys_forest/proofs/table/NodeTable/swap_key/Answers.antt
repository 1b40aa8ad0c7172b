use Rattle.std.proofs.Common.{◌≡◌, subst}
use Rattle.lsys_forest.specs.Slots.{SlotTable, change_slot, key_set, table_of}
use Rattle.lsys_forest.proofs.TableLemmas.{changed_node}
use Rattle.lsys_forest.proofs.table.NodeTable.swap_key.Goals as goal

pub returns-clause-changed : goal.returns-clause-changed
returns-clause-changed g c =
    let i = c.self.inside in
    subst (λ (t : SlotTable g.row.A.Denot). table_of c.change_key.new.nodes ≡ record t { slots = change_slot (key_set c.args.key) t.slots c.args.number }) c.self.view_is
    (changed_node (key_set c.args.key) i.nodes c.change_key.new.nodes c.args.number c.change_key.ensures.changed)
