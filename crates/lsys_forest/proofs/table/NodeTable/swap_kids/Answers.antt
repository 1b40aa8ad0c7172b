use Rattle.std.proofs.Common.{◌≡◌, None, get_or, subst}
use Rattle.lsys_forest.specs.Slots.{SlotTable, slot_at, change_run, run_after, table_of}
use Rattle.lsys_forest.proofs.TableLemmas.{changed_kids, kids_there}
use Rattle.lsys_forest.proofs.table.NodeTable.swap_kids.Goals as goal

pub returns-clause-changed : goal.returns-clause-changed
returns-clause-changed g c =
    let i = c.self.inside in
    subst (λ (t : SlotTable g.row.A.Denot). table_of c.change_kids.new.nodes ≡ record t { kid_runs = change_run (slot_at t.slots c.args.number) t.kid_runs c.args.number c.args.run }) c.self.view_is
    (changed_kids c.args.run i.nodes c.change_kids.new.nodes c.args.number c.change_kids.ensures.changed)

pub returns-clause-here : goal.returns-clause-here
returns-clause-here g c =
    let i = c.self.inside in
    subst (λ (t : SlotTable g.row.A.Denot). get_or (table_of c.change_kids.new.nodes).kid_runs c.args.number None ≡ run_after (slot_at t.slots c.args.number) c.args.run) c.self.view_is
    (kids_there c.args.run i.nodes c.change_kids.new.nodes c.args.number c.change_kids.ensures.changed)
