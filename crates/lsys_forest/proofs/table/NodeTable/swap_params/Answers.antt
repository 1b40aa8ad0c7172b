use Rattle.std.proofs.Common.{◌≡◌, None, get_or, subst}
use Rattle.lsys_forest.specs.Slots.{SlotTable, slot_at, change_run, run_after, table_of}
use Rattle.lsys_forest.proofs.TableLemmas.{changed_params, params_there}
use Rattle.lsys_forest.proofs.table.NodeTable.swap_params.Goals as goal

pub returns-clause-changed : goal.returns-clause-changed
returns-clause-changed g c =
    let i = c.self.inside in
    subst (λ (t : SlotTable g.row.A.Denot). table_of c.change_params.new.nodes ≡ record t { param_runs = change_run (slot_at t.slots c.args.number) t.param_runs c.args.number c.args.run }) c.self.view_is
    (changed_params c.args.run i.nodes c.change_params.new.nodes c.args.number c.change_params.ensures.changed)

pub returns-clause-here : goal.returns-clause-here
returns-clause-here g c =
    let i = c.self.inside in
    subst (λ (t : SlotTable g.row.A.Denot). get_or (table_of c.change_params.new.nodes).param_runs c.args.number None ≡ run_after (slot_at t.slots c.args.number) c.args.run) c.self.view_is
    (params_there c.args.run i.nodes c.change_params.new.nodes c.args.number c.change_params.ensures.changed)
