use Rattle.std.proofs.Common.{◌≡◌, subst}
use Rattle.std.specs.Prelude.{IsSome}
use Rattle.lsys_forest.specs.Slots.{SlotTable, slot_at, footing_at, change_footing, rank_set, table_of}
use Rattle.lsys_forest.proofs.TableLemmas.{changed_footing, footing_there}
use Rattle.lsys_forest.proofs.table.NodeTable.set_rank.Goals as goal

pub returns-clause-changed : goal.returns-clause-changed
returns-clause-changed g c =
    let i = c.self.inside in
    subst (λ (t : SlotTable g.row.A.Denot). table_of c.change_rank.new.nodes ≡ record t { footings = change_footing (rank_set c.args.rank) (slot_at t.slots c.args.number) t.footings c.args.number }) c.self.view_is
    (changed_footing (rank_set c.args.rank) i.nodes c.change_rank.new.nodes c.args.number c.change_rank.ensures)

pub returns-clause-here : goal.returns-clause-here
returns-clause-here g c =
    let i = c.self.inside in
    subst (λ (t : SlotTable g.row.A.Denot). IsSome (slot_at t.slots c.args.number) → footing_at (table_of c.change_rank.new.nodes).footings c.args.number ≡ rank_set c.args.rank (footing_at t.footings c.args.number)) c.self.view_is
    (footing_there (rank_set c.args.rank) i.nodes c.change_rank.new.nodes c.args.number c.change_rank.ensures)
