use Rattle.std.proofs.Common.{◌≡◌, sym, ◌∙◌, subst}
use Rattle.lsys_forest.specs.Slots.{SlotTable, live_slots}
use Rattle.lsys_forest.proofs.TableLemmas.{live_is}
use Rattle.lsys_forest.proofs.table.NodeTable.live.Goals as goal

pub returns : goal.returns
returns g c =
    let i = c.self.inside in
    subst (λ (t : SlotTable g.row.A.Denot). c.len.result ≡ live_slots t.slots) c.self.view_is (c.len.ensures ∙ sym (live_is i.nodes.slots))
