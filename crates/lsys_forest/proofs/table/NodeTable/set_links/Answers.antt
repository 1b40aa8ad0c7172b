use Rattle.std.proofs.Common.{◌≡◌, ◌≢◌, ◌∙◌, ℕ, sym, ap, subst}
use Rattle.std.specs.Prelude.{IsSome}
use Rattle.lsys_forest.specs.Slots.{SlotTable, slot_at, footing_at, links_set, table_of}
use Rattle.lsys_forest.proofs.TableLemmas.{changed_footing, footing_there, footing_other}
use Rattle.lsys_forest.proofs.table.NodeTable.set_links.Goals as goal

pub returns-clause-same : goal.returns-clause-same
returns-clause-same g c =
    let i = c.self.inside in
    let new = table_of c.change_links.new.nodes in
    let is = changed_footing (links_set c.args.left c.args.right) i.nodes c.change_links.new.nodes c.args.number c.change_links.ensures in
    subst (λ (t : SlotTable g.row.A.Denot). new ≡ record t { footings = new.footings }) c.self.view_is
    (is ∙ ap (λ fs. record (table_of i.nodes) { footings = fs }) (sym (ap (λ (t : SlotTable g.row.A.Denot). t.footings) is)))

pub returns-clause-here : goal.returns-clause-here
returns-clause-here g c =
    let i = c.self.inside in
    subst (λ (t : SlotTable g.row.A.Denot). IsSome (slot_at t.slots c.args.number) → footing_at (table_of c.change_links.new.nodes).footings c.args.number ≡ links_set c.args.left c.args.right (footing_at t.footings c.args.number)) c.self.view_is
    (footing_there (links_set c.args.left c.args.right) i.nodes c.change_links.new.nodes c.args.number c.change_links.ensures)

pub returns-clause-others : goal.returns-clause-others
returns-clause-others g c =
    let i = c.self.inside in
    let new = table_of c.change_links.new.nodes in
    let is = changed_footing (links_set c.args.left c.args.right) i.nodes c.change_links.new.nodes c.args.number c.change_links.ensures in
    subst (λ (t : SlotTable g.row.A.Denot). (j : ℕ) → j ≢ c.args.number → footing_at new.footings j ≡ footing_at t.footings j) c.self.view_is
    (λ j ne. footing_other (links_set c.args.left c.args.right) (slot_at (table_of i.nodes).slots c.args.number) (table_of i.nodes).footings new.footings c.args.number j (ap (λ (t : SlotTable g.row.A.Denot). t.footings) is) ne)
