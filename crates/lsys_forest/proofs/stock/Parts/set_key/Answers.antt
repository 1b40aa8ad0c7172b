use Rattle.std.proofs.Common.{arith, ◌≡◌, Some, sym, ap, subst, refl}
use Rattle.std.proofs.lemmas.Grind.{common_steps}
use Rattle.lsys_forest.specs.declared.note.Was.TheVariants as was
use Rattle.lsys_forest.specs.Slots.{SlotTable, key_set}
use Rattle.lsys_forest.specs.Nodes.{Node, with_key}
use Rattle.lsys_forest.specs.Changes.{OldKey}
use Rattle.lsys_forest.specs.Stocks.{Stock, nodes_of, stock_of, AreStockParts, Journals}
use Rattle.lsys_forest.proofs.StockLemmas.{part_was}
use Rattle.lsys_forest.proofs.PartLemmas.{rows_of, kids_of, parts_slot, journal_slot}
use Rattle.lsys_forest.proofs.stock.Parts.set_key.Goals as goal

pub invariant_of-self : goal.invariant_of-self
invariant_of-self g c =
    let i = c.self.inside in
    subst (λ (x : SlotTable g.row.A.Denot). AreStockParts x i.params i.kids c.push.new.self.notes) (sym c.swap_key.ensures.changed)
    (parts_slot i.table i.params i.kids i.journal.notes c.push.new.self.notes c.args.node (was.Key c.in-Some.before) (key_set c.args.key) refl refl c.push.ensures.pushed c.self.invariant)

pub returns : goal.returns
returns g c =
    let i = c.self.inside in
    let ns = c.push.new.self in
    subst (λ (t : Stock g.row.A.Denot). (n : Node g.row.A.Denot) → nodes_of t c.args.node ≡ Some n → Journals t (stock_of c.swap_key.new.self i.params i.kids ns) c.args.node (Some (with_key c.args.key n)) (OldKey n.key) 0 0 0) c.self.view_is
    (λ n is. (
    let p = rows_of i.table i.params i.kids i.journal.notes ns.notes c.args.node (was.Key c.in-Some.before) in
    let q = kids_of i.table i.params i.kids i.journal.notes ns.notes c.args.node (was.Key c.in-Some.before) in
    let same = part_was (λ s. s.key) (λ (m : Node g.row.A.Denot). m.key) (λ x y s. refl) i.table.slots p q c.args.node n c.in-Some.before is c.in-Some.ensures.before in
    subst (λ (x : SlotTable g.row.A.Denot). Journals (stock_of i.table i.params i.kids i.journal) (stock_of x i.params i.kids ns) c.args.node (Some (with_key c.args.key n)) (OldKey n.key) 0 0 0) (sym c.swap_key.ensures.changed)
    (journal_slot i.table i.params i.kids i.journal.notes ns.notes c.args.node (was.Key c.in-Some.before) (key_set c.args.key) (with_key c.args.key) (λ x y s. refl) i.journal.room ns.room (OldKey n.key) n c.push.ensures.pushed c.push.ensures.room c.self.invariant is (ap OldKey same))
    ))

pub unreachable-requires : goal.unreachable-requires
unreachable-requires g c = grind (arith, common_steps)

pub push-requires : goal.push-requires
push-requires g c = grind (arith, common_steps)
