use Rattle.std.proofs.Common.{arith, ◌≡◌, Some, sym, ap, subst, refl}
use Rattle.std.proofs.lemmas.Grind.{common_steps}
use Rattle.lsys_forest.specs.declared.note.Was.TheVariants as was
use Rattle.lsys_forest.specs.Slots.{SlotTable, answer_set}
use Rattle.lsys_forest.specs.Nodes.{Node, with_answer}
use Rattle.lsys_forest.specs.Changes.{OldAnswer}
use Rattle.lsys_forest.specs.Stocks.{Stock, nodes_of, stock_of, AreStockParts, Journals}
use Rattle.lsys_forest.proofs.StockLemmas.{answer_was}
use Rattle.lsys_forest.proofs.PartLemmas.{rows_of, kids_of, parts_slot, journal_slot}
use Rattle.lsys_forest.proofs.stock.Parts.set_answer.Goals as goal

pub invariant_of-self : goal.invariant_of-self
invariant_of-self g c =
    let i = c.self.inside in
    subst (λ (x : SlotTable g.row.A.Denot). AreStockParts x i.params i.kids c.push_answer.new.self.notes) (sym c.swap_answer-before.ensures.changed)
    (parts_slot i.table i.params i.kids i.journal.notes c.push_answer.new.self.notes c.args.node (was.Answer c.swap_answer-before.result) (answer_set c.args.answer) refl refl c.push_answer.ensures.pushed c.self.invariant)

pub returns : goal.returns
returns g c =
    let i = c.self.inside in
    let ns = c.push_answer.new.self in
    subst (λ (t : Stock g.row.A.Denot). (n : Node g.row.A.Denot) → nodes_of t c.args.node ≡ Some n → Journals t (stock_of c.swap_answer-before.new.self i.params i.kids ns) c.args.node (Some (with_answer c.args.answer n)) (OldAnswer n.answer) 0 0 0) c.self.view_is
    (λ n is. (
    let p = rows_of i.table i.params i.kids i.journal.notes ns.notes c.args.node (was.Answer c.swap_answer-before.result) in
    let q = kids_of i.table i.params i.kids i.journal.notes ns.notes c.args.node (was.Answer c.swap_answer-before.result) in
    let same = answer_was i.table.slots p q c.args.node n c.args.answer c.swap_answer-before.result is c.swap_answer-before.ensures.before in
    subst (λ (x : SlotTable g.row.A.Denot). Journals (stock_of i.table i.params i.kids i.journal) (stock_of x i.params i.kids ns) c.args.node (Some (with_answer c.args.answer n)) (OldAnswer n.answer) 0 0 0) (sym c.swap_answer-before.ensures.changed)
    (journal_slot i.table i.params i.kids i.journal.notes ns.notes c.args.node (was.Answer c.swap_answer-before.result) (answer_set c.args.answer) (with_answer c.args.answer) (λ x y s. refl) i.journal.room ns.room (OldAnswer n.answer) n c.push_answer.ensures.pushed c.push_answer.ensures.room c.self.invariant is (ap OldAnswer same))
    ))

pub push_answer-requires : goal.push_answer-requires
push_answer-requires g c = grind (arith, common_steps)
