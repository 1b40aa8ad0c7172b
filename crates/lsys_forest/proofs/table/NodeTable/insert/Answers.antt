use Rattle.std.proofs.Common.{arith, subst}
use Rattle.std.proofs.lemmas.Grind.{common_steps}
use Rattle.lsys_forest.specs.Slots.{SlotTable, table_of, PutsEntry}
use Rattle.lsys_forest.proofs.TableLemmas.{put_done}
use Rattle.lsys_forest.proofs.table.NodeTable.insert.Goals as goal

pub returns-clause-put : goal.returns-clause-put
returns-clause-put g c =
    let i = c.self.inside in
    subst (λ (t : SlotTable g.row.A.Denot). PutsEntry t (table_of c.insert_reserved.new.self) c.insert_reserved.result c.args.entry) c.self.view_is
    (put_done i.nodes c.insert_reserved.new.self c.insert_reserved.result c.args.entry c.insert_reserved.ensures.updates)

pub insert_reserved-requires : goal.insert_reserved-requires
insert_reserved-requires g c = grind (arith, common_steps)

pub returns-clause-vacant : goal.returns-clause-vacant
returns-clause-vacant g c = grind (arith, common_steps)

pub returns-clause-none : goal.returns-clause-none
returns-clause-none g c = grind (arith, common_steps)

pub returns-clause-no_kids : goal.returns-clause-no_kids
returns-clause-no_kids g c = grind (arith, common_steps)
