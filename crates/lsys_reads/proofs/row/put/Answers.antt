use Rattle.std.proofs.Common.{◌∙◌, arith}
use Rattle.lsys_reads.proofs.PassLemmas.{has_written}
use Rattle.lsys_reads.proofs.row.put.Goals as goal

pub returns-then-owed-clause-tags : goal.returns-then-owed-clause-tags
returns-then-owed-clause-tags c = λ q.
    let room = c.requires.room in
    let some = c.requires.some in
    has_written c.args.cells.now c.args.len c.args.tag q (omega (arith, room, some))

pub returns-clause-tags : goal.returns-clause-tags
returns-clause-tags c = λ q.
    let room = c.requires.room in
    let some = c.requires.some in
    c.order.ensures.tags q ∙ has_written c.args.cells.now c.args.len c.args.tag q (omega (arith, room, some))
