use Rattle.std.proofs.Common.{take, refl}
use Rattle.lsys_reads.proofs.SliceLemmas.{inserted}
use Rattle.lsys_reads.proofs.row.put_at.Goals as goal

pub returns-clause-tags : goal.returns-clause-tags
returns-clause-tags c =
    let xs = take c.args.len c.args.cells.now in
    let room = c.requires.room in
    inserted c.args.cells.now c.rotate_right.new.self _ c.args.len c.args.place c.args.tag room c.requires.place refl c.rotate_right.ensures.after
