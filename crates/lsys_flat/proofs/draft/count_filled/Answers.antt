use Rattle.std.proofs.Common.{arith}
use Rattle.lsys_flat.proofs.News.{filled_most}
use Rattle.lsys_flat.proofs.draft.count_filled.Goals as goal

pub overflow_add-count : goal.overflow_add-count
overflow_add-count g c =
    let most = filled_most c.args.slots.now in
    omega (arith, most, c.loop-slot.invariant, c.requires)
