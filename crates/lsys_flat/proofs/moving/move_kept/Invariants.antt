use Rattle.lsys_flat.proofs.TakenTags.{Going}
use Rattle.lsys_flat.proofs.moving.move_kept.Given as goal

abbrev pub invariant-loop-place : goal.invariant-loop-place
invariant-loop-place g l = Going l.fn.old l.fn.new l.places l.place l.old l.new
