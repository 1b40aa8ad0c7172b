use Rattle.lsys_flat.proofs.Lookups.{AreFront}
use Rattle.lsys_flat.proofs.places.sorted.Given as goal

abbrev pub invariant-loop-place : goal.invariant-loop-place
invariant-loop-place l = AreFront l.old l.all.items l.place
