use Rattle.std.proofs.Common.{◌≡◌, take}
use Rattle.std.specs.Prelude.{sum_by}
use Rattle.lsys_flat.proofs.Showing.{tags_in}
use Rattle.lsys_flat.proofs.levels.total_of.Given as goal

abbrev pub invariant-loop-ancestry : goal.invariant-loop-ancestry
invariant-loop-ancestry l = l.total ≡ sum_by tags_in (take l.ancestry-index l.ancestries)
