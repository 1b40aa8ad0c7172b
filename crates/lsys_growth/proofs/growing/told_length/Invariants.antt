use Rattle.std.proofs.Common.{◌≡◌}
use Rattle.lsys_growth.specs.Capped.{capped, value_of}
use Rattle.lsys_growth.specs.Sums.{sum_to}
use Rattle.lsys_growth.specs.Matrices.{place}
use Rattle.lsys_growth.proofs.growing.told_length.Given as goal

abbrev pub invariant-loop-count : goal.invariant-loop-count
invariant-loop-count l = value_of l.symbols ≡ capped (sum_to l.count-index (place l.row))
