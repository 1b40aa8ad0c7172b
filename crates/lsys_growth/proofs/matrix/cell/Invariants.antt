use Rattle.std.proofs.Common.{◌≡◌, ◌*◌, get_or}
use Rattle.lsys_growth.specs.Capped.{capped}
use Rattle.lsys_growth.specs.Sums.{sum_to}
use Rattle.lsys_growth.specs.Matrices.{place, entry}
use Rattle.lsys_growth.proofs.matrix.cell.Given as goal

abbrev pub invariant-loop-i : goal.invariant-loop-i
invariant-loop-i l = l.sum ≡ capped (sum_to l.i-index (λ k. let i = get_or l.places k 0 in place l.row i * entry l.m i l.column))
