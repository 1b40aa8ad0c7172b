use Rattle.std.proofs.Common.{◌-◌}
use Rattle.lsys_reads.proofs.PassLemmas.{CutsTo}
use Rattle.lsys_reads.proofs.row.cut_all.Given as goal

abbrev pub invariant-loop-at : goal.invariant-loop-at
invariant-loop-at l = CutsTo l.initial.cells l.cells l.len l.at l.kept l.tag l.gone

abbrev pub decreases-loop-at : goal.decreases-loop-at
decreases-loop-at l = l.len - l.at
