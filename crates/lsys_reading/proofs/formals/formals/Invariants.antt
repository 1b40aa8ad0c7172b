use Rattle.std.proofs.Common.{◌-◌}
use Rattle.lsys_reading.specs.Tokens.{kinds_in, size}
use Rattle.lsys_reading.proofs.FormalLaws.{FormalsSoFar}
use Rattle.lsys_reading.proofs.formals.formals.Given as goal

abbrev pub invariant-formals : goal.invariant-formals
invariant-formals l = FormalsSoFar (kinds_in l.line) l.at l.end l.formals.items

abbrev pub decreases-formals : goal.decreases-formals
decreases-formals l = size l.line - l.end
