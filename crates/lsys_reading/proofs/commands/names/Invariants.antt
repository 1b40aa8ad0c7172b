use Rattle.std.proofs.Common.{◌-◌}
use Rattle.lsys_reading.specs.Tokens.{kinds_in, size}
use Rattle.lsys_reading.proofs.LineParts.{NamesSoFar}
use Rattle.lsys_reading.proofs.commands.names.Given as goal

abbrev pub invariant-names : goal.invariant-names
invariant-names l = NamesSoFar (kinds_in l.line) l.from l.at l.names.items

abbrev pub decreases-names : goal.decreases-names
decreases-names l = size l.line - l.at
