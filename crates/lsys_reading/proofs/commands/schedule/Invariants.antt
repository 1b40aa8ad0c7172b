use Rattle.std.proofs.Common.{◌-◌}
use Rattle.lsys_reading.specs.Tokens.{kinds_in, size}
use Rattle.lsys_reading.proofs.LineParts.{TablesSoFar}
use Rattle.lsys_reading.proofs.commands.schedule.Given as goal

abbrev pub invariant-tables : goal.invariant-tables
invariant-tables l = TablesSoFar (kinds_in l.line) l.at l.tables.items

abbrev pub decreases-tables : goal.decreases-tables
decreases-tables l = size l.line - l.at
