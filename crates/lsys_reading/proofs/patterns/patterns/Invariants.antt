use Rattle.std.proofs.Common.{◌-◌}
use Rattle.lsys_reading.specs.Tokens.{kinds_in, size}
use Rattle.lsys_reading.proofs.PatternLoops.{PatternsSoFar}
use Rattle.lsys_reading.proofs.patterns.patterns.Given as goal

abbrev pub invariant-symbols : goal.invariant-symbols
invariant-symbols l = PatternsSoFar l.section (kinds_in l.line) l.at l.end l.symbols.items l.branches

abbrev pub decreases-symbols : goal.decreases-symbols
decreases-symbols l = size l.line - l.end
