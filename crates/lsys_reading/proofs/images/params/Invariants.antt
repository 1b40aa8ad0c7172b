use Rattle.std.proofs.Common.{◌-◌}
use Rattle.lsys_reading.specs.Tokens.{kinds_in, size}
use Rattle.lsys_reading.proofs.ImageLaws.{ParamsSoFar}
use Rattle.lsys_reading.proofs.images.params.Given as goal

abbrev pub invariant-params : goal.invariant-params
invariant-params l = ParamsSoFar (kinds_in l.line) l.at l.end l.params.items

abbrev pub decreases-params : goal.decreases-params
decreases-params l = size l.line - l.end
