use Rattle.std.proofs.Common.{length}
use Rattle.lsys_bodies.proofs.same.+same_templates.Given as goal

abbrev pub decreases-same_templates : goal.decreases-same_templates
decreases-same_templates l = length l.one.now
