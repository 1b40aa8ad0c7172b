use Rattle.std.proofs.Common.{map, ap, ◌∙◌}
use Rattle.lsys_bodies.specs.Views.{as_production}
use Rattle.lsys_growth.proofs.tables.rules_for.Goals as goal

pub returns-in-Some : goal.returns-in-Some
returns-in-Some c = ap (map as_production) c.rules.ensures.rules ∙ c.in-Some.ensures.rules

pub returns-in-None : goal.returns-in-None
returns-in-None c = c.in-None.ensures.rules
