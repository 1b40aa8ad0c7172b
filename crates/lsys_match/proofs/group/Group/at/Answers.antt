use Rattle.std.proofs.Common.{arith, ap, ◌∙◌}
use Rattle.std.proofs.lemmas.Simd.{map-map}
use Rattle.std.proofs.lemmas.Grind.{elements}
use Rattle.lsys_match.specs.Groups.{bodies_of, meant, rules_of}
use Rattle.lsys_match.proofs.group.Group.at.Goals as goal

pub returns-clause-rules : goal.returns-clause-rules
returns-clause-rules c = ap (λ rs. rules_of (bodies_of rs)) c.rules.ensures.rules ∙ map-map meant (λ r. r.body) c.in_ok-shared.shared.now ∙ c.in_ok-shared.ensures.bodies

pub returns-clause-some : goal.returns-clause-some
returns-clause-some c = grind (arith, elements)
