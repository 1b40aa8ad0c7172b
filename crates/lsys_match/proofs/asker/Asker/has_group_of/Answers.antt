use Rattle.std.proofs.Common.{◌≡◌, ◌<◌, false, List, [], ◌∷◌, length, refl, ap₂, ◌∙◌, arith}
use Rattle.lsys_spec.specs.Bodies.{Body}
use Rattle.lsys_spec.specs.Equalities.{same_all, same_body}
use Rattle.lsys_match.specs.Groups.{rules_of}
use Rattle.lsys_match.proofs.asker.Asker.has_group_of.Goals as goal

some_or_none : (xs : List Body) → 0 < length xs → false ≡ same_all same_body xs []
some_or_none [] some = absurd (omega (arith, some))
some_or_none (x ∷ xs) some = refl

pub returns-in_default-group : goal.returns-in_default-group
returns-in_default-group c = some_or_none (rules_of c.in-Some.theirs) c.in-Some.ensures.some ∙ ap₂ (same_all same_body) c.in-Some.ensures.rules c.in_default-group.ensures.rules
