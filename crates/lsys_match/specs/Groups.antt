-- The rules for a module.
use Rattle.std.specs.Prelude.{Bool, false, not, is_some, ◌&&◌, List, [], ◌∷◌, map, Option, Some, None}
use Rattle.lsys_spec.specs.Bodies.{Body, body_of}
use Rattle.lsys_spec.specs.Standings.{free}
use Rattle.lsys_bodies.specs.declared.body.Body.{Body as CodeBody}
use Rattle.lsys_bodies.specs.declared.rule.Rule.{Rule}
use Rattle.lsys_bodies.specs.Views.{as_rule}

-- what a body means
abbrev pub meant : CodeBody → Body
meant b = body_of (as_rule b)

-- what the bodies of a group mean
abbrev pub rules_of : List CodeBody → List Body
rules_of bodies = map meant bodies

-- the bodies of rules
abbrev pub bodies_of : List Rule → List CodeBody
bodies_of rules = map (λ r. r.body) rules

-- those of a group that was looked for; none where there is no group
abbrev pub rules_found : Option (List CodeBody) → List Body
rules_found None = []
rules_found (Some bodies) = rules_of bodies

-- the first rule has neither contexts nor a condition
abbrev pub asks_nothing : List Body → Bool
asks_nothing [] = false
asks_nothing (b ∷ bs) = free (b ∷ []) && not (is_some b.condition)
