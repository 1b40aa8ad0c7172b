-- The groups of a level: the rules of its table that are for a letter with a number of parameters.
use Rattle.std.specs.Prelude.{ℕ, Option, List, filter, option_map}
use denote.Ref.{Bor}
use Rattle.lsys_syntax.specs.Rules.{Production}
use Rattle.lsys_spec.specs.Bodies.{Body, body_of, group, is_for, table_at}
use Rattle.lsys_spec.specs.Systems.{System}
use Rattle.lsys_module.specs.Views.{module_name}
use Rattle.lsys_bodies.specs.declared.rule.Rule.{Rule}
use Rattle.lsys_bodies.specs.Views.{as_production, rule_of}

-- of these rules, those of a table that are for modules with this name and number of parameters, in order
abbrev pub table_rules : List Production → List ℕ → List ℕ → ℕ → List Production
table_rules rules table name arity = filter (is_for table (module_name name) arity) rules

-- those of a level's table
abbrev pub level_rules : System → ℕ → List ℕ → ℕ → List Production
level_rules s level name arity = table_rules s.rules (table_at s.schedule level) name arity

-- what those mean
abbrev pub level_bodies : System → ℕ → List ℕ → ℕ → List Body
level_bodies s level name arity = group s level (module_name name) arity

-- what a rule means
abbrev pub rule_body : Rule → Body
rule_body r = body_of (rule_of r)

-- a rule that was looked for, where there is one
abbrev pub found_production : Option (Bor Rule) → Option Production
found_production o = option_map (λ r. as_production r.now) o

-- what that means
abbrev pub found_body : Option (Bor Rule) → Option Body
found_body o = option_map (λ r. rule_body r.now) o
