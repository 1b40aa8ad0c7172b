-- What is true of every body that is kept.
use Rattle.std.specs.Prelude.{◌≡◌}
use Rattle.lsys_syntax.specs.Rules.{IsRule}
use Rattle.lsys_spec.specs.Bodies.{body_of}
use Rattle.lsys_bodies.specs.declared.body.Body.{Body}
use Rattle.lsys_syntax.specs.Smalls.{IsSmall}
use Rattle.lsys_bodies.specs.Views.{as_rule, body_value}

-- What is written is a rule of the language, balanced, and no limit is passed. The body means what that rule means by the
-- definitions: the trees of its expressions are those of what is spelled, with the rule's formals by place.
pub record IsBuilt (b : Body) : Type 0 where
  pub sentence : IsRule (as_rule b)
  pub means : body_of (as_rule b) ≡ body_value b
  pub small : IsSmall (as_rule b)
