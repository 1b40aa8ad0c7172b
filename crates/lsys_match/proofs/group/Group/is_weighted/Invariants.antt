use Rattle.std.proofs.Common.{◌≡◌, ◌≤◌, length, ◌-◌, drop}
use Rattle.lsys_spec.specs.Meaning.{any_weight}
use Rattle.lsys_match.specs.Groups.{rules_of}
use Rattle.lsys_match.proofs.group.Group.is_weighted.Given as goal

-- no earlier rule has one
abbrev pub invariant-loop-body : goal.invariant-loop-body
invariant-loop-body l = (l.place ≤ length (rules_of l.self)) × (any_weight (rules_of l.self) ≡ any_weight (drop l.place (rules_of l.self)))

abbrev pub decreases-loop-body : goal.decreases-loop-body
decreases-loop-body l = length (rules_of l.self) - l.place
