use Rattle.std.proofs.Common.{◌≡◌, ◌≤◌, length, ◌-◌, drop}
use Rattle.lsys_spec.specs.Standings.{free}
use Rattle.lsys_match.specs.Groups.{rules_of}
use Rattle.lsys_match.proofs.group.Group.is_free.Given as goal

-- no earlier rule has a context
abbrev pub invariant-loop-body : goal.invariant-loop-body
invariant-loop-body l = (l.place ≤ length (rules_of l.self)) × (free (rules_of l.self) ≡ free (drop l.place (rules_of l.self)))

abbrev pub decreases-loop-body : goal.decreases-loop-body
decreases-loop-body l = length (rules_of l.self) - l.place
