use Rattle.std.proofs.Common.{◌≡◌, ◌≤◌, length, drop, ◌-◌}
use Rattle.lsys_spec.specs.Equalities.{same_all, same_body}
use Rattle.lsys_match.specs.Groups.{bodies_of, rules_of}
use Rattle.lsys_match.proofs.group.Group.is_same.Given as goal

-- they are the same before this place
abbrev pub invariant-loop-body : goal.invariant-loop-body
invariant-loop-body l =
    (l.place ≤ length (rules_of l.self)) × (l.place ≤ length l.group)
    × (same_all same_body (rules_of (bodies_of l.group)) (rules_of l.self) ≡ same_all same_body (drop l.place (rules_of (bodies_of l.group))) (drop l.place (rules_of l.self)))

abbrev pub decreases-loop-body : goal.decreases-loop-body
decreases-loop-body l = length (rules_of l.self) - l.place
