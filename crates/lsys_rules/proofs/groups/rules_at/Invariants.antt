use Rattle.std.proofs.Common.{◌≡◌}
use Rattle.std.specs.Map.{lookup}
use Rattle.lsys_rules.specs.Groups.{rules_at, rules_or_none, same_key}
use Rattle.lsys_rules.proofs.groups.rules_at.Given as goal

-- the key's rules are among those of the groups that are left
abbrev pub invariant-loop-other : goal.invariant-loop-other
invariant-loop-other l =
    (goal.iterator-loop-other).can_next l.other-iterator ×
    (goal.iterator-loop-other).is_finite l.other-iterator ×
    (rules_or_none (lookup (same_key l.key) l.other-iterator) ≡ rules_at l.groups l.key)
