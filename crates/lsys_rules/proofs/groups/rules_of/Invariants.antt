use Rattle.std.proofs.Common.{take}
use Rattle.lsys_rules.specs.Groups.{IsGroup}
use Rattle.lsys_rules.proofs.groups.rules_of.Given as goal

-- those among the rules so far
abbrev pub invariant-loop-rule : goal.invariant-loop-rule
invariant-loop-rule l = IsGroup (take l.rule-index l.rules) l.key l.found.items
