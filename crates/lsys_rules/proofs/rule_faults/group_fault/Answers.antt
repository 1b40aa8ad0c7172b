use Rattle.std.proofs.Common.{rules}
use Rattle.lsys_rules.proofs.rule_faults.group_fault.Goals as goal

pub returns-then-has_label_elsewhere : goal.returns-then-has_label_elsewhere
returns-then-has_label_elsewhere c = search rules
