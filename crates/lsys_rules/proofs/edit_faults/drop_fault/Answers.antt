use Rattle.std.proofs.Common.{arith}
use Rattle.std.proofs.lemmas.Grind.{common_steps}
use Rattle.lsys_rules.proofs.Kept.{own_labels}
use Rattle.lsys_rules.proofs.edit_faults.drop_fault.Goals as goal

pub loses_table-requires : goal.loses_table-requires
loses_table-requires c = rw c.rules-rules.ensures.rules (own_labels c.args.system.now c.rules-rules.ensures.well.0)

pub loses_table-requires-else-loses_table : goal.loses_table-requires-else-loses_table
loses_table-requires-else-loses_table c = rw c.rules-rules.ensures.rules (own_labels c.args.system.now c.rules-rules.ensures.well.0)

pub returns : goal.returns
returns c = grind (arith, common_steps)
