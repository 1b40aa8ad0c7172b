use Rattle.std.proofs.Common.{◌∙◌}
use Rattle.lsys_pass.proofs.Reading.{comes_further}
use Rattle.lsys_pass.proofs.read.add_entries.Goals as goal

pub returns-in_err-add_entry-clause-settled : goal.returns-in_err-add_entry-clause-settled
returns-in_err-add_entry-clause-settled c = λ reader seen. c.add_entry.ensures.settled reader seen ∙ c.loop-entry.invariant.settled reader seen

pub returns-in_err-add_entry-clause-after : goal.returns-in_err-add_entry-clause-after
returns-in_err-add_entry-clause-after c = comes_further _ _ _ _ c.loop-entry.invariant.is c.add_entry.ensures.after
