use Rattle.std.proofs.Common.{arith}
use Rattle.std.proofs.lemmas.Grind.{common_steps}
use Rattle.lsys_io.proofs.pieces.Pieces.fill.Goals as goal

pub returns-then-self-clause-some : goal.returns-then-self-clause-some
returns-then-self-clause-some g c = grind (arith, common_steps)

pub returns-in_err-count-clause-no_read_while_held : goal.returns-in_err-count-clause-no_read_while_held
returns-in_err-count-clause-no_read_while_held g c = grind (arith, common_steps)

pub returns-in_err-count-clause-failed_takes_nothing : goal.returns-in_err-count-clause-failed_takes_nothing
returns-in_err-count-clause-failed_takes_nothing g c = grind (arith, common_steps)

pub returns-clause-read : goal.returns-clause-read
returns-clause-read g c = grind (arith, common_steps)

pub returns-clause-no_read_while_held : goal.returns-clause-no_read_while_held
returns-clause-no_read_while_held g c = grind (arith, common_steps)

pub returns-clause-none_at_end : goal.returns-clause-none_at_end
returns-clause-none_at_end g c = grind (arith, common_steps)

pub returns-clause-ok_leaves_count : goal.returns-clause-ok_leaves_count
returns-clause-ok_leaves_count g c = grind (arith, common_steps)
