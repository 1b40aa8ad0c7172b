use Rattle.std.proofs.Common.{rules}
use Rattle.lsys_text.proofs.scan.mark_at.Goals as goal

pub returns-then-is_mark-clause-found : goal.returns-then-is_mark-clause-found
returns-then-is_mark-clause-found c = search rules
