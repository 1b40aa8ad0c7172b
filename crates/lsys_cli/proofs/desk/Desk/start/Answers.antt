use Rattle.std.proofs.Common.{refl}
use Rattle.lsys_cli.proofs.Keeping.{none_kept}
use Rattle.lsys_cli.proofs.desk.Desk.start.Goals as goal

pub invariant_of-result : goal.invariant_of-result
invariant_of-result g c = (rw c.in_ok-new.ensures (none_kept _), tt)

pub returns-clause-desk : goal.returns-clause-desk
returns-clause-desk g c = rw (c.in_ok-new.ensures, c.in_ok-start.ensures.system) refl
