use Rattle.lsys_laws.proofs.KeptPlain.{opening_well}
use Rattle.lsys_laws.proofs.KeptLevels.{opening_levels}
use Rattle.lsys_session.proofs.session.Session.start.Goals as goal

pub invariant_of-result : goal.invariant_of-result
invariant_of-result g c =
    rw (c.in_ok-start.ensures.limit, c.in_ok-start.ensures.system) (record { limited = c.requires; well = opening_well; levels = opening_levels c.args.limit })
