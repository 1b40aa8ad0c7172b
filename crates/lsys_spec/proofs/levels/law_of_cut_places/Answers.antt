use Rattle.std.proofs.Common.{None}
use Rattle.lsys_spec.proofs.Cutting.{cut_by_places, tested, found}
use Rattle.lsys_spec.proofs.levels.law_of_cut_places.Goals as goal

pub returns-clause-cut_off : goal.returns-clause-cut_off
returns-clause-cut_off c x p = (λ h. tested x h.0 p h.1, found x p)

pub returns-clause-leaves : goal.returns-clause-leaves
returns-clause-leaves c x = cut_by_places x None
