use Rattle.std.proofs.Common.{subst}
use Rattle.lsys_match.specs.Derivations.{IsDerived}
use Rattle.lsys_flat.proofs.Keeping.{derived}
use Rattle.lsys_flat.proofs.levels.LevelsDerivation.system.Goals as goal

pub returns-clause-levels : goal.returns-clause-levels
returns-clause-levels g c = subst (λ d. IsDerived d.system d.limit d.levels) c.self.view_is (derived _ _ _ _ _ _ c.self.invariant)
