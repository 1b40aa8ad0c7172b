use Rattle.std.proofs.Common.{subst}
use Rattle.lsys_match.specs.Derivations.{IsDerived}
use Rattle.lsys_pass.specs.Views.{ForestView}
use Rattle.lsys_pass.proofs.Posing.{derived_for}
use Rattle.lsys_pass.proofs.derivation.ForestDerivationDerivation.system.Goals as goal

pub returns-clause-levels : goal.returns-clause-levels
returns-clause-levels g c =
    subst (λ (d : ForestView). IsDerived d.system d.limit d.levels) c.self.view_is
    (derived_for c.self.inside.system c.self.inside.pass c.state.ensures.pass c.self.invariant.0 c.self.invariant.1)
