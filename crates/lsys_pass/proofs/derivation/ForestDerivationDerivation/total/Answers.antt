use Rattle.std.proofs.Common.{length, ap, ◌∙◌}
use Rattle.std.specs.Prelude.{sum_by}
use Rattle.lsys_pass.specs.Views.{ForestView}
use Rattle.lsys_pass.proofs.Posing.{total_for}
use Rattle.lsys_pass.proofs.derivation.ForestDerivationDerivation.total.Goals as goal

pub returns : goal.returns
returns g c =
    c.total.ensures.total ∙ total_for c.self.inside.system c.self.inside.pass c.total.ensures.pass c.self.invariant.0
    c.self.invariant.1
    ∙ ap (λ (d : ForestView). sum_by length d.levels) c.self.view_is
