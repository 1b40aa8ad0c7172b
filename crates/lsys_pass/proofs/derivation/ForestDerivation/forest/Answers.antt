use Rattle.std.proofs.Common.{sym, ap, ◌∙◌}
use Rattle.lsys_spec.specs.Systems.{System}
use Rattle.lsys_match.specs.Kept.{Kept}
use Rattle.lsys_forest.specs.Groves.{Grove}
use Rattle.lsys_pass.specs.Views.{ForestView, levels_for}
use Rattle.lsys_pass.proofs.derivation.ForestDerivation.forest.Goals as goal

pub returns : goal.returns
returns g c =
    ap (λ (f : Grove Kept). levels_for c.args.self.now.system f) c.forest.ensures.forest
    ∙ ap (λ (s : System). levels_for s c.self.inside.pass.forest) (sym (ap (λ (d : ForestView). d.system) c.self.view_is))
    ∙ ap (λ (d : ForestView). d.levels) c.self.view_is
