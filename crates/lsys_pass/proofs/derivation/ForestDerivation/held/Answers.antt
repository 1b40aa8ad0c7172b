use Rattle.std.proofs.Common.{◌+◌, length, ap, ◌∙◌, subst}
use Rattle.std.specs.Prelude.{sum_by}
use Rattle.lsys_match.specs.Kept.{Kept}
use Rattle.lsys_forest.specs.Groves.{Grove, live_nodes}
use Rattle.lsys_pass.specs.Views.{ForestView, CountsAnswered}
use Rattle.lsys_pass.proofs.Posing.{live_for, counts_for}
use Rattle.lsys_pass.proofs.derivation.ForestDerivation.held.Goals as goal

pub returns-clause-nodes : goal.returns-clause-nodes
returns-clause-nodes g c =
    c.live.ensures ∙ ap (λ (f : Grove Kept). live_nodes f) c.forest.ensures.forest
    ∙ live_for c.self.inside.system c.self.inside.pass c.forest.ensures.pass c.self.invariant.0 c.self.invariant.1
    ∙ ap (λ (d : ForestView). sum_by length d.levels + 1) c.self.view_is

pub returns-clause-answers : goal.returns-clause-answers
returns-clause-answers g c =
    subst (λ (d : ForestView). CountsAnswered d c.answers.result) c.self.view_is
    (λ x e. c.answers.ensures.answers ∙ counts_for c.self.inside.system c.self.inside.pass c.answers.ensures.pass
    c.self.invariant.0 c.self.invariant.1 x e)
