use Rattle.std.proofs.Common.{sym, ap, ◌∙◌, subst}
use Rattle.lsys_spec.specs.Systems.{System}
use Rattle.lsys_pass.specs.Views.{ForestView, view_of, IsPosed}
use Rattle.lsys_pass.proofs.Deriving.{unchanged, levels_alone, answers_all, no_others}
use Rattle.lsys_pass.proofs.Runs.{runs_at_rest}
use Rattle.lsys_pass.proofs.derivation.ForestDerivation.pass.Goals as goal

pub returns-clause-view : goal.returns-clause-view
returns-clause-view g c =
    ap (λ (s : System). view_of s c.self.inside.pass) (sym (ap (λ (d : ForestView). d.system) c.self.view_is)) ∙ c.self.view_is

pub returns-clause-posed : goal.returns-clause-posed
returns-clause-posed g c = subst (λ (d : ForestView). IsPosed d.system c.self.inside.pass.system) c.self.view_is
    c.self.invariant.1

pub returns-clause-rest : goal.returns-clause-rest
returns-clause-rest g c = (c.self.invariant.0.state, unchanged _ c.state.ensures.pass c.self.invariant.0)

pub returns-clause-nodes : goal.returns-clause-nodes
returns-clause-nodes g c = levels_alone _ c.state.ensures.pass c.self.invariant.0

pub returns-clause-answers : goal.returns-clause-answers
returns-clause-answers g c = answers_all _ c.state.ensures.pass c.self.invariant.0

pub returns-clause-none : goal.returns-clause-none
returns-clause-none g c = no_others _ c.state.ensures.pass c.self.invariant.0

pub returns-clause-runs : goal.returns-clause-runs
returns-clause-runs g c = runs_at_rest _ c.state.ensures.pass c.self.invariant.0.state
