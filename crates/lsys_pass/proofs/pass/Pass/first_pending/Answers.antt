use Rattle.std.proofs.Common.{subst}
use Rattle.lsys_spec.specs.Rows.{In}
use Rattle.lsys_forest.proofs.WalkLemmas.{get_In}
use Rattle.lsys_pass.specs.Passes.{PassView}
use Rattle.lsys_pass.proofs.pass.Pass.first_pending.Goals as goal

pub returns-in_default-clause-some : goal.returns-in_default-clause-some
returns-in_default-clause-some g c =
    subst (λ (v : PassView). In c.nth.result v.pending) c.self.view_is (get_In c.self.inside.work.pending _ c.nth.result c.nth.ensures)
