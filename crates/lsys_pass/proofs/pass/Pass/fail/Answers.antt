use Rattle.std.proofs.Common.{sym, subst}
use Rattle.lsys_pass.specs.Passes.{PassView}
use Rattle.lsys_pass.specs.Moves.{AtLevel}
use Rattle.lsys_pass.proofs.Arrivals.{failed}
use Rattle.lsys_pass.proofs.pass.Pass.fail.Goals as goal

pub invariant_of-self : goal.invariant_of-self
invariant_of-self g c = failed _ c.self.invariant (subst (λ (v : PassView). AtLevel v.state) (sym c.self.view_is) c.requires)
