use Rattle.std.proofs.Common.{◌∙◌, ap}
use Rattle.lsys_pass.specs.Passes.{PassView}
use Rattle.lsys_pass.specs.Fresh.{row_of}
use Rattle.lsys_pass.proofs.Askings.{row_lives}
use Rattle.lsys_pass.proofs.AskedLevels.{pending_failed, whole_complete, whole_ready, whole_goes}
use Rattle.lsys_pass.proofs.pass.Pass.ask_all.Goals as goal

pub asked_on-requires-clause-level : goal.asked_on-requires-clause-level
asked_on-requires-clause-level g c =
    whole_complete _ c.args.self.now c.args.level c.self.view_is c.self.invariant c.requires.found.0 c.requires.found.1 c.requires.found.2 c.requires.above c.requires.few

pub asked_on-requires-clause-live : goal.asked_on-requires-clause-live
asked_on-requires-clause-live g c = row_lives _ c.args.level c.self.invariant

pub invariant_of-self : goal.invariant_of-self
invariant_of-self g c = pending_failed _ c.set.new.self c.self.invariant (ap (λ (v : PassView). v.state) c.self.view_is ∙ c.requires.failed)

pub returns-clause-asked : goal.returns-clause-asked
returns-clause-asked g c =
    whole_ready _ c.args.self.now c.args.level c.self.view_is c.self.invariant c.requires.found.0 c.requires.found.1 c.requires.found.2 c.requires.above c.target-system.result.now c.in_ok-pending.pending.items c.set.new.self
    c.target-system.ensures c.in_ok-set.ensures.ok c.in_ok-pending.ensures c.requires.below c.requires.few

pub returns-clause-goes : goal.returns-clause-goes
returns-clause-goes g c = whole_goes _ c.args.self.now c.args.level c.self.view_is c.self.invariant c.requires.found.0 c.requires.found.1 c.requires.found.2 c.requires.above c.set.new.self

pub returns-clause-rows : goal.returns-clause-rows
returns-clause-rows g c = λ u less. ap (λ (v : PassView). row_of v u) c.self.view_is
