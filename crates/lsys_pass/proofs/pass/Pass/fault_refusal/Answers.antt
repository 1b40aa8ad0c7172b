use Rattle.std.proofs.Common.{◌≡◌, [], List, sym, ap, ◌∙◌, subst}
use Rattle.std.specs.Prelude.{MatchOption}
use Rattle.lsys_pass.specs.declared.fault.Faulted.{Faulted}
use Rattle.lsys_pass.specs.Leftmost.{AreOnLevel, IsLeftmostFault}
use Rattle.lsys_pass.specs.Passes.{PassView}
use Rattle.lsys_pass.specs.Refusals.{IsFaultOn}
use Rattle.lsys_pass.proofs.Refusing.{on_level, few_symbols, refuses_if}
use Rattle.lsys_pass.proofs.pass.Pass.fault_refusal.Goals as goal

pub first_fault-requires-clause-on_level : goal.first_fault-requires-clause-on_level
first_fault-requires-clause-on_level g c =
    subst (AreOnLevel c.self.inside.forest c.args.level) (sym c.deref.ensures.value)
    (on_level _ c.args.level c.self.invariant (ap (λ (v : PassView). v.state) c.self.view_is ∙ c.requires.state))

pub first_fault-requires-clause-few : goal.first_fault-requires-clause-few
first_fault-requires-clause-few g c = few_symbols _ c.args.level c.self.invariant (ap (λ (v : PassView). v.state) c.self.view_is ∙ c.requires.state)

pub returns : goal.returns
returns g c =
    subst (λ (v : PassView). MatchOption c.first_fault.result (v.faults ≡ []) (IsFaultOn v.next v.limit c.args.level)) c.self.view_is
    (refuses_if _ c.args.level c.self.invariant (ap (λ (v : PassView). v.state) c.self.view_is ∙ c.requires.state) (ap (λ (v : PassView). v.pending) c.self.view_is ∙ c.requires.pending) c.first_fault.result
    (subst (λ (fs : List Faulted). MatchOption c.first_fault.result (fs ≡ []) (IsLeftmostFault c.self.inside.forest c.args.level fs)) c.deref.ensures.value c.first_fault.ensures))
