use Rattle.std.proofs.Common.{sym, ap, ◌∙◌}
use Rattle.lsys_pass.specs.Passes.{PassView}
use Rattle.lsys_pass.proofs.Listed.{answers_to, nobody_read, listed_rests, listed_pass}
use Rattle.lsys_pass.proofs.pass.Pass.list_readers.Goals as goal

pub invariant_of-self : goal.invariant_of-self
invariant_of-self g c =
    let state = ap (λ (v : PassView). v.state) c.self.view_is ∙ c.requires in
    listed_pass _ c.self.invariant state c.new.result.reads c.new.result.is_listed c.new.ensures.pending
    (nobody_read _ c.self.invariant state c.new.result.reads (sym c.depth-depth.ensures.depth ∙ c.if-depth-eq0.true) c.new.ensures.settled)

pub returns-then-depth-eq0-clause-rests : goal.returns-then-depth-eq0-clause-rests
returns-then-depth-eq0-clause-rests g c =
    let state = ap (λ (v : PassView). v.state) c.self.view_is ∙ c.requires in
    listed_rests _ c.self.invariant state c.new.result.reads c.new.result.is_listed
    (nobody_read _ c.self.invariant state c.new.result.reads (sym c.depth-depth.ensures.depth ∙ c.if-depth-eq0.true) c.new.ensures.settled)

pub list_all-requires : goal.list_all-requires
list_all-requires g c =
    let state = ap (λ (v : PassView). v.state) c.self.view_is ∙ c.requires in
    answers_to _ c.self.invariant state c.depth-depth.result c.depth-depth.ensures.depth c.depth-depth.type_inv
