use Rattle.std.proofs.Common.{ap, ◌∙◌, sym}
use Rattle.std.specs.Prelude.{Some, ◌≡◌}
use Rattle.lsys_front.proofs.Gathering.{gathers_kind}
use Rattle.lsys_front.proofs.gather.gather_any.Goals as goal

pub returns-in-Some-clause-gathers : goal.returns-in-Some-clause-gathers
returns-in-Some-clause-gathers c =
    gathers_kind (λ k. k ≡ c.in-Some.found) (λ k. c.args.node ≡ Some k) c.args.seats.now c.gather.new.seats c.args.nodes.now.items c.gather.new.nodes.items
    (λ k e. c.in-Some.is ∙ ap Some (sym e)) c.gather.ensures.gathers
