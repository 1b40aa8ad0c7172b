use Rattle.std.proofs.Common.{◌≡◌, ◌∷◌, [], subst, inl, true, false}
use Rattle.lsys_reads.specs.Neighbours.{neighbours_in}
use Rattle.lsys_reads.specs.Seats.{neighbours_at}
use Rattle.lsys_front.specs.Finds.{IsTurned}
use Rattle.lsys_front.proofs.Gathering.{gathers_kind}
use Rattle.lsys_front.proofs.finds.gather_turned.Goals as goal

pub returns-clause-gathers : goal.returns-clause-gathers
returns-clause-gathers g c =
    let f = c.args.forest.now in
    let node = c.args.node in
    let seats = c.args.seats.now in
    gathers_kind (λ k. k ≡ node) (IsTurned f seats (node ∷ [])) seats c.gather.new.seats c.args.turned.now.items c.gather.new.nodes.items
    (λ k e. record { looked_at = inl e; turned = λ t. (let h : false ≡ true = c.if-is_seated.ensures.1 (subst (λ k. neighbours_in f k ≡ neighbours_at seats k) e t) in cc) }) c.gather.ensures.gathers
