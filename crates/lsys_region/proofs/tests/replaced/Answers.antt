use Rattle.std.proofs.Common.{ap}
use Rattle.lsys_region.proofs.HeldLemmas.{size-replaced}
use Rattle.lsys_region.proofs.tests.replaced.Goals as goal

pub returns-clause-size : goal.returns-clause-size
returns-clause-size c =
    size-replaced c.args.region.now c.free.new.self c.reserve.new.self c.place.new.self c.args.run c.args.list.now c.requires.live c.requires.room c.free.ensures.given_back c.free.ensures.size (ap (λ p. p.slots) c.in_ok-reserve.ensures.runs) (ap (λ p. p.size) c.in_ok-reserve.ensures.runs) c.place.ensures.reuses
