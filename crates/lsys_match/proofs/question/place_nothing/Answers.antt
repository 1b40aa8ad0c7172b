use Rattle.std.proofs.Common.{arith}
use Rattle.lsys_region.specs.Rooms.{room_of}
use Rattle.lsys_match.proofs.question.place_nothing.Goals as goal

pub place-requires-clause-entries : goal.place-requires-clause-entries
unfolding room_of
place-requires-clause-entries c = omega arith

pub place-requires-clause-params : goal.place-requires-clause-params
unfolding room_of
place-requires-clause-params c = omega arith
