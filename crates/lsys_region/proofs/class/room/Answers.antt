use Rattle.std.proofs.Common.{sym, ap}
use Rattle.lsys_region.specs.Rooms.{room_of}
use Rattle.lsys_region.proofs.RoomLemmas.{room_of_least, room_below_double}
use Rattle.lsys_region.proofs.class.room.Goals as goal

pub returns-then-length-eq0-clause-value : goal.returns-then-length-eq0-clause-value
unfolding room_of
returns-then-length-eq0-clause-value c = sym (ap room_of c.if-length-eq0.true)

pub returns-clause-least : goal.returns-clause-least
returns-clause-least c positive = rw c.class_of.ensures (room_of_least c.args.length positive)

pub returns-clause-more_than_half : goal.returns-clause-more_than_half
returns-clause-more_than_half c positive = rw c.class_of.ensures (room_below_double c.args.length positive)
