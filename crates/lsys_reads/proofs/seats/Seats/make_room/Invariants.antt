use Rattle.std.proofs.Common.{◌-◌, ◌+◌, length}
use Rattle.lsys_reads.specs.Seats.{SameSeats, SameMarks, KeepsSeats}
use Rattle.lsys_reads.proofs.seats.Seats.make_room.Given as goal

abbrev pub invariant-loop-self : goal.invariant-loop-self
invariant-loop-self l = record {
  seats : SameSeats l.initial.self-inside.seats.items l.self-inside.seats.items;
  marks : SameMarks l.initial.self-inside.seats.items l.self-inside.seats.items;
  keeps : KeepsSeats l.initial.self-inside.seats.items l.self-inside.seats.items;
}

abbrev pub decreases-loop-self : goal.decreases-loop-self
decreases-loop-self l = l.last + 1 - length l.self-inside.seats.items
