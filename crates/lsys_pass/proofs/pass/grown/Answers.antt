use Rattle.std.proofs.Common.{subst}
use Rattle.lsys_reads.specs.Seats.{HasSeat}
use Rattle.lsys_pass.proofs.pass.grown.Goals as goal

pub returns : goal.returns
returns g c = record {
  others = c.in_ok-forest.ensures.root;
  root = c.in_ok-forest.ensures.alone;
  rest = c.in_ok-forest.ensures.rest;
  live = c.in_ok-forest.ensures.live;
  unmarked = c.in_ok-seats.ensures.clear;
  seated = subst (HasSeat c.in_ok-seats.seats) c.root.ensures.root c.in_ok-seats.ensures.seat;
}
