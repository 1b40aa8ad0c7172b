use Rattle.lsys_laws.proofs.Placed.{settled, seat_told}
use Rattle.lsys_laws.proofs.seats.law_of_seats.Goals as goal

pub returns : goal.returns
returns c = record { settled = settled; disturbed = seat_told }
