use Rattle.lsys_reads.proofs.LawLemmas.{levels_tell, seats_tell}
use Rattle.lsys_reads.proofs.seats.law_of_kept_seats.Goals as goal

pub returns : goal.returns
returns g c = record { levels = levels_tell; seats = seats_tell }
