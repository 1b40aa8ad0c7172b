use Rattle.lsys_flat.proofs.Apart.{mates_apart}
use Rattle.lsys_flat.proofs.given.law_of_mates.Goals as goal

pub returns : goal.returns
returns c x y places r m = mates_apart x y places r m
