use Rattle.lsys_laws.proofs.Shifted.{segments_shifted}
use Rattle.lsys_laws.proofs.pictures.law_of_shifted_turtles.Goals as goal

pub returns : goal.returns
returns c l by n xs t gs hs h k = segments_shifted l by n xs t gs hs h k
