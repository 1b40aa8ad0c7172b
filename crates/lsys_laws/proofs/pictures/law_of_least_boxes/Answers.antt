use Rattle.lsys_laws.proofs.Boxed.{box_least}
use Rattle.lsys_laws.proofs.pictures.law_of_least_boxes.Goals as goal

pub returns : goal.returns
returns c = box_least
