use Rattle.lsys_region.specs.Layout.{all_places}
use Rattle.lsys_region.proofs.PackedLemmas.{number_of-below}
use Rattle.lsys_region.proofs.packed.Link.to.Goals as goal

pub returns : goal.returns
returns c = number_of-below all_places c.args.number c.requires
