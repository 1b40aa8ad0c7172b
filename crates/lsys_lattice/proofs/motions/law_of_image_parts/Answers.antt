use Rattle.lsys_lattice.proofs.Imaging.{image-append, part_image, image_balanced, spelled_balanced}
use Rattle.lsys_lattice.proofs.motions.law_of_image_parts.Goals as goal

pub returns-clause-parts : goal.returns-clause-parts
returns-clause-parts c = image-append

pub returns-clause-middle : goal.returns-clause-middle
returns-clause-middle c = part_image

pub returns-clause-balanced : goal.returns-clause-balanced
returns-clause-balanced c s x ys b h e = image_balanced s.homomorphisms b x 0 0 0 ys h e

pub returns-clause-spelled : goal.returns-clause-spelled
returns-clause-spelled c s w = spelled_balanced s.homomorphisms w.homomorphisms
