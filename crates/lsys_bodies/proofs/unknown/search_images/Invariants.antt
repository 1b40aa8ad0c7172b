use Rattle.std.proofs.Common.{drop}
use Rattle.lsys_text.specs.Tokens.{kind_row}
use Rattle.lsys_bodies.proofs.Searches.{SearchGoes, pieces}
use Rattle.lsys_bodies.proofs.unknown.search_images.Given as goal

abbrev pub invariant-loop-image : goal.invariant-loop-image
invariant-loop-image l = SearchGoes l.formals l.place (pieces (kind_row l.tokens) l.images) l.end (pieces (kind_row l.tokens) (drop l.image-index l.images))
