use Rattle.lsys_level.proofs.Lineages.{tags_tell, is_named, strings}
use Rattle.lsys_level.proofs.law.law_of_tags.Goals as goal

pub returns : goal.returns
returns c = record { tell = tags_tell; named = is_named; strings = strings }
