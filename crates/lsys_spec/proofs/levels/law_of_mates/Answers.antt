use Rattle.lsys_spec.proofs.Balanced.{is_level}
use Rattle.lsys_spec.proofs.Rising.{distinct_apart}
use Rattle.lsys_spec.proofs.levels.law_of_mates.Goals as goal

pub returns : goal.returns
returns c x b r = is_level x b (distinct_apart x r)
