use Rattle.std.proofs.Common.{refl, arith}
use Rattle.lsys_flat.proofs.Growing.{more_found}
use Rattle.lsys_flat.proofs.counted.law_of_found_levels.Goals as goal

pub returns-clause-first : goal.returns-clause-first
returns-clause-first c s rows xs y olds = (refl, refl)

pub returns-clause-more : goal.returns-clause-more
returns-clause-more c s rows seen xs ys z olds fresh taken f k t e same h l = more_found s rows seen xs olds z f k t same 0 ys fresh taken t e (omega arith) h l
