use Rattle.std.proofs.Common.{refl, arith}
use Rattle.lsys_flat.proofs.Visits.{least_within, level_visits, level_few, more_questions}
use Rattle.lsys_flat.proofs.counted.law_of_visits.Goals as goal

pub returns-clause-least : goal.returns-clause-least
returns-clause-least c = least_within

pub returns-clause-level : goal.returns-clause-level
returns-clause-level c s t x = level_visits s t x 0 x

pub returns-clause-few : goal.returns-clause-few
returns-clause-few c s t x = level_few s t x 0 x

pub returns-clause-first : goal.returns-clause-first
returns-clause-first c s x = refl

pub returns-clause-more : goal.returns-clause-more
returns-clause-more c s xs y t e = more_questions s 0 xs y t t e (omega arith)
