use Rattle.lsys_match.proofs.Same.{same_answers}
use Rattle.lsys_match.proofs.recalled.law_of_same_answers.Goals as goal

pub returns : goal.returns
returns c old new t x y p q tag tag' m n a b naming h g f u v = same_answers old new t x y p q tag tag' m n a b naming h g f u v
