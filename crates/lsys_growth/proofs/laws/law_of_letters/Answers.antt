use Rattle.lsys_growth.proofs.LettersAmong.{are_letters}
use Rattle.lsys_growth.proofs.laws.law_of_letters.Goals as goal

pub returns : goal.returns
returns c = are_letters
