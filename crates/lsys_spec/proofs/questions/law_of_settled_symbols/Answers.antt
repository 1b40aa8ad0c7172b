use Rattle.lsys_spec.proofs.Standings.{still_there}
use Rattle.lsys_spec.proofs.questions.law_of_settled_symbols.Goals as goal

pub returns : goal.returns
returns c x y p a l h e = let r = still_there x y p a l h e in (r.0, r.2)
