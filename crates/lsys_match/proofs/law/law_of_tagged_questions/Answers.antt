use Rattle.lsys_walks.proofs.Agreeing.{equal_traces}
use Rattle.lsys_match.proofs.Tagged.{lifted}
use Rattle.lsys_match.proofs.law.law_of_tagged_questions.Goals as goal

pub returns : goal.returns
returns c before after t p q h = lifted before after t p q h (equal_traces before after p.trace q.trace h.traces)
