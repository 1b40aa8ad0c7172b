use Rattle.lsys_rules.proofs.script.put_numbering.Goals as goal

pub returns-in-Names : goal.returns-in-Names
returns-in-Names g c = rw c.in-Names.is c.put.ensures
