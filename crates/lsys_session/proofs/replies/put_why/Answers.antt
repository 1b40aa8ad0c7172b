use Rattle.lsys_session.proofs.replies.put_why.Goals as goal

pub returns-in-Fault : goal.returns-in-Fault
returns-in-Fault g c = rw c.in-Fault.is c.put_fault.ensures

pub returns-in-Limit : goal.returns-in-Limit
returns-in-Limit g c = rw c.in-Limit.is c.put_numbered.ensures

pub returns-in-Memory : goal.returns-in-Memory
returns-in-Memory g c = rw c.in-Memory.is c.put.ensures
