use Rattle.lsys_io.proofs.Puts.{puts_nothing}
use Rattle.lsys_session.proofs.replies.put_column.Goals as goal

pub returns-in-None : goal.returns-in-None
returns-in-None g c = rw c.in-None.is puts_nothing

pub returns-in-Some : goal.returns-in-Some
returns-in-Some g c = rw c.in-Some.is c.put_blank_number.ensures
