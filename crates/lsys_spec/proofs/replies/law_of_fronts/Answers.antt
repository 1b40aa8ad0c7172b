use Rattle.lsys_spec.proofs.Fronts.{out_front, out_ended}
use Rattle.lsys_spec.proofs.replies.law_of_fronts.Goals as goal

pub returns : goal.returns
returns c = record { front = out_front; ended = out_ended }
