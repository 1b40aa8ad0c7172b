use Rattle.lsys_laws.proofs.ShownReplies.{taken_back, all_taken_back}
use Rattle.lsys_laws.proofs.sessions.law_of_shown_replies.Goals as goal

pub returns : goal.returns
returns c = record { taken_back = taken_back; sessions = all_taken_back }
