use Rattle.lsys_laws.proofs.KeptLevels.{opening_levels, reply_levels, out_levels}
use Rattle.lsys_laws.proofs.edits.law_of_session_levels.Goals as goal

pub returns : goal.returns
returns c = record { opening = opening_levels; line = reply_levels; sessions = out_levels }
