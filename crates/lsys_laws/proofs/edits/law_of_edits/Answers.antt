use Rattle.lsys_laws.proofs.KeptPlain.{opening_well}
use Rattle.lsys_laws.proofs.KeptWhole.{apply_kept, reply_kept, out_kept, session_kept, session_shown, session_plain}
use Rattle.lsys_laws.proofs.edits.law_of_edits.Goals as goal

pub returns : goal.returns
returns c = record { opening = opening_well; edits = apply_kept; line = reply_kept; sessions = out_kept; last = session_kept; shown = session_shown; plain = session_plain }
