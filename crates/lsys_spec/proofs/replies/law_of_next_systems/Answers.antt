use Rattle.lsys_spec.proofs.NextSystems.{refusal_keeps, query_keeps, edit_applies}
use Rattle.lsys_spec.proofs.replies.law_of_next_systems.Goals as goal

pub returns : goal.returns
returns c = record { refused = refusal_keeps; query = query_keeps; edit = edit_applies }
