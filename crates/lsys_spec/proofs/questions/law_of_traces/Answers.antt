use Rattle.lsys_spec.proofs.Answered.{trace_present}
use Rattle.lsys_spec.proofs.questions.law_of_traces.Goals as goal

pub returns : goal.returns
returns c s t bs x p l m = trace_present s t bs x p l m
