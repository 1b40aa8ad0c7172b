use Rattle.lsys_walks.proofs.Agreeing.{equal_traces, same_traces, traces_told}
use Rattle.lsys_walks.proofs.law.law_of_tagged_traces.Goals as goal

pub returns-clause-equal : goal.returns-clause-equal
returns-clause-equal c = λ before after old new h. equal_traces before after old new h

pub returns-clause-tested : goal.returns-clause-tested
returns-clause-tested c = λ before after old new h. same_traces before after old new h

pub returns-clause-told : goal.returns-clause-told
returns-clause-told c = λ before after old new h u v. traces_told before after old new h u v
