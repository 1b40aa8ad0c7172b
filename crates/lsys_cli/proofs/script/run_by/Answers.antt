use Rattle.std.proofs.Common.{refl}
use Rattle.lsys_cli.specs.Ends.{seen}
use Rattle.lsys_cli.specs.Programs.{Untouched, UntouchedSink}
use Rattle.lsys_cli.proofs.Programs.{by_sample}
use Rattle.lsys_cli.proofs.script.run_by.Goals as goal

pub returns-in-Some-clause-ends : goal.returns-in-Some-clause-ends
returns-in-Some-clause-ends g c =
    by_sample g.D.Derivation.visits c.args.options c.in-Some.number (UntouchedSink c.args.sink.now c.run_sample.new.sink c.args.asked.now c.run_sample.new.asked c.args.visited.now c.run_sample.new.visited)
    (Untouched c.args.source.now c.args.source.now c.args.sink.now c.run_sample.new.sink c.args.asked.now c.run_sample.new.asked c.args.visited.now c.run_sample.new.visited)
    (g.S.Source.left c.args.source.now) (g.S.Source.left c.args.source.now) (seen g.K.Sink.written c.args.sink.now c.args.asked.now c.args.visited.now)
    (seen g.K.Sink.written c.run_sample.new.sink c.run_sample.new.asked c.run_sample.new.visited) c.run_sample.result c.in-Some.is
    (λ u. (refl, u)) c.run_sample.ensures.ends
