use Rattle.std.proofs.Common.{◌≢◌, ◌∙◌, Some, refl, arith}
use Rattle.lsys_cli.specs.Ends.{seen}
use Rattle.lsys_cli.specs.Programs.{Untouched, UntouchedSink}
use Rattle.lsys_cli.specs.declared.status.Status.TheVariants.{ReadFault}
use Rattle.lsys_cli.proofs.Programs.{of_sample}
use Rattle.lsys_cli.proofs.script.run_sample.Goals as goal

pub returns-clause-ends : goal.returns-clause-ends
returns-clause-ends g c =
    let unread : c.run_script.result ≢ ReadFault = λ e. let bad = c.run_script.ensures.read_fault_only_where_rose e in omega (arith, bad) in
    of_sample g.D.Derivation.visits c.args.limit c.args.number c.new-source.result (Some c.new-source.result)
    (Untouched c.new-source.result c.run_script.new.source c.args.sink.now c.run_script.new.sink c.args.asked.now c.run_script.new.asked c.args.visited.now c.run_script.new.visited)
    (UntouchedSink c.args.sink.now c.run_script.new.sink c.args.asked.now c.run_script.new.asked c.args.visited.now c.run_script.new.visited) (Some c.run_script.new.source)
    (seen g.K.Sink.written c.args.sink.now c.args.asked.now c.args.visited.now)
    (seen g.K.Sink.written c.run_script.new.sink c.run_script.new.asked c.run_script.new.visited) c.run_script.result (c.new-source.ensures ∙ c.in-Ok.ensures) unread refl (λ u. u.1) c.run_script.ensures.ends
