use Rattle.lsys_growth.specs.Growth.{growth_at}
use Rattle.lsys_cli.proofs.Growing.{growth_printed, growth_refused}
use Rattle.lsys_cli.proofs.growth_reply.answer_growth.Goals as goal

pub returns-in-Ok : goal.returns-in-Ok
returns-in-Ok g c =
    growth_printed g.K.Sink.written g.K.Sink.faults c.args.sink.now c.print_growth.new.sink c.print_growth.new.out c.args.system.now (growth_at c.args.system.now c.args.level) c.in-Ok.growth c.print_growth.result
    c.in-Ok.ensures c.print_growth.ensures

pub returns-in-Err : goal.returns-in-Err
returns-in-Err g c =
    growth_refused g.K.Sink.written g.K.Sink.faults c.args.sink.now c.refuse_growth.new.sink c.refuse_growth.new.out c.args.system.now (growth_at c.args.system.now c.args.level) c.in-Err.refusal c.refuse_growth.result
    c.in-Err.ensures c.refuse_growth.ensures
