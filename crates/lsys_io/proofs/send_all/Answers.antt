use Rattle.std.proofs.Common.{rules}
use Rattle.lsys_io.proofs.Known.{appends_more}
use Rattle.lsys_io.proofs.send_all.Goals as goal

pub loop-at-preserved : goal.loop-at-preserved
loop-at-preserved g c = record {
  within = search rules;
  count = search rules;
  sent =
      appends_more (g.K.Sink.written c.args.sink.now) (g.K.Sink.written c.loop-at.sink) (g.K.Sink.written c.write.new.self)
      c.loop-at.at c.in_ok-at.field-0 c.args.bytes.now c.loop-at.invariant.sent c.in_ok-at.ensures.appends;
}
